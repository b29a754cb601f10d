-- The claims.
use borrow.Author.Rules.{rules}
use Rattle.kind.specs.Class.{is_white_space, is_digit}
use Rattle.util.specs.Run.{run, run_end}
use Rattle.request.specs.{Claims.Claims, Field.field_at, Hex.are_pairs, Hex.bytes_of, Hex.is_dash, Hex.text_of}
use Rattle.integer.specs.Digit.{digit_of, is_digit_of}
use Rattle.request.proofs.Texts.{until}

pub claims : Claims
unfolding field_at run_end run is_white_space text_of is_dash are_pairs bytes_of is_digit_of digit_of is_digit
claims = record { ends = λ line from to out at n slots. until out at n slots line from to; rows = search rules }
