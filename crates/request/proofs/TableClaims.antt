-- The claims.
use borrow.Author.Rules.{rules}
use Rattle.kind.specs.Class.{is_digit}
use Rattle.util.specs.Run.{run, run_end, every}
use Rattle.integer.specs.Digit.{digit_of, value_of}
use Rattle.request.specs.{Hex.is_dash, TableClaims.Rows, Number.is_number, Number.number_of, Slash.slash_at}
use Rattle.request.specs.Words.{on_first, pieces, pieces_of, are_numbers, numbers_of, written, words_in}

pub rows : Rows
unfolding slash_at run_end run number_of is_number every is_digit value_of digit_of words_in written pieces_of is_dash pieces on_first are_numbers numbers_of
rows = search rules
