-- The constant table is the rule at each byte: one computed test over its 256 entries.
use Rattle.kind.specs.Class.{is_white_space, is_capital, is_small, is_digit, is_sign, is_quote, is_ascii}
use Rattle.kind.specs.Kind.{kind_of}
use Rattle.kind.proofs.Bytes.{entry}
use Rattle.kind.proofs.kind_of.Goals as goal

pub returns : goal.returns
unfolding kind_of is_white_space is_capital is_small is_digit is_sign is_quote is_ascii
returns c = entry _ kind_of 256 _ c.ranges.b.fits
