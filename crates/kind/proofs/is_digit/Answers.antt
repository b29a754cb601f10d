-- The library's class is this one at each byte: one computed test over 256.
use Rattle.std.proofs.Common.{◌∙◌}
use Rattle.std.specs.Char.{is_ascii_digit}
use Rattle.kind.specs.Class.{is_digit}
use Rattle.kind.proofs.Bytes.{agrees}
use Rattle.kind.proofs.is_digit.Goals as goal

pub returns : goal.returns
unfolding is_digit
returns c = c.is_ascii_digit.ensures.value ∙ agrees is_ascii_digit is_digit 256 c.args.b tt c.ranges.b.fits
