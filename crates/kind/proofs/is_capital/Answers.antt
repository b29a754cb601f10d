-- The library's class is this one at each byte: one computed test over 256.
use Rattle.std.proofs.Common.{◌∙◌}
use Rattle.std.specs.Char.{is_ascii_uppercase}
use Rattle.kind.specs.Class.{is_capital}
use Rattle.kind.proofs.Bytes.{agrees}
use Rattle.kind.proofs.is_capital.Goals as goal

pub returns : goal.returns
unfolding is_capital
returns c = c.is_ascii_uppercase.ensures.value ∙ agrees is_ascii_uppercase is_capital 256 c.args.b tt c.ranges.b.fits
