-- The library's class is this one at each byte: one computed test over 256.
use Rattle.std.proofs.Common.{◌∙◌}
use Rattle.std.specs.Char.{is_ascii_lowercase}
use Rattle.kind.specs.Class.{is_small}
use Rattle.kind.proofs.Bytes.{agrees}
use Rattle.kind.proofs.is_small.Goals as goal

pub returns : goal.returns
unfolding is_small
returns c = c.is_ascii_lowercase.ensures.value ∙ agrees is_ascii_lowercase is_small 256 c.args.b tt c.ranges.b.fits
