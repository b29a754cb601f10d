use Rattle.coordinate.proofs.Coordinates.{looks}
use Rattle.coordinate.proofs.has_bang.Goals as goal

pub returns-then-spec-i-eq33 : goal.returns-then-spec-i-eq33
returns-then-spec-i-eq33 c = search looks

pub loop-i-preserved : goal.loop-i-preserved
loop-i-preserved c = search looks

pub returns : goal.returns
returns c = search looks
