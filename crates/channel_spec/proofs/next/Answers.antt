use Rattle.channel_spec.proofs.Specs.{walks}
use Rattle.channel_spec.proofs.next.Goals as goal

pub returns-then-spec-place : goal.returns-then-spec-place
returns-then-spec-place c = search walks

pub returns-then-spec-place-eq33 : goal.returns-then-spec-place-eq33
returns-then-spec-place-eq33 c = search walks

pub returns : goal.returns
returns c = search walks
