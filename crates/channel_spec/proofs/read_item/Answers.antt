use Rattle.channel_spec.proofs.Specs.{walks}
use Rattle.channel_spec.proofs.read_item.Goals as goal

pub returns-in-Ok : goal.returns-in-Ok
returns-in-Ok c = search walks

pub returns-in-Err : goal.returns-in-Err
returns-in-Err c = search walks
