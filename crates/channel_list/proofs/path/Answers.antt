use Rattle.channel_list.proofs.Steps.{paths}
use Rattle.channel_list.proofs.path.Goals as goal

pub overflow_add-view : goal.overflow_add-view
overflow_add-view c = search paths

pub returns-in-Ok : goal.returns-in-Ok
returns-in-Ok c = search paths

pub returns-in-Err : goal.returns-in-Err
returns-in-Err c = search paths
