use Rattle.spoken.proofs.Bytes.{begin_laws}
use Rattle.spoken.proofs.begins_alike.Goals as goal

pub returns-then-is_said : goal.returns-then-is_said
returns-then-is_said c = search begin_laws

pub returns-then-c-ne42 : goal.returns-then-c-ne42
returns-then-c-ne42 c = search begin_laws

pub returns : goal.returns
returns c = search begin_laws
