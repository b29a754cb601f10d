use Rattle.enclosed.proofs.Strings.{laws}
use Rattle.enclosed.proofs.read_string_data.Goals as goal

pub returns-then-s-end : goal.returns-then-s-end
returns-then-s-end c = search laws

pub returns-then-s-end-2 : goal.returns-then-s-end-2
returns-then-s-end-2 c = search laws

pub returns : goal.returns
returns c = search laws
