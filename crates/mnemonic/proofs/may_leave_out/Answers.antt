use Rattle.mnemonic.proofs.Bytes.{laws}
use Rattle.mnemonic.proofs.may_leave_out.Goals as goal

pub returns-then-is_small : goal.returns-then-is_small
returns-then-is_small c = search laws

pub returns-then-is_capital : goal.returns-then-is_capital
returns-then-is_capital c = search laws

pub returns : goal.returns
returns c = search laws
