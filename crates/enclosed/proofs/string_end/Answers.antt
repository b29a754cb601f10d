use Rattle.enclosed.proofs.Strings.{laws}
use Rattle.enclosed.proofs.string_end.Goals as goal

pub returns-then-s-next : goal.returns-then-s-next
returns-then-s-next c = search laws

pub returns-then-s-next-2 : goal.returns-then-s-next-2
returns-then-s-next-2 c = search laws

pub loop-end-preserved-then-s-end : goal.loop-end-preserved-then-s-end
loop-end-preserved-then-s-end c = search laws

pub returns-then-s-end-ge128 : goal.returns-then-s-end-ge128
returns-then-s-end-ge128 c = search laws

pub loop-end-preserved : goal.loop-end-preserved
loop-end-preserved c = search laws

pub returns : goal.returns
returns c = search laws
