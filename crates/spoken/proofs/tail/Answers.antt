use Rattle.std.proofs.Common.{arith}
use mathlib.Core.Path.{refl, ap}
use mathlib.Core.Bool.{not}
use Rattle.spoken.proofs.Tails.{next_fits', counted_more', tail_laws}
use Rattle.spoken.proofs.tail.Goals as goal

pub loop-i-init : goal.loop-i-init
loop-i-init c = search tail_laws

pub returns-then-is_letter : goal.returns-then-is_letter
returns-then-is_letter c = search tail_laws

pub overflow_add-next : goal.overflow_add-next
overflow_add-next c = next_fits' _ _ _ _ _ _ c.loop-i.invariant _ c.stands.ensures (ap not c.if-not-stands.false) (omega arith)

pub loop-i-preserved : goal.loop-i-preserved
loop-i-preserved c =
    counted_more' _ _ _ _ _ _ c.loop-i.invariant _ c.stands.ensures (ap not c.if-not-stands.false) c.loop-i-test.true _ c.is_digit.ensures (ap not c.if-not-is_digit.false) _ refl _ refl

pub returns-then-not-goes_on_at : goal.returns-then-not-goes_on_at
returns-then-not-goes_on_at c = search tail_laws

pub returns-then-from-name : goal.returns-then-from-name
returns-then-from-name c = search tail_laws

pub added-requires : goal.added-requires
added-requires c = search tail_laws

pub returns : goal.returns
returns c = search tail_laws
