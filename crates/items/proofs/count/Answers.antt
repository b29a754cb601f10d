use Rattle.items.proofs.Counts.{counts}
use Rattle.items.proofs.count.Goals as goal

pub returns-then-s-first : goal.returns-then-s-first
returns-then-s-first c = search counts

pub returns-then-s-first-eq59 : goal.returns-then-s-first-eq59
returns-then-s-first-eq59 c = search counts

pub returns-then-s-first-eq10 : goal.returns-then-s-first-eq10
returns-then-s-first-eq10 c = search counts

pub loop-next-init : goal.loop-next-init
loop-next-init c = search counts

pub overflow_add-count : goal.overflow_add-count
overflow_add-count c = search (counts, c.in_ok-next.was)

pub returns-then-s-next : goal.returns-then-s-next
returns-then-s-next c = search (counts, c.in_ok-next.was)

pub returns-then-s-next-eq59 : goal.returns-then-s-next-eq59
returns-then-s-next-eq59 c = search (counts, c.in_ok-next.was)

pub returns-in_err-place : goal.returns-in_err-place
returns-in_err-place c = search (counts, c.in_ok-next.was, c.in_err-place.was)

pub loop-next-smaller : goal.loop-next-smaller
loop-next-smaller c = search (counts, c.in_ok-next.was, c.in_ok-place.was)

pub loop-next-preserved : goal.loop-next-preserved
loop-next-preserved c = search (counts, c.in_ok-next.was, c.in_ok-place.was)
