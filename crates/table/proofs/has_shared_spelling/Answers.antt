use Rattle.table.proofs.Theorem.{clear_laws}
use Rattle.table.proofs.has_shared_spelling.Goals as goal
use Rattle.table.proofs.has_shared_spelling.Goals.{else-is_branch-via-then-is_branch+else-shares_at, else-is_branch-via-else-is_branch}

pub returns-then-shares_at : goal.returns-then-shares_at
returns-then-shares_at c = search clear_laws

pub loop-b-preserved : goal.loop-b-preserved
loop-b-preserved c =
    elim c.else-is_branch.branch [ else-is_branch-via-then-is_branch+else-shares_at w ↦ search clear_laws | else-is_branch-via-else-is_branch w ↦ search clear_laws ]

pub returns : goal.returns
returns c = search clear_laws
