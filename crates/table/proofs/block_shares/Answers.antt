use Rattle.table.proofs.Shared.{block_laws}
use Rattle.table.proofs.block_shares.Goals as goal
use Rattle.table.proofs.block_shares.Goals.{then-initial+else-is_spelling_shared, else-initial}

pub returns-then-is_spelling_shared : goal.returns-then-is_spelling_shared
returns-then-is_spelling_shared c = search block_laws

pub loop-k-smaller : goal.loop-k-smaller
loop-k-smaller c = search block_laws

pub loop-k-preserved : goal.loop-k-preserved
loop-k-preserved c =
    elim c.if-initial.branch [ then-initial+else-is_spelling_shared w ↦ search block_laws | else-initial w ↦ search block_laws ]

pub returns : goal.returns
returns c = search block_laws
