use Rattle.layout.proofs.Blocks.{blocks_laws}
use Rattle.layout.proofs.has_wrong_blocks.Goals as goal
use Rattle.layout.proofs.has_wrong_blocks.Goals.{then-is_branch+else-block-behind+else-block-k, else-is_branch}

pub loop-k-init : goal.loop-k-init
loop-k-init c = search blocks_laws

pub returns-then-block-behind : goal.returns-then-block-behind
returns-then-block-behind c = search blocks_laws

pub returns-then-block-k : goal.returns-then-block-k
returns-then-block-k c = search blocks_laws

pub returns : goal.returns
returns c = search blocks_laws

pub loop-k-preserved : goal.loop-k-preserved
loop-k-preserved c =
    elim c.if-is_branch.branch [ then-is_branch+else-block-behind+else-block-k w ↦ search blocks_laws | else-is_branch w ↦ rw w.behind-is (search blocks_laws) ]
