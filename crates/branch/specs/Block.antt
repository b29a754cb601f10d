-- Blocks of nodes: where the children of a branch are in the table, and in which order they are gone through.
use Rattle.std.specs.Prelude.{ℕ, ◌+◌, List, cond, ◌&&◌, leb, ltb, length, get_or}
use Rattle.node.specs.Word.{first_child, child_count}
use Rattle.node.specs.Tree.{branch, first, count}
use Rattle.branch.specs.declared.Block.{Block}

abbrev pub block : ℕ → ℕ → Block
block from to = record { from = from; to = to }

-- the block that the word of a branch has, wherever that lies
unfoldable pub block_of : ℕ → Block
block_of w = block (first_child w) (first_child w + child_count w)

-- The children of a branch as a header goes through them: its block, where that lies after the branch and in the table, and else none. In
-- an accepted table each block lies so.
unfoldable pub children_of : List ℕ → ℕ → Block
children_of t b = cond (branch t b && (ltb b (first t b) && leb (first t b + count t b) (length t))) (block_of (get_or t b 0)) (block 0 0)

-- the child after a child: the index after a node of the table; an index outside the table stays
unfoldable pub next_child : List ℕ → ℕ → ℕ
next_child t k = cond (ltb k (length t)) (k + 1) k
