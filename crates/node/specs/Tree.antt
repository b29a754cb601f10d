-- The tree that a table of node words describes. Node 0 is the root.
use Rattle.std.specs.Prelude.{ℕ, ◌+◌, ◌≤◌, ◌<◌, ◌≡◌, List, Bool, true, get_or}
use Rattle.node.specs.Word.{is_branch, is_default, first_child, child_count, name_in}

-- The fields of a node. There is no branch and no default node past the end of the table.

abbrev pub branch : List ℕ → ℕ → Bool
branch t k = is_branch (get_or t k 0)

abbrev pub default : List ℕ → ℕ → Bool
default t k = is_default (get_or t k 0)

abbrev pub first : List ℕ → ℕ → ℕ
first t k = first_child (get_or t k 0)

abbrev pub count : List ℕ → ℕ → ℕ
count t k = child_count (get_or t k 0)

abbrev pub name_of : List ℕ → List ℕ → ℕ → List ℕ
name_of t names k = name_in names (get_or t k 0)

-- the node k is a child of the branch b: it lies in the block of b, which in an accepted table lies in the table
pub record Child (t : List ℕ) (b k : ℕ) : Type 0 where
  pub holder : branch t b ≡ true
  pub from : first t b ≤ k
  pub below : k < first t b + count t b

-- the near nodes of a branch: its children, and the near nodes of a default branch among these
pub data Near (t : List ℕ) : ℕ → ℕ → Type 0 where
  child : {b k : ℕ} → Child t b k → Near t b k
  under : {b d k : ℕ} → Child t b d → default t d ≡ true → Near t d k → Near t b k
