-- The children that a header goes down to from a branch, in any table at all.
use Rattle.std.specs.Prelude.{ℕ, ◌+◌, ◌≤◌, ◌<◌, ◌≡◌, List, Bool, true, false, length, Option, Some, None}
use Rattle.node.specs.Tree.{default, first, count, Child}

-- A child in a block that lies after its branch and in the table. In an accepted table every child is one; in others a block that does not
-- lie so has no children to go down to.
pub record Below (t : List ℕ) (b k : ℕ) : Type 0 where
  pub child : Child t b k
  pub behind : b < first t b
  pub within : first t b + count t b ≤ length t

-- SCPI-99 6.2.4: the node may be left unsaid
unfoldable pub unsaid_in : List ℕ → ℕ → Bool
unsaid_in t k = default t k

-- the first child of b that passes a test, or none where none does
pub data Picks (t : List ℕ) (b : ℕ) (p : ℕ → Bool) : Option ℕ → Type 0 where
  first_one : {k : ℕ} → Below t b k → p k ≡ true → ((j : ℕ) → Below t b j → j < k → p j ≡ false) → Picks t b p (Some k)
  not_one : ((j : ℕ) → Below t b j → p j ≡ false) → Picks t b p None

-- the first node of a block that passes a test, or none where none does
pub data PicksIn (p : ℕ → Bool) (from to : ℕ) : Option ℕ → Type 0 where
  first_in : {k : ℕ} → from ≤ k → k < to → p k ≡ true → ((j : ℕ) → from ≤ j → j < k → p j ≡ false) → PicksIn p from to (Some k)
  none_in : ((j : ℕ) → from ≤ j → j < to → p j ≡ false) → PicksIn p from to None
