-- What is proved of the children of a branch, besides the promises of the functions. The proofs are in proofs/BranchClaims.
use Rattle.std.specs.Prelude.{ℕ, ◌≡◌, List, Bool, Option}
use Rattle.util.specs.Decides.{Decides}
use Rattle.node.specs.Tree.{Child}
use Rattle.branch.specs.Children.{Picks, PicksIn}
use Rattle.branch.specs.Block.{children_of}

pub record Claims : Type 0 where
  -- for every branch of every table and every test there is a pick, and one only
  pub some_pick : (t : List ℕ) (b : ℕ) (p : ℕ → Bool) → (x : Option ℕ) × Picks t b p x
  pub one_pick : (t : List ℕ) (b : ℕ) (p : ℕ → Bool) (x y : Option ℕ) → Picks t b p x → Picks t b p y → x ≡ y
  -- and so for every block
  pub one_pick_in : (p : ℕ → Bool) (from to : ℕ) (x y : Option ℕ) → PicksIn p from to x → PicksIn p from to y → x ≡ y
  -- a node is a child of a branch, or it is not
  pub one_child : (t : List ℕ) (b k : ℕ) (x y : Bool) → Decides (Child t b k) x → Decides (Child t b k) y → x ≡ y
  -- a pick among the children of a branch is a pick of the branch
  pub picks_children : (t : List ℕ) (b : ℕ) (p : ℕ → Bool) (x : Option ℕ) → PicksIn p (children_of t b).from (children_of t b).to x → Picks t b p x
