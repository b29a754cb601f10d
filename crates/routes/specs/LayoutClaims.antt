-- What is proved of these faults, besides the promises of the functions: whether a table has one of them has one answer only. The
-- proofs are in proofs/LayoutClaims.
use Rattle.std.specs.Prelude.{ℕ, ◌≡◌, List, Bool}
use Rattle.util.specs.Decides.{Decides}
use Rattle.layout.specs.Layout.{NodeCount, NodeFields, ChildBlocks, NodeName}

pub record Claims : Type 0 where
  pub one_count : (t : List ℕ) (a b : Bool) → Decides (NodeCount t) a → Decides (NodeCount t) b → a ≡ b
  pub one_fields : (t : List ℕ) (a b : Bool) → Decides (NodeFields t) a → Decides (NodeFields t) b → a ≡ b
  pub one_blocks : (t : List ℕ) (a b : Bool) → Decides (ChildBlocks t) a → Decides (ChildBlocks t) b → a ≡ b
  pub one_name : (t names : List ℕ) (a b : Bool) → Decides (NodeName t names) a → Decides (NodeName t names) b → a ≡ b
