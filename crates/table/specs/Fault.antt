-- The faults of a node table, and the table that has none.
use Rattle.std.specs.Prelude.{ℕ, ◌<◌, ◌≡◌, List, true, Result, Ok, Err}
use Rattle.error.specs.declared.ErrorCode.{ErrorCode}
use Rattle.error.specs.declared.ErrorCode.TheVariants as refusal
use Rattle.name.specs.Share.{Share}
use Rattle.node.specs.Tree.{default, name_of, Child, Near}
use Rattle.layout.specs.Layout.{NodeCount, NodeFields, ChildBlocks, NodeName}

-- 5: two default children in a branch
pub record TwoDefaults (t : List ℕ) : Type 0 where
  pub holder : ℕ
  pub one : ℕ
  pub other : ℕ
  pub child_one : Child t holder one
  pub child_other : Child t holder other
  pub two : one ≡ other → ⊥
  pub default_one : default t one ≡ true
  pub default_other : default t other ≡ true

-- 6: two near nodes of a branch that share a spelling
pub record SharedSpelling (t names : List ℕ) : Type 0 where
  pub holder : ℕ
  pub one : ℕ
  pub other : ℕ
  pub near_one : Near t holder one
  pub near_other : Near t holder other
  pub two : one ≡ other → ⊥
  pub shared : Share (name_of t names one) (name_of t names other)

-- the table has a fault, with the refusal and the number that it is reported by
pub data Fault (t names : List ℕ) : ErrorCode → ℕ → Type 0 where
  node_count : NodeCount t → Fault t names refusal.NodeCount 1
  node_fields : NodeFields t → Fault t names refusal.NodeFields 2
  child_blocks : ChildBlocks t → Fault t names refusal.ChildBlocks 3
  node_name : NodeName t names → Fault t names refusal.NodeName 4
  two_defaults : TwoDefaults t → Fault t names refusal.TwoDefaults 5
  shared_spelling : SharedSpelling t names → Fault t names refusal.SharedSpelling 6

-- a table with none of these faults is accepted
pub record Accepted (t names : List ℕ) : Type 0 where
  pub faultless : (e : ErrorCode) (n : ℕ) → Fault t names e n → ⊥

-- what the check says of a table: that it is accepted, or the smallest of its faults
pub data Verdict (t names : List ℕ) : Result Unit ErrorCode → Type 0 where
  accepts : Accepted t names → Verdict t names (Ok tt)
  refuses : {e : ErrorCode} {n : ℕ} → Fault t names e n → ((d : ErrorCode) (m : ℕ) → m < n → Fault t names d m → ⊥)
      → Verdict t names (Err e)
