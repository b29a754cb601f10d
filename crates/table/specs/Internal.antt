-- What the functions of the check look for, each in its part of the table. No promise of a public function rests on this.
use Rattle.std.specs.Prelude.{ℕ, ◌+◌, ◌≤◌, ◌<◌, ◌≡◌, List, true, length, Option, Some, None}
use Rattle.name.specs.Share.{shares}
use Rattle.node.specs.Tree.{branch, default, first, count, name_of, Child, Near}
use Rattle.layout.specs.Layout.{ChildBlocks, NodeName}
use Rattle.table.specs.Fault.{TwoDefaults}

-- two default nodes among those from a place up to an end
pub record TwoDefaultsIn (t : List ℕ) (from to : ℕ) : Type 0 where
  pub one : ℕ
  pub other : ℕ
  pub low : from ≤ one
  pub order : one < other
  pub high : other < to
  pub default_one : default t one ≡ true
  pub default_other : default t other ≡ true

-- at most one default node among those from a place up to an end
pub record OneDefault (t : List ℕ) (from to : ℕ) : Type 0 where
  pub one : TwoDefaultsIn t from to → ⊥

-- a default branch among the nodes from a place up to an end, or none where there is none
pub data DefaultBranch (t : List ℕ) (from to : ℕ) : Option ℕ → Type 0 where
  inner : {d : ℕ} → from ≤ d → d < to → branch t d ≡ true → default t d ≡ true → DefaultBranch t from to (Some d)
  no_inner : ((k : ℕ) → from ≤ k → k < to → branch t k ≡ true → default t k ≡ true → ⊥) → DefaultBranch t from to None

-- a node among those from a place up to an end shares a spelling with the name
pub record SharesIn (t names name : List ℕ) (from to : ℕ) : Type 0 where
  pub node : ℕ
  pub low : from ≤ node
  pub high : node < to
  pub shared : shares name (name_of t names node) ≡ true

-- two nodes of one block share a spelling
pub record ChildrenShare (t names : List ℕ) (first end : ℕ) : Type 0 where
  pub one : ℕ
  pub low : first ≤ one
  pub rest : SharesIn t names (name_of t names one) (one + 1) end

-- a node of one block shares a spelling with a node of another
pub record BlocksShare (t names : List ℕ) (first end from to : ℕ) : Type 0 where
  pub one : ℕ
  pub low : from ≤ one
  pub high : one < to
  pub rest : SharesIn t names (name_of t names one) first end

-- a near node of a branch shares a spelling with a node of a block
pub record NearShares (t names : List ℕ) (first end b : ℕ) : Type 0 where
  pub one : ℕ
  pub near : Near t b one
  pub rest : SharesIn t names (name_of t names one) first end

-- a near node of the default branch of b shares a spelling with a node of a block
pub record DefaultShares (t names : List ℕ) (first end b : ℕ) : Type 0 where
  pub inner : ℕ
  pub inner_child : Child t b inner
  pub inner_default : default t inner ≡ true
  pub shares : NearShares t names first end inner

-- two children of a branch share a spelling, or a child and a near node of the default branch
pub data SharesAt (t names : List ℕ) (b : ℕ) : Type 0 where
  children : ChildrenShare t names (first t b) (first t b + count t b) → SharesAt t names b
  below : DefaultShares t names (first t b) (first t b + count t b) b → SharesAt t names b

-- a table without fault 3
pub record Blocks (t : List ℕ) : Type 0 where
  pub no_child_blocks : ChildBlocks t → ⊥

-- a table without the faults 3 to 5
pub record Ready (t names : List ℕ) : Type 0 where
  pub blocks : Blocks t
  pub no_node_name : NodeName t names → ⊥
  pub no_two_defaults : TwoDefaults t → ⊥

-- nodes of such a table from a place up to an end, none of them the root
pub record NamedBlock (t names : List ℕ) (first end : ℕ) : Type 0 where
  pub ready : Ready t names
  pub some : 0 < first
  pub within : end ≤ length t
