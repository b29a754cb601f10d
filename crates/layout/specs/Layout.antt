-- The faults 1 to 4 of a node table: its size, the fields of its nodes, its child blocks and the names of its nodes.
use Rattle.std.specs.Prelude.{ℕ, zero, suc, ◌+◌, ◌≤◌, ◌<◌, ◌≡◌, List, true, false, cond, length, get_or}
use Prim.Native.Char.{code}
use Rattle.util.specs.Run.{stands_at}
use Rattle.mnemonic.specs.Spelling.{Name}
use Rattle.node.specs.Word.{name_length, name_start, spare_bits}
use Rattle.node.specs.Tree.{branch, default, first, count, name_of, Child}

-- the most nodes that a table may have
abbrev pub most_nodes : ℕ
most_nodes = 4096

-- 1: no node, or more than 4,096
pub data NodeCount (t : List ℕ) : Type 0 where
  no_node : length t ≡ 0 → NodeCount t
  too_many : most_nodes < length t → NodeCount t

-- 2: spare bits that are set, a root that is no branch, default or with a name, or a leaf with children
pub data NodeFields (t : List ℕ) : Type 0 where
  some_spare_bits : (k : ℕ) → k < length t → (spare_bits (get_or t k 0) ≡ 0 → ⊥) → NodeFields t
  root_no_branch : branch t 0 ≡ false → NodeFields t
  root_default : default t 0 ≡ true → NodeFields t
  root_name_length : (name_length (get_or t 0 0) ≡ 0 → ⊥) → NodeFields t
  root_name_start : (name_start (get_or t 0 0) ≡ 0 → ⊥) → NodeFields t
  leaf_children : (k : ℕ) → k < length t → branch t k ≡ false → (count t k ≡ 0 → ⊥) → NodeFields t

-- where the child blocks of the branches before node k end, if the first begins at 1 and each next one where the last ended
unfoldable pub behind : List ℕ → ℕ → ℕ
behind t zero = 1
behind t (suc k) = cond (branch t k) (behind t k + count t k) (behind t k)

-- 3: a child block that does not follow the ones before it, blocks that do not end at the end of the table, or a block that starts at
-- or before its branch
pub data ChildBlocks (t : List ℕ) : Type 0 where
  not_behind : (b : ℕ) → branch t b ≡ true → (first t b ≡ behind t b → ⊥) → ChildBlocks t
  not_to_end : (behind t (length t) ≡ length t → ⊥) → ChildBlocks t
  too_early : (b : ℕ) → branch t b ≡ true → first t b ≤ b → ChildBlocks t

-- the most bytes that a name may have
abbrev pub longest_name : ℕ
longest_name = 12

-- A name outside the text, not of 1 to 12 bytes, or not of the form of a name. A star is only for a leaf that is a child of the root
-- and not default.
pub data BadName (t names : List ℕ) (k : ℕ) : Type 0 where
  outside : length names < name_start (get_or t k 0) + name_length (get_or t k 0) → BadName t names k
  no_byte : name_length (get_or t k 0) ≡ 0 → BadName t names k
  too_long : longest_name < name_length (get_or t k 0) → BadName t names k
  no_name : (Name (name_of t names k) → ⊥) → BadName t names k
  star_branch : stands_at (code "*") (name_of t names k) 0 ≡ true → branch t k ≡ true → BadName t names k
  star_default : stands_at (code "*") (name_of t names k) 0 ≡ true → default t k ≡ true → BadName t names k
  star_below : stands_at (code "*") (name_of t names k) 0 ≡ true → (Child t 0 k → ⊥) → BadName t names k

-- 4: a bad name of a node that is not the root
pub record NodeName (t names : List ℕ) : Type 0 where
  pub node : ℕ
  pub not_root : 0 < node
  pub inside : node < length t
  pub bad : BadName t names node
