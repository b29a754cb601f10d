-- What is proved of command tables, besides the promise of the check. The proofs are in proofs/TableClaims.
use Rattle.std.specs.Prelude.{ℕ, ◌+◌, ◌^◌, ◌<◌, ◌≡◌, ◌↔◌, List, [], ◌∷◌, true, pos, length, Result}
use Rattle.error.specs.Code.{code_of}
use Rattle.error.specs.declared.ErrorCode.{ErrorCode}
use Rattle.mnemonic.specs.Spelling.{Name, spells}
use Rattle.node.specs.Tree.{branch, default, name_of, Child, Near}
use Rattle.table.specs.Fault.{SharedSpelling, Fault, Accepted, Verdict}
use Rattle.table.specs.Internal.{Ready, SharesAt}

-- An accepted table is a tree of named nodes, in which a word has one meaning at most at each branch.
pub record Tree (t names : List ℕ) : Type 0 where
  -- the root is a branch
  pub root : branch t 0 ≡ true
  -- each node but the root is a child of a branch, and of one only
  pub held : (k : ℕ) → 0 < k → k < length t → (b : ℕ) × Child t b k
  pub one_holder : {b c k : ℕ} → Child t b k → Child t c k → b ≡ c
  -- a child lies behind its branch, in the table
  pub after : {b k : ℕ} → Child t b k → b < k
  pub inside : {b k : ℕ} → Child t b k → k < length t
  -- a branch has one default child at most
  pub one_default : {b k j : ℕ} → Child t b k → Child t b j → default t k ≡ true → default t j ≡ true → k ≡ j
  -- each node but the root has a name
  pub named : (k : ℕ) → 0 < k → k < length t → Name (name_of t names k)
  -- no word spells two near nodes of a branch
  pub apart : {b k j : ℕ} → Near t b k → Near t b j → (w : List ℕ) → spells (name_of t names k) w ≡ true → spells (name_of t names j) w ≡ true → k ≡ j

-- the word of a root with no children: a branch, its block at 1
abbrev pub root_word : ℕ
root_word = 2 ^ 63 + 2 ^ 26

pub record Claims : Type 0 where
  -- every accepted table is such a tree
  pub accepted : (t names : List ℕ) → Accepted t names → Tree t names
  -- a root alone is accepted
  pub root_alone : Accepted (root_word ∷ []) []
  -- the check can say one thing only of a table
  pub one_verdict : (t names : List ℕ) (c d : Result Unit ErrorCode) → Verdict t names c → Verdict t names d → c ≡ d
  -- two near nodes of some branch share a spelling exactly where, at some branch, two children do, or a child and a near node of the
  -- default branch
  pub enough : (t names : List ℕ) → Ready t names → SharedSpelling t names ↔ ((b : ℕ) × (branch t b ≡ true) × SharesAt t names b)
  -- a fault is reported by its number
  pub numbers : (t names : List ℕ) (e : ErrorCode) (n : ℕ) → Fault t names e n → code_of e ≡ pos n
