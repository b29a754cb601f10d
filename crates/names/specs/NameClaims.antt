-- What is proved of names and their spellings, besides the promises of the functions. The proofs are in proofs/NameClaims.
use Rattle.std.specs.Prelude.{ℕ, ◌≡◌, List, Bool, false, get_or}
use Rattle.util.specs.Decides.{Decides}
use Rattle.mnemonic.specs.Spelling.{Name}
use Rattle.name.specs.Share.{shares, Share}

pub record Claims : Type 0 where
  -- there is one answer to whether a text is a name
  pub one_answer : (s : List ℕ) (a b : Bool) → Decides (Name s) a → Decides (Name s) b → a ≡ b
  -- two names share a spelling exactly where the test says so
  pub sharing : (a b : List ℕ) → Name a → Name b → Decides (Share a b) (shares a b)
  -- two names that begin with different characters share none
  pub initials : (a b : List ℕ) → Name a → Name b → (get_or a 0 0 ≡ get_or b 0 0 → ⊥) → shares a b ≡ false
