-- Names with a spelling in common. What a name is, and which words spell one, is said in Spelling of the crate mnemonic.
use Rattle.std.specs.Prelude.{ℕ, ◌≡◌, List, Bool, true, ◌&&◌, ◌||◌, take}
use Rattle.util.specs.Run.{run}
use Rattle.mnemonic.specs.Mnemonic.{not_small, compares, stem, numeric_suffix, same_numeric_suffix}
use Rattle.mnemonic.specs.Spelling.{spells}

-- a text, or what stands in it before the small letters, is a form of the mnemonic
unfoldable pub form_of : List ℕ → List ℕ → Bool
form_of m x = compares m x || compares m (take (run not_small x) x)

-- SCPI-99 6.2.1: the long or the short form of the name b is a form of the name a too, and they have the same numeric suffix. For
-- names, though not for all texts, this is `Share`.
unfoldable pub shares : List ℕ → List ℕ → Bool
shares a b = form_of (stem a) (stem b) && same_numeric_suffix (numeric_suffix a) (numeric_suffix b)

-- SCPI-99 6.2.1: a word that spells both names
pub record Share (a b : List ℕ) : Type 0 where
  pub word : List ℕ
  pub one : spells a word ≡ true
  pub other : spells b word ≡ true
