-- What is proved of the comparison and match of mnemonics, besides the promises of the functions. The proofs are in proofs/MnemonicClaims.
use Rattle.std.specs.Prelude.{ℕ, ◌-◌, ◌≤◌, ◌≡◌, ◌⊎◌, List, [], ◌++◌, true, false, length, get_or}
use Rattle.kind.specs.Class.{is_digit}
use Rattle.util.specs.Run.{every}
use Rattle.mnemonic.specs.Mnemonic.{numeric_suffix_start, stem, numeric_suffix, matches}
use Rattle.mnemonic.specs.Spelling.{Name, long, short, spells}

-- Stem and numeric suffix make up the text, and the numeric suffix is all the digits that end it; but digits alone are all stem.
pub record Split (s : List ℕ) : Type 0 where
  pub inside : numeric_suffix_start s ≤ length s
  pub whole : stem s ++ numeric_suffix s ≡ s
  pub digits : every is_digit (numeric_suffix s) ≡ true
  pub before : ((every is_digit s ≡ true) × (numeric_suffix s ≡ [])) ⊎ (is_digit (get_or s (numeric_suffix_start s - 1) 0) ≡ false)

-- The long form of a table name is all its letters, the short form its capitals, the star with both; its numeric suffix is its digits.
pub record Forms (n : List ℕ) (name : Name n) : Type 0 where
  pub long_form : long n ≡ name.star ++ (name.capitals ++ name.smalls)
  pub short_form : short n ≡ name.star ++ name.capitals
  pub number : numeric_suffix n ≡ name.digits

pub record Claims : Type 0 where
  -- every text is split so
  pub splits : (s : List ℕ) → Split s
  -- every table name has these forms
  pub forms : (n : List ℕ) (name : Name n) → Forms n name
  -- for a table name and any word at all, a match is the rule of spelling
  pub match_spells : (n w : List ℕ) → Name n → matches n w ≡ spells n w
