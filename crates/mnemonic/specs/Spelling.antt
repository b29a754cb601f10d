-- Table names, and the words that spell them: SCPI-99 6.2.1 (short and long form) and 6.2.5.2 (numeric suffix).
use Rattle.std.specs.Prelude.{ℕ, ◌≡◌, ◌⊎◌, List, [], ◌++◌, Bool, true, false, ◌&&◌, ◌||◌, take, get_or}
use Rattle.kind.specs.Text.{ascii}
use Rattle.kind.specs.Class.{is, is_capital, is_small, is_digit}
use Rattle.util.specs.Run.{run, every}
use Rattle.mnemonic.specs.Mnemonic.{alike, not_small, stem, numeric_suffix, same_numeric_suffix}

-- A table name: perhaps a star, then capitals, one at least, then perhaps small letters, then perhaps digits that do not start
-- with 0. How long it may be, and where a star may stand, is for the table check.
pub record Name (n : List ℕ) : Type 0 where
  pub star : List ℕ
  pub capitals : List ℕ
  pub smalls : List ℕ
  pub digits : List ℕ
  pub parts : n ≡ star ++ (capitals ++ (smalls ++ digits))
  pub star_or_none : (star ≡ []) ⊎ (star ≡ ascii "*")
  pub some_capital : capitals ≡ [] → ⊥
  pub all_capital : every is_capital capitals ≡ true
  pub all_small : every is_small smalls ≡ true
  pub all_digit : every is_digit digits ≡ true
  pub no_zero : is "0" (get_or digits 0 0) ≡ false

-- SCPI-99 6.2.1: the long form of a name is all that stands before its numeric suffix
abbrev pub long : List ℕ → List ℕ
long n = stem n

-- SCPI-99 6.2.1: the short form is what stands there before the small letters
abbrev pub short : List ℕ → List ℕ
short n = take (run not_small (stem n)) (stem n)

-- The word spells the table name: it is the long or the short form, in either case, and has the same numeric suffix.
unfoldable pub spells : List ℕ → List ℕ → Bool
spells n w = (alike (long n) (stem w) || alike (short n) (stem w)) && same_numeric_suffix (numeric_suffix n) (numeric_suffix w)
