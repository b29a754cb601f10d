-- The grammar of decimal numeric program data, IEEE 488.2 7.7.2, and of the suffix, 7.7.3: what a text must be made of to be a
-- number or a suffix.
use Rattle.std.specs.Prelude.{ℕ, ◌+◌, ◌≤◌, ◌<◌, ◌≡◌, ◌⊎◌, List, [], ◌∷◌, ◌++◌, true, false, length, get_or}
use Rattle.kind.specs.Text.{ascii}
use Rattle.kind.specs.Class.{is, is_sign, is_digit}
use Rattle.util.specs.Run.{every}
use Rattle.decimal.specs.Decimal.{begins_exponent, in_suffix, begins_suffix}

-- IEEE 488.2 7.7.2.2: an optional sign, and digits, perhaps none.
pub record Whole (t : List ℕ) : Type 0 where
  pub sign : List ℕ
  pub digits : List ℕ
  pub parts : t ≡ sign ++ digits
  pub one_sign : length sign ≤ 1
  pub all_sign : every is_sign sign ≡ true
  pub all_digit : every is_digit digits ≡ true

-- IEEE 488.2 7.7.2.2: nothing, or a point and digits, perhaps none.
pub record Fraction (t : List ℕ) : Type 0 where
  pub point : List ℕ
  pub digits : List ℕ
  pub parts : t ≡ point ++ digits
  pub point_or_none : ((point ≡ []) × (digits ≡ [])) ⊎ (point ≡ ascii ".")
  pub all_digit : every is_digit digits ≡ true

-- IEEE 488.2 7.7.2.2: E, an optional sign, and digits, one at least.
pub record Exponent (t : List ℕ) : Type 0 where
  pub letter : ℕ
  pub power : List ℕ
  pub parts : t ≡ letter ∷ power
  pub is_e : begins_exponent letter ≡ true
  pub whole : Whole power
  pub some_digit : 0 < length whole.digits

-- IEEE 488.2 7.7.2.2: an optional sign, digits, a point and digits, with one digit at least, and an optional exponent.
pub record Number (t : List ℕ) : Type 0 where
  pub front : List ℕ
  pub back : List ℕ
  pub power : List ℕ
  pub parts : t ≡ front ++ (back ++ power)
  pub whole : Whole front
  pub fraction : Fraction back
  pub some_digit : 0 < length whole.digits + length fraction.digits
  pub exponent : (power ≡ []) ⊎ Exponent power

-- What does not go on with a number: no digit, point or E.
pub record Stops (t : List ℕ) : Type 0 where
  pub no_digit : is_digit (get_or t 0 0) ≡ false
  pub no_point : is "." (get_or t 0 0) ≡ false
  pub no_exponent : begins_exponent (get_or t 0 0) ≡ false

-- IEEE 488.2 7.7.3.2: letters, digits, `-`, `/` and `.`, a letter or `/` first, 12 at most.
pub record Suffix (t : List ℕ) : Type 0 where
  pub first : begins_suffix t 0 ≡ true
  pub all_suffix : every in_suffix t ≡ true
  pub at_most : length t ≤ 12
