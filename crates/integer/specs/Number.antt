-- Whole numbers as they stand in a text: the digits that begin at a place, as far as they go, and what they are worth.
use Rattle.std.specs.Prelude.{ℕ, ◌+◌, ◌^◌, List, Bool, true, false, cond, eqb, ltb, leb, pos, neg_ℤ, length, take, drop, ℤ, Result, Ok, Err, Option, Some, None}
use Prim.Native.Char.{code}
use Rattle.util.specs.Run.{run, sign_end, stands_at}
use Rattle.integer.specs.Digit.{is_digit_of, value_of}
use Rattle.integer.specs.declared.Radix.{Radix}
use Rattle.integer.specs.declared.Radix.TheVariants.{Binary, Octal, Decimal, Hexadecimal}
use Rattle.integer.specs.declared.NumberError.{NumberError}

-- how many digits a radix has
abbrev pub base_of : Radix → ℕ
base_of Binary = 2
base_of Octal = 8
base_of Decimal = 10
base_of Hexadecimal = 16

-- the digits at the front of a text
unfoldable pub digits : ℕ → List ℕ → List ℕ
digits base t = take (run (is_digit_of base) t) t

-- a number where it is below 2^64, and else that it is too large
unfoldable pub longer : ℕ → Option ℕ
longer n = cond (ltb n (2 ^ 64)) (Some n) None

-- a value whose digits stand from a place up to their end, and that there is no digit where these are one place
unfoldable pub found_at : ℕ → ℕ → ℕ → Result (ℕ × ℕ) NumberError
found_at value at end = cond (eqb end at) (Err NumberError.NoDigit) (Ok (value, end))

-- a row of digits that begins at a place, as a number below 2^64
unfoldable pub unsigned_of : ℕ → ℕ → List ℕ → Result (ℕ × ℕ) NumberError
unsigned_of base at ds = cond (ltb (value_of base ds) (2 ^ 64)) (found_at (value_of base ds) at (at + length ds)) (Err NumberError.TooLarge)

-- IEEE 488.2 7.7.4.2, and 7.7.6.2 for base ten: the number that begins at a place
unfoldable pub unsigned_at : Radix → List ℕ → ℕ → Result (ℕ × ℕ) NumberError
unsigned_at radix s at = unsigned_of (base_of radix) at (digits (base_of radix) (drop at s))

-- a number with or without a minus, from -2^63 to 2^63 - 1
unfoldable pub signed_of : Bool → Result (ℕ × ℕ) NumberError → Result (ℤ × ℕ) NumberError
signed_of minus (Err NumberError.NoDigit) = Err NumberError.NoDigit
signed_of minus (Err NumberError.TooLarge) = Err NumberError.TooLarge
signed_of true (Ok (v, end)) = cond (leb v (2 ^ 63)) (Ok (neg_ℤ (pos v), end)) (Err NumberError.TooLarge)
signed_of false (Ok (v, end)) = cond (ltb v (2 ^ 63)) (Ok (pos v, end)) (Err NumberError.TooLarge)

-- IEEE 488.2 7.7.2.2: the decimal whole number that begins at a place, with an optional sign
unfoldable pub signed_at : List ℕ → ℕ → Result (ℤ × ℕ) NumberError
signed_at s at = signed_of (stands_at (code "-") s at) (unsigned_at Decimal s (sign_end s at))
