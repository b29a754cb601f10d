-- The unsigned forms of coordinates, SCPI-99 8.3.2: a negative is -224, after all else. The largest value is that of the signed forms.
use Rattle.std.specs.Prelude.{Bool, true, false, cond, ◌||◌, ℤ, pos, negsuc, nat_abs, ℕ, Result, Ok, Err}
use Rattle.error.specs.declared.ErrorCode.TheVariants.{IllegalParameterValue}
use Rattle.error.specs.declared.ErrorCode.{ErrorCode}

abbrev pub is_negative : ℤ → Bool
is_negative (pos n) = false
is_negative (negsuc n) = true

-- one, two and three coordinates
unfoldable pub unsigned_of : Result ℤ ErrorCode → Result ℕ ErrorCode
unsigned_of (Ok a) = cond (is_negative a) (Err IllegalParameterValue) (Ok (nat_abs a))
unsigned_of (Err e) = Err e

unfoldable pub unsigned_pair_of : Result (ℤ × ℤ) ErrorCode → Result (ℕ × ℕ) ErrorCode
unsigned_pair_of (Ok (a, b)) =
    cond (is_negative a || is_negative b) (Err IllegalParameterValue) (Ok (nat_abs a, nat_abs b))
unsigned_pair_of (Err e) = Err e

unfoldable pub unsigned_triple_of : Result (ℤ × ℤ × ℤ) ErrorCode → Result (ℕ × ℕ × ℕ) ErrorCode
unsigned_triple_of (Ok (a, b, c)) =
    cond (is_negative a || (is_negative b || is_negative c))
    (Err IllegalParameterValue)
    (Ok (nat_abs a, nat_abs b, nat_abs c))
unsigned_triple_of (Err e) = Err e
