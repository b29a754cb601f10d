-- The claims.
use Prim.Native.Nat.{ℕ, ◌+◌, ◌*◌, ◌^◌}
use mathlib.Core.Path.{◌≡◌}
use mathlib.Core.List.{List, [], ◌∷◌, ◌++◌}
use native.Mathlib.Nat.{pow-suc, pow-zero, mul-one, mul_assoc, add-mul}
use native.Mathlib.Omega.{arith}
use native.Mathlib.Numerals.{add-one}
use lib.ListN.{length, length-append}
use Rattle.kind.specs.Class.{is_digit}
use Rattle.forms.specs.IntegerClaims.{Claims}
use Rattle.integer.specs.Digit.{digit_of, value_of}
use Rattle.integer.proofs.Digits.{decimal}

one_up : (x p v base d : ℕ) → x * (p * base) + (v * base + d) ≡ (x * p + v) * base + d
one_up x p v base d = rw (add-mul (x * p) v base, mul_assoc x p base) (omega arith)

one_more : (base : ℕ) (ds : List ℕ) (d : ℕ) → value_of base (ds ++ (d ∷ [])) ≡ value_of base ds * base + digit_of d
unfolding value_of
one_more base [] d = rw (pow-zero base, mul-one (digit_of d)) (omega arith)
one_more base (x ∷ ds) d =
    rw (length-append ds (d ∷ []), one_more base ds d, add-one (length ds), pow-suc base (length ds))
    (one_up (digit_of x) (base ^ length ds) (value_of base ds) base (digit_of d))

leading_zero : (base : ℕ) (ds : List ℕ) → value_of base (48 ∷ ds) ≡ value_of base ds
unfolding value_of digit_of is_digit
leading_zero base ds = omega arith

pub claims : Claims
claims = record { one_more = one_more; leading_zero = leading_zero; decimal = decimal }
