-- The value of a row of digits, read one digit after the other.
use Prim.Native.Nat.{ℕ, suc, ◌+◌, ◌*◌, ◌^◌, ◌≤◌, ◌<◌}
use mathlib.Core.Path.{◌≡◌, refl, ap, ◌∙◌}
use mathlib.Core.List.{List, [], ◌∷◌}
use mathlib.Core.Bool.{Bool, true, false, cond}
use native.Mathlib.Nat.{le_refl, pow-zero, mul-one, pow-suc, add-mul, mul_assoc, mul_comm, le-mul_of_pos_right}
use native.Mathlib.Numerals.{add-one}
use native.Mathlib.Omega.{arith}
use lib.ListN.{length, get_or, take, drop, drop_of_length-le}
use lib.Seq.{drop-cons}
use Rattle.util.specs.Run.{run}
use Rattle.integer.specs.Digit.{digit_of, is_digit_of, value_of}
use Rattle.integer.specs.Number.{digits}

-- a value, with the digits at the front of a text behind it
unfoldable pub onward : ℕ → ℕ → List ℕ → ℕ
onward base v [] = v
onward base v (b ∷ t) = cond (is_digit_of base b) (onward base (v * base + digit_of b) t) v

-- as many are taken as the run has
pub taken : (p : ℕ → Bool) (t : List ℕ) → length (take (run p t) t) ≡ run p t
unfolding run
taken p [] = refl
taken p (b ∷ t) = go (p b) (taken p t)
  where
    go : (c : Bool) → length (take (run p t) t) ≡ run p t → length (take (cond c (suc (run p t)) 0) (b ∷ t)) ≡ cond c (suc (run p t)) 0
    go true ih = ap suc ih
    go false ih = refl

-- the value in front moves up by one place for each digit behind it
one_up : (v base d P : ℕ) → (v * base + d) * P ≡ v * (P * base) + d * P
one_up v base d P = add-mul (v * base) d P ∙ ap (λ (x : ℕ). x + d * P) (mul_assoc v base P ∙ ap (λ (x : ℕ). v * x) (mul_comm base P))

at_end : (v base : ℕ) → v ≡ v * base ^ 0 + 0
at_end v base = rw (pow-zero base, mul-one v) (omega arith)

pub placed : (base v : ℕ) (t : List ℕ) → onward base v t ≡ v * base ^ run (is_digit_of base) t + value_of base (digits base t)
unfolding onward run value_of digits
placed base v [] = at_end v base
placed base v (b ∷ t) = go (is_digit_of base b) (placed base (v * base + digit_of b) t)
  where
    n : ℕ
    n = run (is_digit_of base) t

    go : (c : Bool)
        → onward base (v * base + digit_of b) t ≡ (v * base + digit_of b) * base ^ n + value_of base (take n t)
        → cond c (onward base (v * base + digit_of b) t) v ≡ v * base ^ cond c (suc n) 0 + value_of base (take (cond c (suc n) 0) (b ∷ t))
    go true ih = rw (pow-suc base n, taken (is_digit_of base) t) (omega (arith, ih, one_up v base (digit_of b) (base ^ n)))
    go false ih = at_end v base

pub from_zero : (base : ℕ) (t : List ℕ) → onward base 0 t ≡ value_of base (digits base t)
from_zero base t = omega (arith, placed base 0 t)

-- more digits make no less
pub no_less : (base v : ℕ) (t : List ℕ) → 0 < base → v ≤ onward base v t
unfolding onward
no_less base v [] h = le_refl v
no_less base v (b ∷ t) h = go (is_digit_of base b) (no_less base (v * base + digit_of b) t h)
  where
    go : (c : Bool) → v * base + digit_of b ≤ onward base (v * base + digit_of b) t → v ≤ cond c (onward base (v * base + digit_of b) t) v
    go true ih = omega (arith, ih, le-mul_of_pos_right v h)
    go false ih = le_refl v

module _ (base v : ℕ) (s : List ℕ) (i : ℕ) where
  pub last : i < length s → is_digit_of base (get_or s i 0) ≡ false → onward base v (drop i s) ≡ v
  unfolding onward
  last h e = rw (drop-cons s i 0, e)

  pub past : length s ≤ i → onward base v (drop i s) ≡ v
  unfolding onward
  past h = rw (drop_of_length-le s h)

  pub more : i < length s → is_digit_of base (get_or s i 0) ≡ true → onward base v (drop i s) ≡ onward base (v * base + digit_of (get_or s i 0)) (drop (i + 1) s)
  unfolding onward
  more h e = rw (add-one, drop-cons s i 0, e)
