-- Laws of the sign of a number, as the code meets them.
use Rattle.std.specs.Prelude.{Result, Ok, Err}
use Prim.Native.Nat.{ℕ, zero, suc, ◌^◌, ◌≤◌, ◌<◌}
use mathlib.Core.Path.{◌≡◌, refl, ap, ◌∙◌}
use mathlib.Core.List.{List}
use mathlib.Core.Bool.{Bool, true, false}
use native.Mathlib.Omega.{arith}
use lib.Dec.{T}
use lib.IntN.{ℤ, pos, negsuc, neg_ℤ, nat_abs, ◌-ℤ◌, +ℤ_idl}
use lib.Signed.{lt_z, non_neg}
use borrow.Author.Rules.{rules}
use borrow.Author.Tests.{lt-ltb, le-ltb, le-leb, lt-leb, ltb-true}
use mir.Syntax.{w64}
use mir.Val.{Fits, SFits, to_z, of_z}
use mir.ValLaws.{to_z_pos, to_z-of_z}
use Rattle.util.specs.Run.{sign_end, stands_at}
use Rattle.integer.specs.Number.{unsigned_at, signed_of, signed_at}
use Rattle.integer.specs.{declared.Radix.TheVariants.Decimal}
use Rattle.integer.specs.declared.NumberError.{NumberError}

fits_negative : (n : ℕ) → n < 2 ^ 63 → SFits w64 (neg_ℤ (pos n))
fits_negative zero h = record { sfits = h }
fits_negative (suc n) h = record { sfits = omega arith }

module _ (v end : ℕ) where
  module _ (h : v < 2 ^ 63) where
    minus : pos 0 -ℤ to_z w64 v ≡ neg_ℤ (pos v)
    minus = ap (λ (z : ℤ). pos 0 -ℤ z) (to_z_pos w64 v h) ∙ +ℤ_idl (neg_ℤ (pos v))

    pub minus_fits' : SFits w64 (pos 0 -ℤ to_z w64 v)
    minus_fits' = rw minus (fits_negative v h)

    pub plus_is' : Ok (to_z w64 v, end) ≡ signed_of false (Ok (v, end))
    unfolding signed_of
    plus_is' = rw (lt-ltb v (2 ^ 63) h)

    pub minus_is' : Ok (to_z w64 (of_z w64 (pos 0 -ℤ to_z w64 v)), end) ≡ signed_of true (Ok (v, end))
    unfolding signed_of
    minus_is' =
        let k : v ≤ 2 ^ 63 = omega arith in
        rw (le-leb v (2 ^ 63) k, minus, to_z-of_z w64 (neg_ℤ (pos v)) (fits_negative v h))

  pub plus_over' : 2 ^ 63 ≤ v → Err NumberError.TooLarge ≡ signed_of false (Ok (v, end))
  unfolding signed_of
  plus_over' h = rw (le-ltb v (2 ^ 63) h)

  pub minus_least' : v ≡ 2 ^ 63 → Ok (neg_ℤ (pos (2 ^ 63)), end) ≡ signed_of true (Ok (v, end))
  unfolding signed_of
  minus_least' e = rw e

  pub minus_over' : 2 ^ 63 ≤ v → (v ≡ 2 ^ 63 → ⊥) → Err NumberError.TooLarge ≡ signed_of true (Ok (v, end))
  unfolding signed_of
  minus_over' h n =
      let k : 2 ^ 63 < v = omega (arith, n) in
      rw (lt-leb v (2 ^ 63) k)

module _ (s : List ℕ) (at from : ℕ) (e : from ≡ sign_end s at) (u : Result (ℕ × ℕ) NumberError) (eu : u ≡ unsigned_at Decimal s from) where
  read : u ≡ unsigned_at Decimal s (sign_end s at)
  read = rw (← e) eu

  pub none_read' : u ≡ Err NumberError.NoDigit → Err NumberError.NoDigit ≡ signed_at s at
  unfolding signed_at signed_of
  none_read' q = rw (← read, q)

  pub over_read' : u ≡ Err NumberError.TooLarge → Err NumberError.TooLarge ≡ signed_at s at
  unfolding signed_at signed_of
  over_read' q = rw (← read, q)

  pub value_read' : (v end : ℕ) → u ≡ Ok (v, end) → (m : Bool) → m ≡ stands_at 45 s at → (b : Bool) → m ≡ b
      → (r : Result (ℤ × ℕ) NumberError) → r ≡ signed_of b (Ok (v, end)) → r ≡ signed_at s at
  unfolding signed_at
  value_read' v end q m em b eb r er = er ∙ rw (← read, q, ← em, eb)

pub ruleset laws = (rules, minus_fits', plus_is', minus_is', plus_over', minus_least', minus_over', none_read', over_read', value_read')

-- A number without its sign.
abs_fits : (n : ℤ) → SFits w64 n → Fits w64 (nat_abs n)
abs_fits (pos n) f = record { fits = omega arith }
abs_fits (negsuc n) f = record { fits = omega arith }

pub least' : (n : ℤ) → SFits w64 n → of_z w64 n ≡ 2 ^ 63 → 2 ^ 63 ≡ nat_abs n
least' (pos n) f e = omega arith
least' (negsuc n) f e = omega arith

not_below : (n : ℤ) → lt_z n (pos 0) ≡ false → T (non_neg n)
not_below (pos n) e = tt
not_below (negsuc n) e = absurd (let z : ◌≡◌ {A = ℕ} 0 1 = cc in omega arith)

-- the opposite of a negative, which the least of all does not have
opposite : (n : ℤ) → SFits w64 n → (of_z w64 n ≡ 2 ^ 63 → ⊥) → lt_z n (pos 0) ≡ true → SFits w64 (neg_ℤ n) × T (non_neg (neg_ℤ n)) × (nat_abs (neg_ℤ n) ≡ nat_abs n)
opposite (pos n) f h e = absurd (omega (arith, ltb-true n 0 e))
opposite (negsuc n) f h e = (record { sfits = omega arith }, tt, refl)

module _ (n : ℤ) (f : SFits w64 n) where
  same : to_z w64 (of_z w64 n) ≡ n
  same = to_z-of_z w64 n f

  pub same_above' : lt_z (to_z w64 (of_z w64 n)) (pos 0) ≡ false → T (non_neg (to_z w64 (of_z w64 n)))
  same_above' e = rw same (not_below n (rw same at e))

  pub same_fits' : Fits w64 (nat_abs (to_z w64 (of_z w64 n)))
  same_fits' = rw same (abs_fits n f)

  pub same_abs' : nat_abs (to_z w64 (of_z w64 n)) ≡ nat_abs n
  same_abs' = rw same

  module _ (h : of_z w64 n ≡ 2 ^ 63 → ⊥) (e : lt_z (to_z w64 (of_z w64 n)) (pos 0) ≡ true) where
    turned : SFits w64 (neg_ℤ n) × T (non_neg (neg_ℤ n)) × (nat_abs (neg_ℤ n) ≡ nat_abs n)
    turned = opposite n f h (rw same at e)

    minus_n : pos 0 -ℤ to_z w64 (of_z w64 n) ≡ neg_ℤ n
    minus_n = rw same (+ℤ_idl (neg_ℤ n))

    there : to_z w64 (of_z w64 (pos 0 -ℤ to_z w64 (of_z w64 n))) ≡ neg_ℤ n
    there = rw minus_n (to_z-of_z w64 (neg_ℤ n) turned.0)

    pub opposite_fits' : SFits w64 (pos 0 -ℤ to_z w64 (of_z w64 n))
    opposite_fits' = rw minus_n turned.0

    pub opposite_above' : T (non_neg (to_z w64 (of_z w64 (pos 0 -ℤ to_z w64 (of_z w64 n)))))
    opposite_above' = rw there turned.1

    pub opposite_abs_fits' : Fits w64 (nat_abs (to_z w64 (of_z w64 (pos 0 -ℤ to_z w64 (of_z w64 n)))))
    opposite_abs_fits' = rw (there, turned.2) (abs_fits n f)

    pub opposite_abs' : nat_abs (to_z w64 (of_z w64 (pos 0 -ℤ to_z w64 (of_z w64 n)))) ≡ nat_abs n
    opposite_abs' = rw there turned.2

pub ruleset magnitudes = (rules, least', same_above', same_fits', same_abs', opposite_fits', opposite_above', opposite_abs_fits', opposite_abs')
