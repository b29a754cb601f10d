-- Laws of the number that begins at a place, as the loop over its digits meets them.
use Rattle.std.specs.Prelude.{Result, Ok, Err, Option, Some, None}
use Prim.Native.Nat.{ℕ, ◌+◌, ◌-◌, ◌*◌, ◌/◌, ◌^◌, ◌≤◌, ◌<◌, max}
use mathlib.Core.Path.{◌≡◌, sym, ap, ◌∙◌}
use mathlib.Core.Logic.{⊎_elim}
use mathlib.Core.List.{List}
use mathlib.Core.Bool.{Bool, true, false, cond, true≢false, false≢true}
use native.Mathlib.Nat.{le_trans, div-lt_iff_lt-mul, mul-le-mul_right, div-mul-le_self}
use native.Mathlib.Omega.{arith}
use lib.Dec.{ltb}
use lib.ListN.{length, get_or, drop}
use borrow.Author.Rules.{rules}
use borrow.Author.Tests.{eq-eqb, ne_eqb, lt-ltb, le-ltb}
use mir.Syntax.{w64}
use mir.Val.{Fits}
use Rattle.kind.proofs.Tests.{less_or_not}
use Rattle.util.specs.Run.{run, run_end}
use Rattle.util.proofs.Runs.{ends_at, run_past, run_stop, run_more}
use Rattle.integer.specs.{Digit.digit_of, Digit.is_digit_of, declared.Radix.Radix}
use Rattle.integer.specs.Number.{base_of, digits, found_at, longer, unsigned_of, unsigned_at}
use Rattle.integer.specs.declared.Radix.TheVariants.{Binary, Octal, Decimal, Hexadecimal}
use Rattle.integer.proofs.Values.{onward, taken, from_zero, no_less, last, past, more}
use Rattle.integer.specs.declared.NumberError.{NumberError}

-- each base is one of four
some_base : (radix : Radix) → 0 < base_of radix
some_base Binary = omega arith
some_base Octal = omega arith
some_base Decimal = omega arith
some_base Hexadecimal = omega arith

base_most : (radix : Radix) → base_of radix ≤ 16
base_most Binary = omega arith
base_most Octal = omega arith
base_most Decimal = omega arith
base_most Hexadecimal = omega arith

pub base_some' : (radix : Radix) (base : ℕ) → base ≡ base_of radix → 0 < base
base_some' radix base e = rw e (some_base radix)

-- what became of a value with one more digit
abbrev worth : Option ℕ → ℕ
worth (Some v) = v
worth None = 0

abbrev is_large : Option ℕ → Bool
is_large (Some v) = false
is_large None = true

module _ (n : ℕ) where
  small : n < 2 ^ 64 → longer n ≡ Some n
  unfolding longer
  small h = rw (lt-ltb n (2 ^ 64) h)

  large : 2 ^ 64 ≤ n → longer n ≡ None
  unfolding longer
  large h = rw (le-ltb n (2 ^ 64) h)

  module _ (l : Option ℕ) (e : l ≡ longer n) where
    fits_value : (w : ℕ) → l ≡ Some w → n ≡ w
    fits_value w f =
        ⊎_elim (λ k. ap worth (sym (small k) ∙ sym e ∙ f)) (λ k. absurd (true≢false (ap is_large (sym (large k) ∙ sym e ∙ f))))
        (less_or_not n (2 ^ 64))

    value_small : (w : ℕ) → l ≡ Some w → w < 2 ^ 64
    value_small w f =
        ⊎_elim (λ k. rw (← fits_value w f) k) (λ k. absurd (true≢false (ap is_large (sym (large k) ∙ sym e ∙ f))))
        (less_or_not n (2 ^ 64))

    over_value : l ≡ None → 2 ^ 64 ≤ n
    over_value f = ⊎_elim (λ k. absurd (false≢true (ap is_large (sym (small k) ∙ sym e ∙ f)))) (λ k. k) (less_or_not n (2 ^ 64))

-- the digits at the front of a text are as many as the run has
all : (base : ℕ) (t : List ℕ) → length (digits base t) ≡ run (is_digit_of base) t
unfolding digits
all base t = taken (is_digit_of base) t

module _ (radix : Radix) (base : ℕ) (eb : base ≡ base_of radix) (s : List ℕ) (at : ℕ) where
  by_value : unsigned_at radix s at ≡ cond (ltb (onward base 0 (drop at s)) (2 ^ 64)) (found_at (onward base 0 (drop at s)) at (run_end (is_digit_of base) s at)) (Err NumberError.TooLarge)
  unfolding unsigned_at unsigned_of run_end
  by_value = rw (← eb, all base (drop at s), ← from_zero base (drop at s))

  -- As the loop meets them: the value so far, and the place behind its last digit.
  module _ (value end : ℕ)
      (runs : run_end (is_digit_of base) s at ≡ run_end (is_digit_of base) s end)
      (values : onward base 0 (drop at s) ≡ onward base value (drop end s)) where
    at_last : (r : Result (ℕ × ℕ) NumberError) → value < 2 ^ 64 → r ≡ found_at value at end → run_end (is_digit_of base) s at ≡ end → onward base 0 (drop at s) ≡ value → r ≡ unsigned_at radix s at
    at_last r k er e f = er ∙ sym (by_value ∙ rw (e, f, lt-ltb value (2 ^ 64) k))

    pub past' : (r : Result (ℕ × ℕ) NumberError) (m : ℕ) → value < 2 ^ 64 → r ≡ found_at value at m → m ≡ max at (length s)
        → (at ≤ length s → end ≤ length s) → length s ≤ end → r ≡ unsigned_at radix s at
    past' r m k er em f h = at_last r k (er ∙ rw (ends_at (is_digit_of base) s end at m em f h runs)) (runs ∙ run_past (is_digit_of base) s end h) (values ∙ past base value s end h)

    module _ (h : end < length s) (digit : ℕ) (ed : digit ≡ digit_of (get_or s end 0)) where
      is_digit : digit < base → is_digit_of base (get_or s end 0) ≡ true
      unfolding is_digit_of
      is_digit k = rw (← ed, lt-ltb digit base k)

      no_digit : base ≤ digit → is_digit_of base (get_or s end 0) ≡ false
      unfolding is_digit_of
      no_digit k = rw (← ed, le-ltb digit base k)

      pub stop' : (r : Result (ℕ × ℕ) NumberError) → value < 2 ^ 64 → base ≤ digit → r ≡ found_at value at end → r ≡ unsigned_at radix s at
      stop' r k q er = at_last r k er (runs ∙ run_stop (is_digit_of base) s end h (no_digit q)) (values ∙ last base value s end h (no_digit q))

      module _ (k : digit < base) where
        pub run_on' : (j : ℕ) → j ≡ end + 1 → run_end (is_digit_of base) s at ≡ run_end (is_digit_of base) s j
        run_on' j e = runs ∙ run_more (is_digit_of base) s end h (is_digit k) ∙ rw e

        next : onward base 0 (drop at s) ≡ onward base (value * base + digit) (drop (end + 1) s)
        next = values ∙ more base value s end h (is_digit k) ∙ rw ed

        pub value_on' : (w j : ℕ) → j ≡ end + 1 → (l : Option ℕ) → l ≡ longer (value * base + digit) → l ≡ Some w
            → onward base 0 (drop at s) ≡ onward base w (drop j s)
        value_on' w j f l el ew = next ∙ rw (f, fits_value (value * base + digit) l el w ew)

        pub value_fits' : (w : ℕ) (l : Option ℕ) → l ≡ longer (value * base + digit) → l ≡ Some w → w < 2 ^ 64
        value_fits' w l el ew = value_small (value * base + digit) l el w ew

        pub too_large' : (l : Option ℕ) → l ≡ longer (value * base + digit) → l ≡ None → Err NumberError.TooLarge ≡ unsigned_at radix s at
        too_large' l el ew =
            let m : 2 ^ 64 ≤ onward base 0 (drop at s) =
            omega (arith, next, over_value (value * base + digit) l el ew, no_less base (value * base + digit) (drop (end + 1) s) (rw eb (some_base radix))) in
            sym (by_value ∙ rw (le-ltb (onward base 0 (drop at s)) (2 ^ 64) m))

module _ (value at end : ℕ) where
  pub found_none' : end ≡ at → Err NumberError.NoDigit ≡ found_at value at end
  unfolding found_at
  found_none' e = rw (eq-eqb end at e)

  pub found_some' : (end ≡ at → ⊥) → Ok (value, end) ≡ found_at value at end
  unfolding found_at
  found_some' n = rw (ne_eqb end at n)

-- a value with one more digit, against the largest that has room for one
module _ (value digit base limit : ℕ) (e : limit ≡ (2 ^ 64 - 1) / base) where
  pub no_room' : 0 < base → limit < value → None ≡ longer (value * base + digit)
  no_room' p k =
      let d : (2 ^ 64 - 1) / base < value = rw (← e) k in
      let m : 2 ^ 64 - 1 < value * base = (div-lt_iff_lt-mul p).0 d in
      sym (large (value * base + digit) (omega (arith, m)))

  module _ (k : value ≤ limit) where
    scaled : value * base ≤ 2 ^ 64 - 1
    scaled = le_trans (mul-le-mul_right base k) (rw e (div-mul-le_self (2 ^ 64 - 1) base))

    pub product_fits' : Fits w64 (value * base)
    product_fits' = record { fits = omega (arith, scaled) }

    pub product_most' : value * base ≤ 2 ^ 64 - 1
    product_most' = scaled

    pub no_room_last' : 2 ^ 64 - 1 - value * base < digit → None ≡ longer (value * base + digit)
    no_room_last' h = sym (large (value * base + digit) (omega (arith, scaled)))

    module _ (h : digit ≤ 2 ^ 64 - 1 - value * base) where
      pub sum_fits' : Fits w64 (value * base + digit)
      sum_fits' = record { fits = omega (arith, scaled) }

      pub room' : Some (value * base + digit) ≡ longer (value * base + digit)
      room' = sym (small (value * base + digit) (omega (arith, scaled)))

pub ruleset step = (rules, found_none', found_some', no_room', product_fits', product_most', no_room_last', sum_fits', room')

pub ruleset laws = (rules, base_some', past', stop', run_on', value_on', value_fits', too_large')
