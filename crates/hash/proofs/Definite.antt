-- Laws of the length that a definite block says, as the code meets them.
use Rattle.std.specs.Prelude.{Result, Ok, Err}
use Prim.Native.Nat.{ℕ, ◌+◌, ◌-◌, ◌*◌, ◌^◌, ◌≤◌, ◌<◌}
use mathlib.Core.Path.{◌≡◌, refl, sym, ap, ◌∙◌}
use mathlib.Core.Logic.{⊎_elim}
use mathlib.Core.List.{List}
use mathlib.Core.Bool.{Bool, true, false, cond}
use native.Mathlib.Omega.{arith}
use lib.Dec.{eqb, ltb}
use lib.ListN.{length, take, drop, length-drop}
use lib.Seq.{length-take-le, take-add, drop_at, take-length}
use borrow.Author.Rules.{rules}
use borrow.Author.Tests.{le-leb, lt-leb, lt-ltb, le-ltb, ne_eqb}
use Rattle.error.specs.declared.ErrorCode.TheVariants.{InvalidBlockData}
use Rattle.kind.specs.Class.{is_digit}
use Rattle.kind.proofs.Tests.{by_test, less_or_not}
use Rattle.util.specs.Run.{run, every}
use Rattle.util.proofs.Every.{every_weaker, every_run, run_every}
use Rattle.integer.specs.{Digit.is_digit_of, Digit.value_of, declared.Radix.TheVariants.Decimal}
use Rattle.integer.specs.Number.{digits, found_at, unsigned_of, unsigned_at}
use Rattle.integer.proofs.{Digits.decimal, Values.taken}
use Rattle.item.specs.{Follow.refused}
use Rattle.hash.specs.Block.{payload, definite}
use Rattle.error.specs.declared.ErrorCode.{ErrorCode}
use Rattle.integer.specs.declared.NumberError.{NumberError}
use Rattle.token.specs.declared.Token.{Token}

-- the place behind a number is that behind its digits
ends : (base at v end : ℕ) (ds : List ℕ) → Ok (v, end) ≡ unsigned_of base at ds → end ≡ at + length ds
unfolding unsigned_of found_at
ends base at v end ds =
    by_test (λ (w : Result (ℕ × ℕ) NumberError). Ok (v, end) ≡ w → end ≡ at + length ds) (ltb (value_of base ds) (2 ^ 64))
    (λ _. by_test (λ (w : Result (ℕ × ℕ) NumberError). Ok (v, end) ≡ w → end ≡ at + length ds) (eqb (at + length ds) at) (λ _ e. let z : ◌≡◌ {A = ℕ} 0 1 = cc in absurd (omega arith))
    (λ _ e. let z : ◌≡◌ {A = ℕ × ℕ} (v, end) (value_of base ds, at + length ds) = cc in ap (λ (p : ℕ × ℕ). p.1) z)) (λ _ e. let z : ◌≡◌ {A = ℕ} 0 1 = cc in absurd (omega arith))

module _ (s : List ℕ) (at n : ℕ) (h : at ≤ length s) (k : n ≤ length s - at) where
  -- the n bytes that say the length
  window : drop at (take (at + n) s) ≡ take n (drop at s)
  window = rw (take-add at n s) (drop_at (take at s) (take n (drop at s)) at (length-take-le at s h))

  as_many : length (take n (drop at s)) ≡ n
  as_many = length-take-le n (drop at s) (omega (arith, k, length-drop at s))

  decimal_too : every is_digit (take n (drop at s)) ≡ true → every (is_digit_of 10) (take n (drop at s)) ≡ true
  decimal_too = every_weaker is_digit (is_digit_of 10) (λ b e. decimal b ∙ e) (take n (drop at s))

  decimal_back : every (is_digit_of 10) (take n (drop at s)) ≡ true → every is_digit (take n (drop at s)) ≡ true
  decimal_back = every_weaker (is_digit_of 10) is_digit (λ b e. sym (decimal b) ∙ e) (take n (drop at s))

  -- digits alone are read to their end
  all_digits : 0 < n → every is_digit (take n (drop at s)) ≡ true
      → unsigned_at Decimal (take (at + n) s) at
      ≡ cond (ltb (value_of 10 (take n (drop at s))) (2 ^ 64)) (Ok (value_of 10 (take n (drop at s)), at + n)) (Err NumberError.TooLarge)
  unfolding unsigned_at unsigned_of found_at digits
  all_digits m e =
      rw (
        window,
        every_run (is_digit_of 10) (take n (drop at s)) (decimal_too e),
        take-length (take n (drop at s)),
        as_many,
        ne_eqb (at + n) at (λ q. omega arith),
      )

  -- and what is read to their end is digits alone
  only_digits : (v end : ℕ) → Ok (v, end) ≡ unsigned_at Decimal (take (at + n) s) at → end ≡ at + n → every is_digit (take n (drop at s)) ≡ true
  unfolding unsigned_at digits
  only_digits v end e q =
      let f : end ≡ at + length (take (run (is_digit_of 10) (take n (drop at s))) (take n (drop at s))) =
      ends 10 at v end (take (run (is_digit_of 10) (take n (drop at s))) (take n (drop at s))) (rw window at e) in
      decimal_back
      (run_every (is_digit_of 10) (take n (drop at s)) (omega (arith, f, q, taken (is_digit_of 10) (take n (drop at s)), as_many)))

  inside : at + n ≤ length s
  inside = omega arith

  by_digits : (c : Bool) → every is_digit (take n (drop at s)) ≡ c → definite s at n ≡ cond c (payload s (at + n) (value_of 10 (take n (drop at s)))) (refused InvalidBlockData)
  unfolding definite
  by_digits c e = rw (le-leb (at + n) (length s) inside, e)

module _ (s : List ℕ) (at n : ℕ) (h : at ≤ length s) (k : n ≤ length s - at) (m : 0 < n) (start : ℕ) (es : start ≡ at + n)
    (u : Result (ℕ × ℕ) NumberError) (eu : u ≡ unsigned_at Decimal (take start s) at) where
  told : u ≡ unsigned_at Decimal (take (at + n) s) at
  told = rw (← es) eu

  -- where all n bytes are digits, the number is their value, or too large
  of_digits : every is_digit (take n (drop at s)) ≡ true → u ≡ cond (ltb (value_of 10 (take n (drop at s))) (2 ^ 64)) (Ok (value_of 10 (take n (drop at s)), at + n)) (Err NumberError.TooLarge)
  of_digits e = told ∙ all_digits s at n h k m e

  of_small : every is_digit (take n (drop at s)) ≡ true → value_of 10 (take n (drop at s)) < 2 ^ 64 → u ≡ Ok (value_of 10 (take n (drop at s)), at + n)
  of_small e l = of_digits e ∙ rw (lt-ltb (value_of 10 (take n (drop at s))) (2 ^ 64) l)

  of_large : every is_digit (take n (drop at s)) ≡ true → 2 ^ 64 ≤ value_of 10 (take n (drop at s)) → u ≡ Err NumberError.TooLarge
  of_large e l = of_digits e ∙ rw (le-ltb (value_of 10 (take n (drop at s))) (2 ^ 64) l)

  -- where they are not, the block is refused
  not_digits : every is_digit (take n (drop at s)) ≡ false → refused InvalidBlockData ≡ definite s at n
  not_digits e = sym (by_digits s at n h k false e)

  -- so it is where it is refused with digits alone, by their value
  either_way : (every is_digit (take n (drop at s)) ≡ true → value_of 10 (take n (drop at s)) < 2 ^ 64 → refused InvalidBlockData ≡ definite s at n)
      → (every is_digit (take n (drop at s)) ≡ true → 2 ^ 64 ≤ value_of 10 (take n (drop at s)) → refused InvalidBlockData ≡ definite s at n)
      → refused InvalidBlockData ≡ definite s at n
  either_way f g = go (every is_digit (take n (drop at s))) refl
    where
      go : (c : Bool) → every is_digit (take n (drop at s)) ≡ c → refused InvalidBlockData ≡ definite s at n
      go false e = not_digits e
      go true e = ⊎_elim (f e) (g e) (less_or_not (value_of 10 (take n (drop at s))) (2 ^ 64))

  pub digits_cut' : (v end : ℕ) → u ≡ Ok (v, end) → (end ≡ start → ⊥) → refused InvalidBlockData ≡ definite s at n
  digits_cut' v end q away = either_way
      (λ e l. let z : ◌≡◌ {A = ℕ × ℕ} (v, end) (value_of 10 (take n (drop at s)), at + n) = cc (sym q ∙ of_small e l) in
      absurd (away (ap (λ (p : ℕ × ℕ). p.1) z ∙ sym es))) (λ e l. let z : ◌≡◌ {A = ℕ} 0 1 = cc (of_large e l) in absurd (omega arith))

  pub digits_none' : u ≡ Err NumberError.NoDigit → refused InvalidBlockData ≡ definite s at n
  digits_none' q = either_way (λ e l. let z : ◌≡◌ {A = ℕ} 0 1 = cc (of_small e l) in absurd (omega arith)) (λ e l. let z : ◌≡◌ {A = ℕ} 0 1 = cc (of_large e l) in absurd (omega arith))

  pub digits_large' : length s * 1 < 2 ^ 63 → u ≡ Err NumberError.TooLarge → refused InvalidBlockData ≡ definite s at n
  unfolding payload
  digits_large' room q =
      either_way (λ e l. let z : ◌≡◌ {A = ℕ} 0 1 = cc (of_small e l) in absurd (omega arith))
      (λ e l.
      let over : length s < at + n + value_of 10 (take n (drop at s)) = omega arith in
      sym (by_digits s at n h k true e ∙ rw (lt-leb (at + n + value_of 10 (take n (drop at s))) (length s) over)))

  pub digits_whole' : (v end : ℕ) → u ≡ Ok (v, end) → end ≡ start → (r : Result (Token × ℕ) ErrorCode) → r ≡ payload s start v → r ≡ definite s at n
  digits_whole' v end q ee r er =
      let e : every is_digit (take n (drop at s)) ≡ true = only_digits s at n h k v end (sym q ∙ told) (ee ∙ es) in
      ⊎_elim
      (λ l.
      let z : ◌≡◌ {A = ℕ × ℕ} (v, end) (value_of 10 (take n (drop at s)), at + n) = cc (sym q ∙ of_small e l) in
      let w : v ≡ value_of 10 (take n (drop at s)) = ap (λ (p : ℕ × ℕ). p.0) z in
      er ∙ sym (by_digits s at n h k true e ∙ rw (es, w)))
      (λ l. let z : ◌≡◌ {A = ℕ} 0 1 = cc (of_large e l) in absurd (omega arith))
      (less_or_not (value_of 10 (take n (drop at s))) (2 ^ 64))

module _ (s : List ℕ) (at n : ℕ) where
  too_far : length s < at + n → refused InvalidBlockData ≡ definite s at n
  unfolding definite
  too_far h = rw (lt-leb (at + n) (length s) h)

  pub digits_outside' : length s < at → refused InvalidBlockData ≡ definite s at n
  digits_outside' h = too_far (omega arith)

  module _ (h : at ≤ length s) where
    pub digits_short' : length s - at < n → refused InvalidBlockData ≡ definite s at n
    digits_short' k = too_far (omega arith)

    pub digits_fit' : n ≤ length s - at → at + n ≡ length (take (at + n) s)
    digits_fit' k = sym (length-take-le (at + n) s (inside s at n h k))

pub ruleset laws = (rules, digits_outside', digits_short', digits_fit', digits_cut', digits_none', digits_large', digits_whole')
