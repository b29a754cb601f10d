-- A number in decimal, as far as its digits go and as a whole text.
use Rattle.std.specs.Prelude.{Option, Some, None, Result, Ok, Err}
use Rattle.std.specs.Result.{result_ok}
use Rattle.std.proofs.lemmas.Option.{none-some, same_Some}
use Prim.Native.Nat.{ℕ, ◌+◌, ◌-◌, ◌^◌, ◌≤◌, ◌<◌}
use mathlib.Core.Path.{◌≡◌, refl, sym, ap, ◌∙◌}
use mathlib.Core.Logic.{◌⊎◌, ⊎_elim}
use mathlib.Core.List.{List, [], ◌∷◌}
use mathlib.Core.Bool.{Bool, true, false, cond, and-false}
use native.Mathlib.Nat.{le_refl}
use native.Mathlib.Omega.{arith}
use lib.Dec.{eqb, ltb, leb}
use lib.ListN.{length, take, drop, length-take}
use lib.Seq.{take-length}
use borrow.Author.Rules.{rules}
use borrow.Author.Tests.{le-leb, lt-leb, lt-ltb, le-ltb, eq-eqb, ne_eqb}
use Rattle.kind.specs.Class.{is_digit}
use Rattle.kind.proofs.Tests.{less_or_not, clash, by_test}
use Rattle.util.specs.Run.{run, every}
use Rattle.util.proofs.Every.{every_run, run_every}
use Rattle.integer.specs.{Digit.is_digit_of, Digit.value_of, declared.Radix.TheVariants.Decimal}
use Rattle.integer.specs.Number.{digits, found_at, unsigned_of, unsigned_at}
use Rattle.integer.proofs.{Digits.decimal, Values.taken}
use Rattle.request.specs.Number.{is_number, number_of, number_in}
use Rattle.integer.specs.declared.NumberError.{NumberError}
use Rattle.request.proofs.Parts.{part, inside, outside}

-- a number whose digits go to the end of a text of n characters
abbrev whole : ℕ → Result (ℕ × ℕ) NumberError → Option ℕ
whole n (Ok (v, e)) = cond (leb n e) (Some v) None
whole n (Err NumberError.NoDigit) = None
whole n (Err NumberError.TooLarge) = None

same_run : (t : List ℕ) → run (is_digit_of 10) t ≡ run is_digit t
unfolding run
same_run [] = refl
same_run (b ∷ t) = rw (decimal b, same_run t)

module _ (v e n : ℕ) where
  ends : 0 < e → n ≤ e → (c : Bool) → whole n (cond c (found_at v 0 e) (Err NumberError.TooLarge)) ≡ cond c (Some v) None
  unfolding found_at
  ends h k true = rw (ne_eqb e 0 (λ z. omega arith), le-leb n e k)
  ends h k false = refl

  none : e ≡ 0 → (c : Bool) → whole n (cond c (found_at v 0 e) (Err NumberError.TooLarge)) ≡ None
  unfolding found_at
  none h true = rw (eq-eqb e 0 h)
  none h false = refl

  goes_on : e < n → (c : Bool) → whole n (cond c (found_at v 0 e) (Err NumberError.TooLarge)) ≡ None
  unfolding found_at
  goes_on h true = by_test (λ (u : Result (ℕ × ℕ) NumberError). whole n u ≡ None) (eqb e 0) (λ _. refl) (λ _. rw (lt-leb n e h))
  goes_on h false = refl

module _ (t : List ℕ) where
  by_run : (n : ℕ) → n ≡ run is_digit t → unsigned_at Decimal t 0 ≡ cond (ltb (value_of 10 (take n t)) (2 ^ 64)) (found_at (value_of 10 (take n t)) 0 n) (Err NumberError.TooLarge)
  unfolding unsigned_at unsigned_of digits
  by_run n e =
      let z : 0 + length (take n t) ≡ n = omega (arith, taken is_digit t, ap (λ (k : ℕ). length (take k t)) e) in
      rw (same_run t, ← e, z)

  by_digits : (a : Bool) → every is_digit t ≡ a → whole (length t) (unsigned_at Decimal t 0) ≡ number_of t
  unfolding number_of is_number
  by_digits true p =
      rw (by_run (length t) (sym (every_run is_digit t p)), take-length t, p)
      (⊎_elim (λ h. rw (lt-ltb 0 (length t) h) (ends (value_of 10 t) (length t) (length t) h (le_refl (length t)) (ltb (value_of 10 t) (2 ^ 64))))
      (λ h. rw (le-ltb 0 (length t) h) (none (value_of 10 t) (length t) (length t) (omega arith) (ltb (value_of 10 t) (2 ^ 64))))
      (less_or_not 0 (length t)))
  by_digits false p =
      let v : ℕ = value_of 10 (take (run is_digit t) t) in
      rw (by_run (run is_digit t) refl, p, and-false)
      (⊎_elim (λ h. goes_on v (run is_digit t) (length t) h (ltb v (2 ^ 64)))
      (λ h. clash (run_every is_digit t (omega (arith, taken is_digit t, length-take (run is_digit t) t))) p)
      (less_or_not (run is_digit t) (length t)))

  -- As the code meets them: the number that begins the text.
  module _ (r : Result (ℕ × ℕ) NumberError) (e : r ≡ unsigned_at Decimal t 0) where
    by_case : (u : Result (ℕ × ℕ) NumberError) → r ≡ u → whole (length t) u ≡ number_of t
    by_case u q = rw (← q, e) (by_digits (every is_digit t) refl)

    pub no_number' : (x : Option ℕ) → x ≡ None → result_ok r ≡ None → x ≡ number_of t
    no_number' x n h = n ∙ go r refl h
      where
        go : (u : Result (ℕ × ℕ) NumberError) → r ≡ u → result_ok u ≡ None → None ≡ number_of t
        go (Ok u) q h = absurd (none-some u (sym h))
        go (Err NumberError.NoDigit) q h = by_case (Err NumberError.NoDigit) q
        go (Err NumberError.TooLarge) q h = by_case (Err NumberError.TooLarge) q

    module _ (v end : ℕ) (q : result_ok r ≡ Some (v, end)) where
      read : r ≡ Ok (v, end)
      read = go r refl
        where
          go : (u : Result (ℕ × ℕ) NumberError) → r ≡ u → r ≡ Ok (v, end)
          go (Ok u) p = let h : Some u ≡ Some (v, end) = sym (ap result_ok p) ∙ q in p ∙ ap (λ (w : ℕ × ℕ). Ok w) (same_Some u (v, end) h)
          go (Err x) p = absurd (none-some (v, end) (sym (ap result_ok p) ∙ q))

      pub more_behind' : end < length t → None ≡ number_of t
      more_behind' h = rw (lt-leb (length t) end h) at (by_case (Ok (v, end)) read)

      pub whole' : length t ≤ end → Some v ≡ number_of t
      whole' h = rw (le-leb (length t) end h) at (by_case (Ok (v, end)) read)

-- a part of a line
module _ (s : List ℕ) (from to : ℕ) where
  pub no_part' : (o : Option ℕ) → o ≡ None → (to < from) ⊎ (length s < to) → o ≡ number_in s from to
  unfolding number_in
  no_part' o n h = rw (outside s from to h) n

  pub in_part' : from ≤ to → to ≤ length s → (t : List ℕ) → t ≡ take (to - from) (drop from s) → (o : Option ℕ) → o ≡ number_of t → o ≡ number_in s from to
  unfolding number_in
  in_part' h l t e o q = rw (inside s from to h l, ← part s from to h l, ← e) q

pub ruleset laws = (rules, no_number', more_behind', whole', no_part', in_part')
