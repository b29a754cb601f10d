-- Laws of `numeric_suffix_start`, as a loop from the end meets them.
use Prim.Native.Nat.{ℕ, zero, suc, pred, ◌+◌, ◌-◌, ◌≤◌, ◌<◌}
use mathlib.Core.Path.{◌≡◌, refl, sym, ap, ◌∙◌}
use mathlib.Core.Logic.{◌⊎◌, inl, inr}
use mathlib.Core.List.{List, [], ◌∷◌}
use mathlib.Core.Bool.{Bool, true, false, cond, not, ◌&&◌, and-false, true≢false}
use native.Mathlib.Omega.{arith}
use native.Mathlib.Numerals.{sub-one}
use native.Mathlib.Nat.{not-suc-le-zero, le_of_suc-le-suc}
use lib.ListN.{length, get_or, drop}
use lib.Seq.{drop-cons, drop-length}
use borrow.Author.Rules.{rules}
use borrow.Author.Tests.{not-true, not-false}
use Rattle.kind.specs.Class.{is_digit}
use Rattle.kind.proofs.Tests.{by_test}
use Rattle.util.specs.Run.{every}
use Rattle.mnemonic.specs.Mnemonic.{last_end, numeric_suffix_start}

-- with a character that is no digit at i and only digits behind it
pub not_every : (s : List ℕ) (i : ℕ) → i < length s → is_digit (get_or s i 0) ≡ false → every is_digit s ≡ false
unfolding every
not_every [] i h e = absurd (not-suc-le-zero h)
not_every (b ∷ s) zero h e = rw e
not_every (b ∷ s) (suc i) h e = rw (not_every s i (le_of_suc-le-suc h) e) (and-false (is_digit b))

pub last_end_lem : (s : List ℕ) (i : ℕ) → i < length s → every is_digit (drop (suc i) s) ≡ true → is_digit (get_or s i 0) ≡ false → last_end s ≡ suc i
unfolding last_end
last_end_lem [] i h d e = absurd (not-suc-le-zero h)
last_end_lem (b ∷ s) zero h d e = rw (d, e)
last_end_lem (b ∷ s) (suc i) h d e = rw (not_every s i (le_of_suc-le-suc h) e) (ap suc (last_end_lem s i (le_of_suc-le-suc h) d e))

-- what the loop keeps
pub record Passed (s : List ℕ) (i : ℕ) : Type 0 where
  pub within : i ≤ length s
  pub digits : every is_digit (drop i s) ≡ true

module _ (s : List ℕ) where
  pub stop_at : (i : ℕ) → i ≤ length s → every is_digit (drop i s) ≡ true → 0 < i → is_digit (get_or s (pred i) 0) ≡ false → numeric_suffix_start s ≡ i
  unfolding numeric_suffix_start
  stop_at zero w d h f = absurd (not-suc-le-zero h)
  stop_at (suc i) w d h f = rw (not_every s i w f) (last_end_lem s i w d f)

  more_at : (i : ℕ) → i ≤ length s → every is_digit (drop i s) ≡ true → 0 < i → is_digit (get_or s (pred i) 0) ≡ true → Passed s (pred i)
  unfolding every
  more_at zero w d h f = absurd (not-suc-le-zero h)
  more_at (suc i) w d h f = record { within = omega arith; digits = rw (drop-cons s i 0 w, f) d }

  none_at : (i : ℕ) → every is_digit (drop i s) ≡ true → i ≤ 0 → numeric_suffix_start s ≡ length s
  unfolding numeric_suffix_start
  none_at zero d h = rw d
  none_at (suc i) d h = absurd (not-suc-le-zero h)

  pub begins' : Passed s (length s)
  unfolding every
  begins' = record { within = omega arith; digits = rw drop-length }

  module _ (i : ℕ) (inv : Passed s i) where
    pub none' : i ≤ 0 → length s ≡ numeric_suffix_start s
    none' h = sym (none_at i inv.digits h)

    module _ (r : Bool) (h : 0 < i) (e : r ≡ is_digit (get_or s (i - 1) 0)) where
      pub stop' : not r ≡ true → i - 1 + 1 ≡ numeric_suffix_start s
      stop' q = let z : i - 1 + 1 ≡ i = omega arith in z ∙ sym (stop_at i inv.within inv.digits h (rw sub-one at (sym e ∙ not-true r q)))

      pub more' : (j : ℕ) → j ≡ i - 1 → not r ≡ false → Passed s j
      more' j k q = rw (k, sub-one) (more_at i inv.within inv.digits h (rw sub-one at (sym e ∙ not-false r q)))

-- the numeric_suffix starts within the text
pub last_within : (s : List ℕ) → last_end s ≤ length s
unfolding last_end
last_within [] = omega arith
last_within (b ∷ s) =
    by_test (λ (k : ℕ). k ≤ suc (length s)) (every is_digit s)
    (λ _. by_test (λ (k : ℕ). k ≤ suc (length s)) (is_digit b) (λ _. omega arith) (λ _. omega arith)) (λ _. omega (arith, last_within s))

pub starts_within : (s : List ℕ) → numeric_suffix_start s ≤ length s
unfolding numeric_suffix_start
starts_within s = by_test (λ (k : ℕ). k ≤ length s) (every is_digit s) (λ _. omega arith) (λ _. last_within s)

-- behind the last character that is no digit stand digits
last_digits : (s : List ℕ) → every is_digit (drop (last_end s) s) ≡ true
unfolding last_end every
last_digits [] = refl
last_digits (b ∷ s) =
    by_test (λ (k : ℕ). every is_digit (drop k (b ∷ s)) ≡ true) (every is_digit s)
    (λ p. by_test (λ (k : ℕ). every is_digit (drop k (b ∷ s)) ≡ true) (is_digit b) (λ q. rw (q, p)) (λ q. p)) (λ _. last_digits s)

last_plain : (s : List ℕ) → every is_digit s ≡ false → (m : ℕ) × (last_end s ≡ suc m) × (is_digit (get_or s m 0) ≡ false)
unfolding last_end every
last_plain [] h = absurd (true≢false h)
last_plain (b ∷ s) h = go (every is_digit s) (is_digit b) refl (last_plain s) h
  where
    go : (d e : Bool) → is_digit b ≡ e → (d ≡ false → (m : ℕ) × (last_end s ≡ suc m) × (is_digit (get_or s m 0) ≡ false)) → (e && d) ≡ false
        → (m : ℕ) × (cond d (cond e 0 1) (suc (last_end s)) ≡ suc m) × (is_digit (get_or (b ∷ s) m 0) ≡ false)
    go true true q ih h = absurd (true≢false h)
    go true false q ih h = (0, refl, q)
    go false e q ih h = let z = ih refl in (suc z.0, ap suc z.1, z.2)

-- a text that is not empty has a stem that is not
pub stem_some : (b : ℕ) (s : List ℕ) → (m : ℕ) × (numeric_suffix_start (b ∷ s) ≡ suc m)
unfolding numeric_suffix_start
stem_some b s =
    by_test (λ (k : ℕ). (m : ℕ) × (k ≡ suc m)) (every is_digit (b ∷ s)) (λ _. (length s, refl)) (λ e. let z = last_plain (b ∷ s) e in (z.0, z.1))

pub split_digits : (s : List ℕ) → every is_digit (drop (numeric_suffix_start s) s) ≡ true
unfolding numeric_suffix_start every
split_digits s = by_test (λ (k : ℕ). every is_digit (drop k s) ≡ true) (every is_digit s) (λ _. rw drop-length) (λ _. last_digits s)

pub split_before : (s : List ℕ) → ((every is_digit s ≡ true) × (drop (numeric_suffix_start s) s ≡ [])) ⊎ (is_digit (get_or s (numeric_suffix_start s - 1) 0) ≡ false)
unfolding numeric_suffix_start
split_before s =
    by_test (λ (k : ℕ). ((every is_digit s ≡ true) × (drop k s ≡ [])) ⊎ (is_digit (get_or s (k - 1) 0) ≡ false)) (every is_digit s)
    (λ e. inl (e, drop-length s)) (λ e. let z = last_plain s e in inr (rw (z.1, sub-one) z.2))

pub starts_within' : (s : List ℕ) (i : ℕ) → i ≡ numeric_suffix_start s → i ≤ length s
starts_within' s i e = rw e (starts_within s)

pub ruleset laws = (rules, begins', none', stop', more')
