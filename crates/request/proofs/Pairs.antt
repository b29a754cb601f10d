-- Pairs of hex digits, as the code meets them.
use Rattle.std.specs.Prelude.{All, IsTrue, ◌↔◌, Some}
use Prim.Native.Nat.{ℕ, zero, suc, ◌+◌, ◌-◌, ◌*◌, ◌/◌, ◌%◌, ◌≤◌, ◌<◌}
use mathlib.Core.Path.{◌≡◌, refl, sym, ◌∙◌}
use mathlib.Core.List.{List, [], ◌∷◌, append_assoc}
use mathlib.Core.Bool.{Bool, true, false, ◌&&◌, and-true, and-false}
use native.Mathlib.Numerals.{add-one}
use native.Mathlib.Omega.{arith}
use lib.Dec.{eqb}
use lib.Pointwise.{pointwise}
use lib.ListN.{length, get_or, set, take, drop, length-take, length-drop}
use lib.Seq.{take_all, take-suc, take-suc-set, drop-drop}
use borrow.Author.Rules.{rules}
use borrow.Rule.Slice.PartMut.{put_mid}
use borrow.Author.Tests.{lt-ltb, ltb-true}
use mir.Syntax.{w8}
use mir.Val.{Fits}
use Rattle.kind.proofs.Tests.{and_left, and_right, and_both, clash}
use Rattle.integer.specs.Digit.{digit_of, is_digit_of}
use Rattle.request.specs.Hex.{is_hex, are_pairs, bytes_of, is_dash}
use Rattle.request.specs.Unhex.{written}

-- `-` alone
dash_alone : (s : List ℕ) → pointwise eqb s (45 ∷ []) ≡ is_dash s
unfolding is_dash
dash_alone [] = refl
dash_alone (b ∷ []) = and-true (eqb b 45)
dash_alone (b ∷ c ∷ s) = and-false (eqb b 45)

pub dash' : (s t : List ℕ) (r : Bool) → r ≡ pointwise eqb s t → t ≡ 45 ∷ [] → r ≡ is_dash s
dash' s t r e q = e ∙ rw q (dash_alone s)

-- hex digits by their value
hex : (b : ℕ) → digit_of b < 16 → is_hex b ≡ true
unfolding is_digit_of
hex b h = lt-ltb (digit_of b) 16 h

value : (b : ℕ) → is_hex b ≡ true → digit_of b < 16
unfolding is_digit_of
value b e = ltb-true (digit_of b) 16 e

abbrev pub AreDigits : List ℕ → Type 0
AreDigits s = All (λ b. digit_of b < 16) s

module _ (x y : ℕ) (s : List ℕ) (e : are_pairs (x ∷ y ∷ s) ≡ true) where
  first : digit_of x < 16
  unfolding are_pairs
  first = value x (and_left (is_hex x) (is_hex y && are_pairs s) e)

  second : digit_of y < 16
  unfolding are_pairs
  second = value y (and_left (is_hex y) (are_pairs s) (and_right (is_hex x) (is_hex y && are_pairs s) e))

  others : are_pairs s ≡ true
  unfolding are_pairs
  others = and_right (is_hex y) (are_pairs s) (and_right (is_hex x) (is_hex y && are_pairs s) e)

-- digits, and none is left over
pub pairs_digits : (s : List ℕ) → are_pairs s ≡ true → AreDigits s
unfolding are_pairs
pairs_digits [] e k d h = absurd (omega arith)
pairs_digits (x ∷ []) e k d h = absurd (let z : false ≡ true = e in (cc))
pairs_digits (x ∷ y ∷ s) e zero d h = first x y s e
pairs_digits (x ∷ y ∷ s) e (suc zero) d h = second x y s e
pairs_digits (x ∷ y ∷ s) e (suc (suc k)) d h = pairs_digits s (others x y s e) k d (omega arith)

even : (s : List ℕ) → are_pairs s ≡ true → length s % 2 ≡ 0
unfolding are_pairs
even [] e = refl
even (x ∷ []) e = absurd (let z : false ≡ true = e in (cc))
even (x ∷ y ∷ s) e = omega (arith, even s (others x y s e))

digits_pairs : (s : List ℕ) → length s % 2 ≡ 0 → AreDigits s → are_pairs s ≡ true
unfolding are_pairs
digits_pairs [] e h = refl
digits_pairs (x ∷ []) e h = absurd (let z : 1 ≡ 0 = e in omega arith)
digits_pairs (x ∷ y ∷ s) e h =
    and_both (hex x (h 0 0 (omega arith))) (and_both (hex y (h 1 0 (omega arith))) (digits_pairs s (omega arith) (λ k d l. h (suc (suc k)) d (omega arith))))

not_true : (b : Bool) → (b ≡ true → ⊥) → b ≡ false
not_true true n = absurd (n refl)
not_true false n = refl

pub odd' : (s : List ℕ) → (length s % 2 ≡ 0 → ⊥) → false ≡ are_pairs s
odd' s n = sym (not_true (are_pairs s) (λ e. n (even s e)))

pub digits' : (s : List ℕ) (r : Bool) → length s % 2 ≡ 0 → IsTrue r ↔ AreDigits s → r ≡ are_pairs s
digits' s true e f = sym (digits_pairs s e (f.0 refl))
digits' s false e f = sym (not_true (are_pairs s) (λ q. clash (f.1 (pairs_digits s q)) refl))

-- a byte for each pair
pub bytes_length : (s : List ℕ) → length (bytes_of s) ≡ length s / 2
unfolding bytes_of
bytes_length [] = refl
bytes_length (x ∷ []) = refl
bytes_length (x ∷ y ∷ s) = omega (arith, bytes_length s)

byte_at : (s : List ℕ) (i : ℕ) → i < length s / 2 → digit_of (get_or s (2 * i) 0) * 16 + digit_of (get_or s (2 * i + 1) 0) ≡ get_or (bytes_of s) i 0
unfolding bytes_of
byte_at [] i h = absurd (omega arith)
byte_at (x ∷ []) i h = absurd (omega arith)
byte_at (x ∷ y ∷ s) zero h = refl
byte_at (x ∷ y ∷ s) (suc i) h =
    let e : 2 * suc i + 1 ≡ suc (suc (2 * i + 1)) = omega arith in
    let f : 2 * suc i ≡ suc (suc (2 * i)) = omega arith in
    rw (e, f) (byte_at s i (omega arith))

-- As the loop meets them: the digits of one pair.
module _ (s : List ℕ) (p : are_pairs s ≡ true) (i : ℕ) (h : i < length s / 2) where
  pub high_fits' : (x : ℕ) → x ≡ digit_of (get_or s (2 * i) 0) → Fits w8 (x * 16)
  high_fits' x e = omega (arith, pairs_digits s p (2 * i) 0 (omega arith))

  module _ (x y : ℕ) (e : x ≡ digit_of (get_or s (2 * i) 0)) (f : y ≡ digit_of (get_or s (2 * i + 1) 0)) where
    pub byte_fits' : Fits w8 (x * 16 + y)
    byte_fits' = omega (arith, pairs_digits s p (2 * i) 0 (omega arith), pairs_digits s p (2 * i + 1) 0 (omega arith))

    pub one_more' : (xs : List ℕ) → i < length xs → take i xs ≡ take i (bytes_of s) → take (i + 1) (set xs i (x * 16 + y)) ≡ take (i + 1) (bytes_of s)
    one_more' xs k inv =
        let l : i < length (bytes_of s) = omega (arith, bytes_length s) in
        rw (add-one, take-suc-set xs i (x * 16 + y) k, take-suc (bytes_of s) i 0 l, inv, e, f, byte_at s i h)

-- when the last byte is written, the text stands in the buffer
pub all_written' : (s o xs : List ℕ) (at i : ℕ) → at + length s / 2 ≤ length o → length xs ≡ length (take (at + length s / 2 - at) (drop at o))
    → length (take (at + length s / 2 - at) (drop at o)) ≤ i → take i xs ≡ take i (bytes_of s)
    → record { says = Some (at + length s / 2); slots = put_mid at (at + length s / 2 - at) o xs } ≡ written o at (bytes_of s)
all_written' s o xs at i h l k inv =
    let n : at + length s / 2 - at ≡ length s / 2 = omega arith in
    let m : length xs ≡ length s / 2 = omega (arith, l, length-take (at + length s / 2 - at) (drop at o), length-drop at o) in
    let e : xs ≡ bytes_of s = sym (take_all i xs (omega arith)) ∙ inv ∙ take_all i (bytes_of s) (omega (arith, bytes_length s)) in
    rw (n, drop-drop (length s / 2) at o, e, bytes_length s, append_assoc)

pub ruleset laws = (rules, dash', odd', digits', high_fits', byte_fits', one_more', all_written')
