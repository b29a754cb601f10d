-- Texts alike in either case have the same digits, and so the same suffix; and where a numeric_suffix starts.
use Prim.Native.Nat.{ℕ, zero, suc, pred, ◌+◌, ◌≤◌}
use mathlib.Core.Path.{◌≡◌, refl, sym, ap₂, ◌∙◌}
use mathlib.Core.Logic.{◌⊎◌, inl, inr, ⊎_elim}
use mathlib.Core.List.{List, [], ◌∷◌, ◌++◌, append_assoc, append-nil}
use mathlib.Core.Bool.{Bool, true, false, ◌&&◌}
use native.Mathlib.Omega.{arith}
use lib.Dec.{eqb, leb}
use lib.ListN.{length, take, drop, length-append}
use lib.Seq.{drop-append_seam, get_or-append_seam}
use borrow.Author.Tests.{leb-true, eqb-true, eq-eqb}
use Rattle.kind.specs.Class.{is_capital, is_small, is_digit}
use Rattle.kind.proofs.Tests.{both_ways, or_left, and_left, and_right, and_both, clash}
use Rattle.kind.proofs.Classes.{digit_no_capital, small_no_digit}
use Rattle.util.specs.Run.{every}
use Rattle.mnemonic.specs.Mnemonic.{pairs, folded, either_case, alike, last_end, numeric_suffix_start, same_numeric_suffix}
use Rattle.mnemonic.proofs.{Pairs.long, Split.stop_at}

-- a letter without its case lies above the digits, and any other character stays as it is
folded_range : (b : ℕ) → (97 ≤ folded b) ⊎ (folded b ≡ b)
unfolding folded is_capital
folded_range b = go (is_capital b) refl
  where
    go : (r : Bool) → is_capital b ≡ r → (97 ≤ folded b) ⊎ (folded b ≡ b)
    go true e = inl (rw e (omega (arith, leb-true 65 b (and_left (leb 65 b) (leb b 90) e))))
    go false e = inr (rw e)

digit_stays : (c d : ℕ) → is_digit c ≡ true → folded c ≡ folded d → d ≡ c
unfolding is_digit folded
digit_stays c d h e =
    let top : c ≤ 57 = leb-true c 57 (and_right (leb 48 c) (leb c 57) h) in
    let low : folded c ≡ c = rw (digit_no_capital c h) in
    ⊎_elim (λ y. absurd (omega arith)) (λ y. sym y ∙ sym e ∙ low) (folded_range d)

same_digit : (c d : ℕ) → folded c ≡ folded d → is_digit c ≡ is_digit d
same_digit c d e = both_ways (is_digit c) (is_digit d) (λ h. rw (digit_stays c d h e) h) (λ h. rw (digit_stays d c h (sym e)) h)

module _ (c d : ℕ) (x y : List ℕ) (e : alike (c ∷ x) (d ∷ y) ≡ true) where
  first_folds : folded c ≡ folded d
  unfolding pairs either_case
  first_folds = eqb-true (folded c) (folded d) (and_left (eqb (folded c) (folded d)) (pairs either_case x y) e)

  rest_alike : alike x y ≡ true
  unfolding pairs
  rest_alike = and_right (either_case c d) (pairs either_case x y) e

alike_digits : (x y : List ℕ) → alike x y ≡ true → every is_digit x ≡ every is_digit y
unfolding every pairs
alike_digits [] [] e = refl
alike_digits [] (d ∷ y) e = clash e refl
alike_digits (c ∷ x) [] e = clash e refl
alike_digits (c ∷ x) (d ∷ y) e = ap₂ ◌&&◌ (same_digit c d (first_folds c d x y e)) (alike_digits x y (rest_alike c d x y e))

alike_last : (x y : List ℕ) → alike x y ≡ true → last_end x ≡ last_end y
unfolding last_end pairs
alike_last [] [] e = refl
alike_last [] (d ∷ y) e = clash e refl
alike_last (c ∷ x) [] e = clash e refl
alike_last (c ∷ x) (d ∷ y) e =
    rw (same_digit c d (first_folds c d x y e), alike_digits x y (rest_alike c d x y e), alike_last x y (rest_alike c d x y e))

pub alike_start : (x y : List ℕ) → alike x y ≡ true → numeric_suffix_start x ≡ numeric_suffix_start y
unfolding numeric_suffix_start
alike_start x y e = rw (alike_digits x y e, alike_last x y e, long either_case x y e)

pub alike_equal : (x y : List ℕ) → alike x y ≡ true → every is_digit x ≡ true → x ≡ y
unfolding every pairs
alike_equal [] [] e h = refl
alike_equal [] (d ∷ y) e h = clash e refl
alike_equal (c ∷ x) [] e h = clash e refl
alike_equal (c ∷ x) (d ∷ y) e h =
    ap₂ ◌∷◌ (sym (digit_stays c d (and_left (is_digit c) (every is_digit x) h) (first_folds c d x y e)))
    (alike_equal x y (rest_alike c d x y e) (and_right (is_digit c) (every is_digit x) h))

pub alike_take : (i : ℕ) (x y : List ℕ) → alike x y ≡ true → alike (take i x) (take i y) ≡ true
unfolding pairs
alike_take zero x y e = refl
alike_take (suc i) [] [] e = refl
alike_take (suc i) [] (d ∷ y) e = clash e refl
alike_take (suc i) (c ∷ x) [] e = clash e refl
alike_take (suc i) (c ∷ x) (d ∷ y) e =
    and_both (and_left (either_case c d) _ e) (alike_take i x y (and_right (either_case c d) _ e))

pub alike_drop : (i : ℕ) (x y : List ℕ) → alike x y ≡ true → alike (drop i x) (drop i y) ≡ true
unfolding pairs
alike_drop zero x y e = e
alike_drop (suc i) [] [] e = e
alike_drop (suc i) [] (d ∷ y) e = clash e refl
alike_drop (suc i) (c ∷ x) [] e = clash e refl
alike_drop (suc i) (c ∷ x) (d ∷ y) e = alike_drop i x y (rest_alike c d x y e)

pub same_itself : (x : List ℕ) → pairs eqb x x ≡ true
unfolding pairs
same_itself [] = refl
same_itself (c ∷ x) = and_both (eq-eqb c c refl) (same_itself x)

pub suffix_itself : (x y : List ℕ) → x ≡ y → same_numeric_suffix x y ≡ true
unfolding same_numeric_suffix
suffix_itself x y e = or_left {a = pairs eqb x y} _ (rw e (same_itself y))

-- a text that ends in no digit

pub record Ends (x : List ℕ) : Type 0 where
  pub front : List ℕ
  pub last : ℕ
  pub whole : x ≡ front ++ (last ∷ [])
  pub plain : is_digit last ≡ false

-- digits behind it are its suffix
pub start_behind : (x d : List ℕ) → Ends x → every is_digit d ≡ true → numeric_suffix_start (x ++ d) ≡ length x
start_behind x d e h =
    let size : length x ≡ length e.front + 1 = rw (e.whole, length-append) in
    let at : pred (length x) ≡ length e.front = omega arith in
    stop_at (x ++ d) (length x) (rw length-append (omega arith)) (rw (drop-append_seam x d) h) (omega arith)
    (rw (at, e.whole, append_assoc, get_or-append_seam e.front e.last d 0) e.plain)

pub ends_behind : (x l : List ℕ) → Ends x → every is_small l ≡ true → Ends (x ++ l)
unfolding every
ends_behind x [] e h = rw append-nil e
ends_behind x (b ∷ l) e h =
    rw (← append_assoc x (b ∷ []) l)
    (ends_behind (x ++ (b ∷ [])) l
    (record { front = x; last = b; whole = refl; plain = small_no_digit b (and_left (is_small b) (every is_small l) h) })
    (and_right (is_small b) (every is_small l) h))
