-- Laws of the classes of single characters.
use Prim.Native.Nat.{ℕ, ◌+◌, ◌≤◌}
use mathlib.Core.Path.{◌≡◌, refl, sym, ◌∙◌}
use mathlib.Core.List.{List, [], ◌∷◌}
use mathlib.Core.Bool.{Bool, true, false, cond, not, and-true}
use native.Mathlib.Omega.{arith}
use lib.Dec.{eqb, leb}
use lib.ListN.{length, get_or}
use mir.Syntax.{w8}
use mir.Val.{Fits}
use borrow.Author.Rules.{rules}
use borrow.Author.Tests.{leb-true, eq-eqb, ne_eqb}
use Rattle.kind.specs.Class.{is_capital, is_small, is_digit}
use Rattle.kind.proofs.Tests.{and_left, and_right}
use Rattle.kind.proofs.Classes.{small_no_capital, small_no_digit, digit_no_capital, capital_no_small}
use Rattle.mnemonic.specs.Mnemonic.{pairs, folded, either_case, not_small, may_leave_out}
use Rattle.mnemonic.proofs.Pairs.{differ}

pub small_left_out : (b : ℕ) → is_small b ≡ true → may_leave_out b ≡ true
unfolding may_leave_out
small_left_out b e = rw (small_no_capital b e, small_no_digit b e)

module _ (b : ℕ) (r : Bool) where
  module _ (e : r ≡ is_capital b) where
    pub folded_fits' : r ≡ true → Fits w8 (b + 32)
    unfolding is_capital
    folded_fits' q = record { fits = omega (arith, leb-true b 90 (and_right (leb 65 b) (leb b 90) (sym e ∙ q))) }

    pub left_out_capital' : r ≡ true → false ≡ may_leave_out b
    unfolding may_leave_out
    left_out_capital' q = rw (← e, q)

    pub left_out_other' : (d : Bool) → d ≡ is_digit b → r ≡ false → not d ≡ may_leave_out b
    unfolding may_leave_out
    left_out_other' d f q = rw (← e, q, f)

  module _ (e : r ≡ is_small b) where
    pub left_out_small' : r ≡ true → true ≡ may_leave_out b
    left_out_small' q = sym (small_left_out b (sym e ∙ q))

    pub not_small' : not r ≡ not_small b
    unfolding not_small
    not_small' = rw e

module _ (c d : ℕ) where
  pub one_character' : c ≡ d → true ≡ either_case c d
  unfolding either_case
  one_character' h = rw h (sym (eq-eqb (folded d) (folded d) refl))

  module _ (apart : c ≡ d → ⊥) (x : Bool) (cap : x ≡ is_capital c) where
    pub first_capital' : x ≡ true → eqb (c + 32) d ≡ either_case c d
    unfolding either_case folded is_capital
    first_capital' q = rw (← cap, q) (go (is_capital d) refl)
      where
        go : (y : Bool) → is_capital d ≡ y → eqb (c + 32) d ≡ eqb (c + 32) (cond y (d + 32) d)
        go true e =
            let low : 65 ≤ c = leb-true 65 c (and_left (leb 65 c) (leb c 90) (sym cap ∙ q)) in
            let high : d ≤ 90 = leb-true d 90 (and_right (leb 65 d) (leb d 90) e) in
            ne_eqb (c + 32) d (λ h. omega (arith, h, low, high)) ∙ sym (ne_eqb (c + 32) (d + 32) (λ h. apart (omega (arith, h))))
        go false e = refl

    module _ (q : x ≡ false) (y : Bool) (cap' : y ≡ is_capital d) where
      pub second_capital' : y ≡ true → eqb c (d + 32) ≡ either_case c d
      unfolding either_case folded
      second_capital' p = rw (← cap, q, ← cap', p)

      pub no_capital' : y ≡ false → false ≡ either_case c d
      unfolding either_case folded
      no_capital' p = rw (← cap, q, ← cap', p) (sym (ne_eqb c d apart))

module _ (s : List ℕ) where
  pub one_long' : (length s ≡ 1 → ⊥) → false ≡ pairs eqb s (49 ∷ [])
  one_long' h = sym (differ eqb s (49 ∷ []) h)

  pub one_is' : length s ≡ 1 → eqb (get_or s 0 0) 49 ≡ pairs eqb s (49 ∷ [])
  unfolding pairs
  one_is' = go s
    where
      go : (s : List ℕ) → length s ≡ 1 → eqb (get_or s 0 0) 49 ≡ pairs eqb s (49 ∷ [])
      go [] h = absurd (omega arith)
      go (c ∷ []) h = sym (and-true (eqb c 49))
      go (c ∷ d ∷ s) h = absurd (omega arith)

module _ (b : ℕ) where
  pub capital_needed : is_capital b ≡ true → may_leave_out b ≡ false
  unfolding may_leave_out
  capital_needed e = rw e

  pub digit_needed : is_digit b ≡ true → may_leave_out b ≡ false
  unfolding may_leave_out
  digit_needed e = rw (digit_no_capital b e, e)

  pub capital_not_small : is_capital b ≡ true → not_small b ≡ true
  unfolding not_small
  capital_not_small e = rw (capital_no_small b e)

  pub small_is_small : is_small b ≡ true → not_small b ≡ false
  unfolding not_small
  small_is_small e = rw e

pub ruleset case_laws = (rules, folded_fits', one_character', first_capital', second_capital', no_capital')

pub ruleset laws = (rules, left_out_small', left_out_capital', left_out_other', not_small', one_long', one_is')
