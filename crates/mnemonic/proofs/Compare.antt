-- Laws of `compares`, one for each way out of the comparison.
use Prim.Native.Nat.{ℕ, ◌-◌, ◌≤◌, ◌<◌}
use mathlib.Core.Path.{◌≡◌, refl, sym, ◌∙◌}
use mathlib.Core.List.{List, ◌∷◌}
use mathlib.Core.Bool.{Bool, true, false, not, ◌&&◌, ◌||◌, false≢true}
use native.Mathlib.Omega.{arith}
use lib.ListN.{length, take, drop, length-take, length-drop}
use lib.Seq.{take_all, length-take-le}
use borrow.Author.Rules.{rules}
use borrow.Author.Tests.{not-true, not-false}
use Rattle.util.specs.Run.{every}
use Rattle.mnemonic.specs.Mnemonic.{pairs, either_case, not_small, may_leave_out, compares}
use Rattle.mnemonic.proofs.Pairs.{differ, long}

-- a part's length is what was asked for
pub part_long' : (n : ℕ) (m : List ℕ) → n ≤ length m → n ≡ length (take n m)
part_long' n m h = sym (length-take-le n m h)

-- a part up to the end is all that is left
pub to_end : (n : ℕ) (m : List ℕ) → take (length m - n) (drop n m) ≡ drop n m
to_end n m = take_all (length m - n) (drop n m) (simp length-drop (omega arith))

-- texts that begin with two characters do not compare
pub begin_apart : (c d : ℕ) (m s : List ℕ) → either_case c d ≡ false → compares (c ∷ m) (d ∷ s) ≡ false
unfolding compares pairs
begin_apart c d m s e = rw e

module _ (m s : List ℕ) where
  -- with no word of the mnemonic's own length only the short form is left
  apart : (length m ≡ length s → ⊥) → compares m s ≡ (pairs either_case (take (length s) m) s && (every not_small (take (length s) m) && every may_leave_out (drop (length s) m)))
  unfolding compares
  apart h = rw (differ either_case m s h)

  pub longer' : length m < length s → false ≡ compares m s
  longer' h =
      sym (apart (λ e. omega arith) ∙ rw (differ either_case (take (length s) m) s (λ e. omega (arith, e, length-take (length s) m))))

  module _ (a : Bool) (alike' : a ≡ pairs either_case (take (length s) m) s) where
    pub whole' : length m ≡ length s → not a ≡ false → true ≡ compares m s
    unfolding compares
    whole' h q =
        let e : take (length s) m ≡ m = take_all (length s) m (omega arith) in
        rw (← (rw e at (sym (not-false a q) ∙ alike')))

    pub other' : length s ≤ length m → not a ≡ true → false ≡ compares m s
    unfolding compares
    other' h q = rw (← alike', not-true a q) (go (pairs either_case m s) refl)
      where
        go : (b : Bool) → pairs either_case m s ≡ b → false ≡ (b || false)
        go false e = refl
        go true e =
            let l : length m ≡ length s = long either_case m s e in
            let w : take (length s) m ≡ m = take_all (length s) m (omega arith) in
            absurd (false≢true (sym (not-true a q) ∙ alike' ∙ rw w e))

    module _ (h : length m ≡ length s → ⊥) (q : not a ≡ false) (b : Bool) (caps : b ≡ every not_small (take (length s) m)) where
      pub small_in' : not b ≡ true → false ≡ compares m s
      small_in' k = sym (apart h ∙ rw (← alike', not-false a q, ← caps, not-true b k))

      pub rest' : not b ≡ false → (c : Bool) → c ≡ every may_leave_out (take (length m - length s) (drop (length s) m)) → c ≡ compares m s
      rest' k c left = sym (apart h ∙ rw (← alike', not-false a q, ← caps, not-false b k, left, to_end (length s) m))

pub ruleset laws = (rules, part_long', longer', whole', other', small_in', rest')
