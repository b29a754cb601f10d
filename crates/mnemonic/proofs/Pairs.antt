-- Laws of `pairs`, over any relation r, as a loop over two texts meets them.
use Prim.Native.Nat.{ℕ, suc, ◌+◌, ◌≤◌, ◌<◌}
use mathlib.Core.Path.{◌≡◌, refl, sym, ap, ◌∙◌}
use mathlib.Core.List.{List, [], ◌∷◌}
use mathlib.Core.Bool.{Bool, true, false, not, ◌&&◌, and-false, false≢true}
use native.Mathlib.Omega.{arith}
use native.Mathlib.Numerals.{add-one}
use lib.ListN.{length, get_or, drop, drop_of_length-le}
use lib.Dec.{eqb}
use lib.Seq.{drop-cons}
use borrow.Author.Rules.{rules}
use borrow.Author.Tests.{not-true, not-false, eq-eqb, ne_eqb}
use Rattle.kind.proofs.Tests.{and_right}
use Rattle.mnemonic.specs.Mnemonic.{pairs}

-- texts of two lengths are no pairs
pub differ : (r : ℕ → ℕ → Bool) (x y : List ℕ) → (length x ≡ length y → ⊥) → pairs r x y ≡ false
unfolding pairs
differ r [] [] h = absurd (h refl)
differ r [] (d ∷ y) h = refl
differ r (c ∷ x) [] h = refl
differ r (c ∷ x) (d ∷ y) h = rw (differ r x y (λ e. h (ap suc e))) (and-false (r c d))

-- pairs are as long as each other
pub long : (r : ℕ → ℕ → Bool) (x y : List ℕ) → pairs r x y ≡ true → length x ≡ length y
unfolding pairs
long r [] [] h = refl
long r [] (d ∷ y) h = absurd (false≢true h)
long r (c ∷ x) [] h = absurd (false≢true h)
long r (c ∷ x) (d ∷ y) h = ap suc (long r x y (and_right (r c d) (pairs r x y) h))

module _ (r : ℕ → ℕ → Bool) (x y : List ℕ) where
  pub differ' : (length x ≡ length y → ⊥) → false ≡ pairs r x y
  differ' h = sym (differ r x y h)

  module _ (i : ℕ) (inv : pairs r x y ≡ pairs r (drop i x) (drop i y)) (level : length x ≡ length y) where
    pub at_step : i < length x → pairs r x y ≡ (r (get_or x i 0) (get_or y i 0) && pairs r (drop (suc i) x) (drop (suc i) y))
    unfolding pairs
    at_step h = let k : i < length y = omega arith in inv ∙ rw (drop-cons x i 0, drop-cons y i 0)

    pub stop' : (b : Bool) → i < length x → b ≡ r (get_or x i 0) (get_or y i 0) → not b ≡ true → false ≡ pairs r x y
    stop' b h e q = sym (at_step h ∙ rw (← e, not-true b q))

    pub more' : (b : Bool) → i < length x → b ≡ r (get_or x i 0) (get_or y i 0) → not b ≡ false → pairs r x y ≡ pairs r (drop (i + 1) x) (drop (i + 1) y)
    more' b h e q = at_step h ∙ rw (← e, not-false b q, add-one)

    pub past' : length x ≤ i → true ≡ pairs r x y
    unfolding pairs
    past' h = let k : length y ≤ i = omega arith in sym (inv ∙ rw (drop_of_length-le x h, drop_of_length-le y k))

module _ (x y : List ℕ) (i : ℕ) (inv : pairs eqb x y ≡ pairs eqb (drop i x) (drop i y)) (level : length x ≡ length y) where
  pub stop_equal' : i < length x → (get_or x i 0 ≡ get_or y i 0 → ⊥) → false ≡ pairs eqb x y
  stop_equal' h q = stop' eqb x y i inv level (eqb (get_or x i 0) (get_or y i 0)) h refl (ap not (ne_eqb _ _ q))

  pub more_equal' : i < length x → get_or x i 0 ≡ get_or y i 0 → pairs eqb x y ≡ pairs eqb (drop (i + 1) x) (drop (i + 1) y)
  more_equal' h q = more' eqb x y i inv level (eqb (get_or x i 0) (get_or y i 0)) h refl (ap not (eq-eqb _ _ q))

pub ruleset laws = (rules, differ', stop', more', past', stop_equal', more_equal')
