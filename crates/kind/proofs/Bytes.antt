-- Rules over all bytes, each proved by one test that is computed over the whole range.
use Prim.Native.Nat.{ℕ, zero, suc, ◌+◌, ◌<◌}
use mathlib.Core.Path.{◌≡◌, refl, sym, ap, ◌∙◌}
use mathlib.Core.List.{List, [], ◌∷◌}
use mathlib.Core.Bool.{Bool, true, false, beq, ◌&&◌}
use native.Mathlib.Nat.{add-zero, zero-add, add-suc, suc-add, le_of_suc-le-suc, not-suc-le-zero}
use lib.Dec.{T}
use lib.ListN.{get_or}

module _ {A : Type 0} (d : A) where
  -- the list f i, f (i + 1), .., of n entries
  abbrev pub table : (ℕ → A) → ℕ → ℕ → List A
  table f i zero = []
  table f i (suc n) = f i ∷ table f (suc i) n

  from : (f : ℕ → A) (n i k : ℕ) → k < n → get_or (table f i n) k d ≡ f (i + k)
  from f zero i k h = absurd (not-suc-le-zero h)
  from f (suc n) i zero h = ap f (sym (add-zero i))
  from f (suc n) i (suc k) h = from f n (suc i) k (le_of_suc-le-suc h) ∙ ap f (suc-add i k ∙ sym (add-suc i k))

  -- entry k of the list f 0, .., f (n - 1) is f k; a constant table that is this list needs no second copy
  pub entry : (f : ℕ → A) (n k : ℕ) → k < n → get_or (table f 0 n) k d ≡ f k
  entry f n k h = from f n 0 k h ∙ ap f (zero-add k)

-- two tests give the same on the n numbers from i on
abbrev pub agree : (ℕ → Bool) → (ℕ → Bool) → ℕ → ℕ → Bool
agree p q i zero = true
agree p q i (suc n) = beq (p i) (q i) && agree p q (suc i) n

beq_eq : (a b : Bool) → T (beq a b) → a ≡ b
beq_eq true true t = refl
beq_eq true false t = absurd t
beq_eq false true t = absurd t
beq_eq false false t = refl

left : (a b : Bool) → T (a && b) → T a
left true b t = tt
left false b t = absurd t

right : (a b : Bool) → T (a && b) → T b
right true b t = t
right false b t = absurd t

agree_from : (p q : ℕ → Bool) (n i k : ℕ) → T (agree p q i n) → k < n → p (i + k) ≡ q (i + k)
agree_from p q zero i k t h = absurd (not-suc-le-zero h)
agree_from p q (suc n) i zero t h = rw add-zero (beq_eq (p i) (q i) (left (beq (p i) (q i)) (agree p q (suc i) n) t))
agree_from p q (suc n) i (suc k) t h =
    rw (add-suc i k, ← suc-add i k) (agree_from p q n (suc i) k (right (beq (p i) (q i)) (agree p q (suc i) n) t) (le_of_suc-le-suc h))

-- where the tests were computed to agree below n, they agree at each k below n
pub agrees : (p q : ℕ → Bool) (n k : ℕ) → T (agree p q 0 n) → k < n → p k ≡ q k
agrees p q n k t h = rw zero-add at (agree_from p q n 0 k t h)
