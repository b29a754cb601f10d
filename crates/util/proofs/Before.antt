-- What a loop keeps: that something holds of all that it has passed.
use Prim.Native.Nat.{ℕ, ◌+◌, ◌≤◌, ◌<◌}
use mathlib.Core.Path.{◌≡◌}
use mathlib.Core.Logic.{◌⊎◌, inl, inr}
use native.Mathlib.Omega.{arith}
use Rattle.kind.proofs.Tests.{less_or_not}

-- P holds from a place up to k
pub record Before (P : ℕ → Type 0) (from k : ℕ) : Type 0 where
  pub low : from ≤ k
  pub all : (j : ℕ) → from ≤ j → j < k → P j

pub none_yet : (P : ℕ → Type 0) (from : ℕ) → Before P from from
none_yet P from = record { low = omega arith; all = λ j h l. absurd (omega arith) }

pub one_more : (P : ℕ → Type 0) (from k : ℕ) → Before P from k → P k → (i : ℕ) → i ≡ k + 1 → Before P from i
one_more P from k inv p i e = record { low = omega (arith, inv.low); all = λ j h l. go j (less_or_not j k) h l }
  where
    go : (j : ℕ) → (j < k) ⊎ (k ≤ j) → from ≤ j → j < i → P j
    go j (inl x) h l = inv.all j h x
    go j (inr x) h l = let z : j ≡ k = omega arith in rw z p
