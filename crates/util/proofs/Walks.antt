-- A walk whose every step moves on comes to the end.
use Prim.Native.Nat.{ℕ, zero, suc, ◌+◌, ◌≤◌, ◌<◌}
use mathlib.Core.Logic.{⊎_elim}
use native.Mathlib.Omega.{arith}
use Rattle.kind.proofs.Tests.{less_or_not}
use Rattle.util.specs.Walk.{after}

-- Each step before the end moves the place, and at the end the place stays: no more steps are needed than places are left.
module _ {A : Type 0} (place : A → ℕ) (step : A → A) (end : ℕ)
    (moves : (st : A) → place st < end → place st < place (step st))
    (rests : (st : A) → end ≤ place st → end ≤ place (step st)) where
  pub arrives : (n : ℕ) (st : A) → end ≤ place st + n → end ≤ place (after step n st)
  arrives zero st h = omega (arith, h)
  arrives (suc n) st h =
      arrives n (step st)
      (⊎_elim (λ k. omega (arith, h, moves st k)) (λ k. omega (arith, rests st k)) (less_or_not (place st) end))
