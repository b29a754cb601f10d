-- The claims.
use Rattle.std.specs.Prelude.{Option, Some, None}
use Prim.Native.Nat.{ℕ, ◌≤◌, ◌<◌}
use mathlib.Core.Path.{◌≡◌, refl}
use mathlib.Core.Logic.{◌⊎◌, inl, inr}
use mathlib.Core.List.{List}
use native.Mathlib.Omega.{arith}
use Rattle.kind.proofs.Tests.{less_or_not}
use Rattle.spoken.specs.Spoken.{Spells, first_spelled, none_spelled}
use Rattle.routes.specs.SpokenClaims.{Claims}

not_both : {A : Type 0} {x : Option ℕ} {n : ℕ} → x ≡ Some n → x ≡ None → A
not_both e f = let z : ◌≡◌ {A = ℕ} 0 1 = cc in absurd (omega arith)

module _ (t names s : List ℕ) (from to at : ℕ) where
  one_spelled : (x y : Option (ℕ × ℕ)) → Spells t names s from to at x → Spells t names s from to at y → x ≡ y
  one_spelled (Some (k, n)) (Some (j, m)) (first_spelled low high e f) (first_spelled below above g h) = go (less_or_not k j) (less_or_not j k)
    where
      go : (k < j) ⊎ (j ≤ k) → (j < k) ⊎ (k ≤ j) → ◌≡◌ {A = Option (ℕ × ℕ)} (Some (k, n)) (Some (j, m))
      go (inl l) z = not_both e (h k low l)
      go (inr l) (inl z) = not_both g (f j below z)
      go (inr l) (inr z) = let same : k ≡ j = omega arith in let next : n ≡ m = cc in rw (same, next)
  one_spelled (Some (k, n)) None (first_spelled low high e f) (none_spelled g) = not_both e (g k low high)
  one_spelled None (Some (k, n)) (none_spelled g) (first_spelled low high e f) = not_both e (g k low high)
  one_spelled None None x y = refl

pub claims : Claims
claims = record { one_spelled = one_spelled }
