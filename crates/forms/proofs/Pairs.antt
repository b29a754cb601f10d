-- Pairs that were read, taken apart.
use Rattle.std.specs.Prelude.{Result, Ok, Option, Some}
use mathlib.Core.Path.{◌≡◌, ap}

module _ {A B : Type 0} {a c : A} {b d : B} where
  pub both_same : ◌≡◌ {A = A × B} (a, b) (c, d) → (a ≡ c) × (b ≡ d)
  both_same z = (ap (λ (p : A × B). p.0) z, ap (λ (p : A × B). p.1) z)

  pub ok_pair : {E : Type 0} → ◌≡◌ {A = Result (A × B) E} (Ok (a, b)) (Ok (c, d)) → (a ≡ c) × (b ≡ d)
  ok_pair h = let z : ◌≡◌ {A = A × B} (a, b) (c, d) = cc in both_same z

  pub some_pair : ◌≡◌ {A = Option (A × B)} (Some (a, b)) (Some (c, d)) → (a ≡ c) × (b ≡ d)
  some_pair h = let z : ◌≡◌ {A = A × B} (a, b) (c, d) = cc in both_same z
