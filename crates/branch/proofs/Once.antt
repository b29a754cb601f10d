-- One pick only.
use Rattle.std.specs.Prelude.{Option, Some, None}
use Prim.Native.Nat.{ℕ, ◌<◌}
use mathlib.Core.Path.{◌≡◌, refl, ap}
use mathlib.Core.Logic.{⊎_elim}
use mathlib.Core.List.{List}
use mathlib.Core.Bool.{Bool}
use native.Mathlib.Omega.{arith}
use Rattle.kind.proofs.Tests.{clash, less_or_not}
use Rattle.branch.specs.Children.{Picks, first_one, not_one, PicksIn, first_in, none_in}

same : (k j : ℕ) → (k < j → ⊥) → (j < k → ⊥) → k ≡ j
same k j f g = ⊎_elim (λ l. absurd (f l)) (λ l. ⊎_elim (λ m. absurd (g m)) (λ m. omega arith) (less_or_not j k)) (less_or_not k j)

module _ {t : List ℕ} {b : ℕ} {q : ℕ → Bool} where
  pub one_child : {k j : ℕ} → Picks t b q (Some k) → Picks t b q (Some j) → k ≡ j
  one_child {k} {j} (first_one x e f) (first_one y g h) = same k j (λ l. clash e (h k x l)) (λ l. clash g (f j y l))

  pub no_child : {A : Type 0} {k : ℕ} → Picks t b q (Some k) → Picks t b q None → A
  no_child {k = k} (first_one x e f) (not_one g) = clash e (g k x)

  pub one_pick : (x y : Option ℕ) → Picks t b q x → Picks t b q y → x ≡ y
  one_pick (Some k) (Some j) x y = ap Some (one_child x y)
  one_pick (Some k) None x y = no_child x y
  one_pick None (Some j) x y = no_child y x
  one_pick None None x y = refl

module _ {p : ℕ → Bool} {from to : ℕ} where
  pub one_pick_in : (x y : Option ℕ) → PicksIn p from to x → PicksIn p from to y → x ≡ y
  one_pick_in (Some k) (Some j) (first_in l u e f) (first_in m v g h) =
      ap Some (same k j (λ z. clash e (h k l z)) (λ z. clash g (f j m z)))
  one_pick_in (Some k) None (first_in l u e f) (none_in g) = clash e (g k l u)
  one_pick_in None (Some k) (none_in g) (first_in l u e f) = clash e (g k l u)
  one_pick_in None None x y = refl
