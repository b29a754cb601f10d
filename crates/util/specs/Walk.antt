-- A walk: one step after the other, each from where the one before it ended.
use Rattle.std.specs.Prelude.{ℕ, zero, suc}

-- where a walk stands after so many steps
abbrev pub after : {A : Type 0} → (A → A) → ℕ → A → A
after step zero st = st
after step (suc n) st = after step n (step st)
