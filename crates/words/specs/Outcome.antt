-- What a call from C leaves: the number that it returns, and the words that it was lent.
use Rattle.std.specs.Prelude.{ℕ, List, ℤ}

pub record Outcome (A : Type 0) : Type 0 where
  pub code : ℤ
  pub words : List A
