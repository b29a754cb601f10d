-- Questions of yes or no.
use Rattle.std.specs.Prelude.{Bool, true, false}

-- the answer to whether P holds
pub data Decides (P : Type 0) : Bool → Type 0 where
  holds : P → Decides P true
  fails : (P → ⊥) → Decides P false
