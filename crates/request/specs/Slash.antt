-- Where the names of a table begin.
use Rattle.std.specs.Prelude.{ℕ, List, Bool, not, eqb, take}
use Prim.Native.Char.{code}
use Rattle.util.specs.Run.{run_end}

-- any byte but b
abbrev pub is_other : ℕ → ℕ → Bool
is_other b c = not (eqb c b)

-- the place behind what is no `/`, from one place on and up to another
unfoldable pub slash_at : List ℕ → ℕ → ℕ → ℕ
slash_at line from to = run_end (is_other (code "/")) (take to line) from
