-- What the functions look for, each in its part of a name. No promise of a public function rests on these.
use Rattle.std.specs.Prelude.{ℕ, List, Bool, not, ◌&&◌, eqb, ltb, length}
use Prim.Native.Char.{code}
use Rattle.kind.specs.Class.{is_capital, is_small, is_digit}
use Rattle.util.specs.Run.{run_end, stands_at}

-- behind the letters stand digits that do not start with 0, or none, up to the end of the text
unfoldable pub ends_from : List ℕ → ℕ → Bool
ends_from s letters = not (stands_at (code "0") s letters) && eqb (run_end is_digit s letters) (length s)

-- capitals, one at least, small letters and digits that do not start with 0 are all that stands from a place on
unfoldable pub names_from : List ℕ → ℕ → Bool
names_from s at = ltb at (run_end is_capital s at) && ends_from s (run_end is_small s (run_end is_capital s at))
