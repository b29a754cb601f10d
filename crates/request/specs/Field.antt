-- The fields of a line: what stands between its white space.
use Rattle.std.specs.Prelude.{ℕ, List, Bool, not}
use Rattle.kind.specs.Class.{is_white_space}
use Rattle.util.specs.Run.{run_end}
use Rattle.request.specs.declared.Part.{Part}

-- no white space
abbrev pub is_ink : ℕ → Bool
is_ink b = not (is_white_space b)

-- the first run of what is no white space, from a place on; it is empty where there is none
unfoldable pub field_at : List ℕ → ℕ → Part
field_at s at = record { start = run_end is_white_space s at; end = run_end is_ink s (run_end is_white_space s at) }
