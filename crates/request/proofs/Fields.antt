-- Fields: two runs, which util passes over.
use Prim.Native.Nat.{ℕ}
use mathlib.Core.Path.{◌≡◌}
use mathlib.Core.List.{List}
use borrow.Author.Rules.{rules}
use Rattle.kind.specs.Class.{is_white_space}
use Rattle.util.specs.Run.{run_end}
use Rattle.request.specs.Field.{is_ink, field_at}

pub field' : (s : List ℕ) (at a b : ℕ) → a ≡ run_end is_white_space s at → b ≡ run_end is_ink s a → record { start = a; end = b } ≡ field_at s at
unfolding field_at
field' s at a b p q = rw (q, p)

pub ruleset laws = (rules, field')
