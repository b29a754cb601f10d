-- The first 13 characters from a place on: enough to tell a word of 12 from a longer one.
use Rattle.std.specs.Prelude.{ℕ, ◌+◌, ◌-◌, List, Bool, cond, ltb, length, take, drop}
use Rattle.util.specs.Run.{run}

-- how far the class p goes among the next n characters
unfoldable pub run_end_among : ℕ → (ℕ → Bool) → List ℕ → ℕ → ℕ
run_end_among n p s at = at + run p (take n (drop at s))

-- the place 13 characters on, or the end of the text where that comes first
unfoldable pub near_end : List ℕ → ℕ → ℕ
near_end s at = cond (ltb (length s - at) 13) (length s) (at + 13)
