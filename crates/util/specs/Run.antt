-- Runs: how far a class of characters goes. The loops of the standard's diagrams are such runs.
use Rattle.std.specs.Prelude.{ℕ, suc, ◌+◌, List, [], ◌∷◌, Bool, true, cond, ◌&&◌, length, drop, get_or, eqb, ltb}
use Rattle.kind.specs.Class.{is_sign}

-- how many characters at the front of a text are of the class p
unfoldable pub run : (ℕ → Bool) → List ℕ → ℕ
run p [] = 0
run p (b ∷ s) = cond (p b) (suc (run p s)) 0

-- the place where a run of the class p that begins at a place ends; where there is none, as at the end of the text, that place itself
unfoldable pub run_end : (ℕ → Bool) → List ℕ → ℕ → ℕ
run_end p s at = at + run p (drop at s)

-- IEEE 488.2 7.7.2.2: the place behind an optional sign
unfoldable pub sign_end : List ℕ → ℕ → ℕ
sign_end s at = cond (is_sign (get_or s at 0)) (at + 1) at

-- the byte b stands at a place
unfoldable pub stands_at : ℕ → List ℕ → ℕ → Bool
stands_at b s at = ltb at (length s) && eqb (get_or s at 0) b

-- every character is of the class p
unfoldable pub every : (ℕ → Bool) → List ℕ → Bool
every p [] = true
every p (b ∷ s) = p b && every p s

-- the smaller of two numbers
unfoldable pub least : ℕ → ℕ → ℕ
least a b = cond (ltb a b) a b
