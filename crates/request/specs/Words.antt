-- The words of a table: numbers in decimal, joined by commas.
use Rattle.std.specs.Prelude.{ℕ, List, [], ◌∷◌, ◌++◌, Bool, true, cond, ◌&&◌, leb, length, take, drop, Option, Some, None}
use Rattle.std.proofs.Math.Seq.{slice}
use Rattle.kind.specs.Class.{is}
use Rattle.integer.specs.Digit.{value_of}
use Rattle.request.specs.Hex.{is_dash}
use Rattle.request.specs.Number.{is_number}

-- a character in front of the first of some pieces
unfoldable pub on_first : ℕ → List (List ℕ) → List (List ℕ)
on_first b [] = (b ∷ []) ∷ []
on_first b (p ∷ ps) = (b ∷ p) ∷ ps

-- what stands between the commas of a text; with no comma it is the text
unfoldable pub pieces : List ℕ → List (List ℕ)
pieces [] = [] ∷ []
pieces (b ∷ t) = cond (is "," b) ([] ∷ pieces t) (on_first b (pieces t))

-- `-` has no piece
unfoldable pub pieces_of : List ℕ → List (List ℕ)
pieces_of t = cond (is_dash t) [] (pieces t)

-- every piece is a number
unfoldable pub are_numbers : List (List ℕ) → Bool
are_numbers [] = true
are_numbers (p ∷ ps) = is_number p && are_numbers ps

-- the numbers in front of the first piece that is none
unfoldable pub numbers_of : List (List ℕ) → List ℕ
numbers_of [] = []
numbers_of (p ∷ ps) = cond (is_number p) (value_of 10 p ∷ numbers_of ps) []

-- what is answered, and what the buffer then holds
pub record Outcome : Type 0 where
  pub says : Option ℕ
  pub slots : List ℕ

-- words take the place of as many at the front of a buffer, as far as it goes
abbrev pub over : List ℕ → List ℕ → List ℕ
over out ws = take (length out) ws ++ drop (length ws) out

-- the answer is the count of the pieces, where each is a number; the numbers in front of the first that is none are written
unfoldable pub written : List ℕ → List (List ℕ) → Outcome
written out ps = record { says = cond (are_numbers ps) (Some (length ps)) None; slots = over out (numbers_of ps) }

-- what the line says from one place up to another, written to the front of a buffer; outside the line there is nothing
unfoldable pub words_in : List ℕ → ℕ → ℕ → List ℕ → Outcome
words_in line from to out = cond (leb from to && leb to (length line)) (written out (pieces_of (slice from to line))) (record { says = None; slots = out })
