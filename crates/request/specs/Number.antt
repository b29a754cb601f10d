-- Numbers in decimal.
use Rattle.std.specs.Prelude.{ℕ, ◌^◌, List, Bool, cond, ◌&&◌, leb, ltb, length, Option, Some, None}
use Rattle.std.proofs.Math.Seq.{slice}
use Rattle.kind.specs.Class.{is_digit}
use Rattle.util.specs.Run.{every}
use Rattle.integer.specs.Digit.{value_of}

-- digits and nothing else, one at least, that are worth less than 2^64
unfoldable pub is_number : List ℕ → Bool
is_number t = ltb 0 (length t) && (every is_digit t && ltb (value_of 10 t) (2 ^ 64))

-- the number that a text is
unfoldable pub number_of : List ℕ → Option ℕ
number_of t = cond (is_number t) (Some (value_of 10 t)) None

-- the number that the line is from one place up to another
unfoldable pub number_in : List ℕ → ℕ → ℕ → Option ℕ
number_in line from to = cond (leb from to && leb to (length line)) (number_of (slice from to line)) None
