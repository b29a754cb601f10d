-- The coordinates of a channel spec as C is given them: as many words as coordinates are asked for. A refusal leaves the words as they are.
use Rattle.std.specs.Prelude.{ℕ, List, [], ◌∷◌, ℤ, pos, Result, Ok, Err}
use Rattle.error.specs.Code.{code_of}
use Rattle.error.specs.declared.ErrorCode.TheVariants.{NoSlotLeft}
use Rattle.coordinate.specs.Coordinate.{coordinate_of, written, pair_of, triple_of}
use Rattle.unsigned_coordinate.specs.Unsigned.{unsigned_of, unsigned_pair_of, unsigned_triple_of}
use Rattle.words.specs.Outcome.{Outcome}
use Rattle.error.specs.declared.ErrorCode.{ErrorCode}

-- one, two and three coordinates
unfoldable pub one_in : List ℤ → Result ℤ ErrorCode → Outcome ℤ
one_in words (Ok a) = record { code = pos 0; words = a ∷ [] }
one_in words (Err e) = record { code = code_of e; words = words }

unfoldable pub two_in : List ℤ → Result (ℤ × ℤ) ErrorCode → Outcome ℤ
two_in words (Ok (a, b)) = record { code = pos 0; words = a ∷ b ∷ [] }
two_in words (Err e) = record { code = code_of e; words = words }

unfoldable pub three_in : List ℤ → Result (ℤ × ℤ × ℤ) ErrorCode → Outcome ℤ
three_in words (Ok (a, b, c)) = record { code = pos 0; words = a ∷ b ∷ c ∷ [] }
three_in words (Err e) = record { code = code_of e; words = words }

-- the coordinates that a text is, as many as there are words; another number of words is 8
unfoldable pub coordinates_in : List ℕ → List ℤ → Outcome ℤ
coordinates_in s (x ∷ []) = one_in (x ∷ []) (coordinate_of s)
coordinates_in s (x ∷ y ∷ []) = two_in (x ∷ y ∷ []) (pair_of (written s))
coordinates_in s (x ∷ y ∷ z ∷ []) = three_in (x ∷ y ∷ z ∷ []) (triple_of (written s))
coordinates_in s [] = record { code = code_of NoSlotLeft; words = [] }
coordinates_in s (x ∷ y ∷ z ∷ w ∷ words) = record { code = code_of NoSlotLeft; words = x ∷ y ∷ z ∷ w ∷ words }

-- the same without a sign
unfoldable pub unsigned_one_in : List ℕ → Result ℕ ErrorCode → Outcome ℕ
unsigned_one_in words (Ok a) = record { code = pos 0; words = a ∷ [] }
unsigned_one_in words (Err e) = record { code = code_of e; words = words }

unfoldable pub unsigned_two_in : List ℕ → Result (ℕ × ℕ) ErrorCode → Outcome ℕ
unsigned_two_in words (Ok (a, b)) = record { code = pos 0; words = a ∷ b ∷ [] }
unsigned_two_in words (Err e) = record { code = code_of e; words = words }

unfoldable pub unsigned_three_in : List ℕ → Result (ℕ × ℕ × ℕ) ErrorCode → Outcome ℕ
unsigned_three_in words (Ok (a, b, c)) = record { code = pos 0; words = a ∷ b ∷ c ∷ [] }
unsigned_three_in words (Err e) = record { code = code_of e; words = words }

unfoldable pub unsigned_in : List ℕ → List ℕ → Outcome ℕ
unsigned_in s (x ∷ []) = unsigned_one_in (x ∷ []) (unsigned_of (coordinate_of s))
unsigned_in s (x ∷ y ∷ []) = unsigned_two_in (x ∷ y ∷ []) (unsigned_pair_of (pair_of (written s)))
unsigned_in s (x ∷ y ∷ z ∷ []) = unsigned_three_in (x ∷ y ∷ z ∷ []) (unsigned_triple_of (triple_of (written s)))
unsigned_in s [] = record { code = code_of NoSlotLeft; words = [] }
unsigned_in s (x ∷ y ∷ z ∷ w ∷ words) = record { code = code_of NoSlotLeft; words = x ∷ y ∷ z ∷ w ∷ words }
