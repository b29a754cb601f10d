-- What the steps on the way to the coordinates answer. No public promise cites these.
use Rattle.std.specs.Prelude.{ℕ, ◌+◌, List, [], ◌∷◌, cond, eqb, ℤ, Result, Ok, Err, Some, None, Option}
use Prim.Native.Char.{code}
use Rattle.error.specs.declared.ErrorCode.TheVariants.{ExpressionError, InvalidExpression}
use Rattle.util.specs.Run.{stands_at}
use Rattle.integer.specs.Number.{signed_at}
use Rattle.channel_spec.specs.Spec.{dimension_of}
use Rattle.error.specs.declared.ErrorCode.{ErrorCode}
use Rattle.integer.specs.declared.NumberError.{NumberError}

-- the refusal of a spec that begins with no integer
unfoldable pub no_coordinate : List ℕ → Result ℤ ErrorCode
no_coordinate t = cond (eqb (dimension_of t) 1) (Err ExpressionError) (Err InvalidExpression)

-- the integer that begins at a place, where a `!` follows it, and the place behind that
unfoldable pub joined_by : List ℕ → Result (ℤ × ℕ) NumberError → Option (ℤ × ℕ)
joined_by s (Ok (v, end)) = cond (stands_at (code "!") s end) (Some (v, end + 1)) None
joined_by s (Err NumberError.NoDigit) = None
joined_by s (Err NumberError.TooLarge) = None

unfoldable pub joined_at : List ℕ → ℕ → Option (ℤ × ℕ)
joined_at s at = joined_by s (signed_at s at)

-- one coordinate and no more
unfoldable pub last_of : Option (List ℤ) → Option ℤ
last_of (Some (a ∷ [])) = Some a
last_of (Some (a ∷ b ∷ vs)) = None
last_of (Some []) = None
last_of None = None
