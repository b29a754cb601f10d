-- The coordinates of a channel, SCPI-99 8.3.2: signed integers joined by `!`.
use Rattle.std.specs.Prelude.{ℕ, List, [], ◌∷◌, cond, eqb, ℤ, length, Result, Ok, Err, Option, Some, None}
use Rattle.error.specs.declared.ErrorCode.TheVariants.{ExpressionError, InvalidExpression}
use Rattle.kind.specs.Class.{is}
use Rattle.integer.specs.Number.{signed_at}
use Rattle.channel_spec.specs.Spec.{dimension_of}
use Rattle.channel_spec.specs.Item.{item_at}
use Rattle.channel_spec.specs.declared.Item.{Item}
use Rattle.channel_spec.specs.declared.Item.TheVariants as item
use Rattle.error.specs.declared.ErrorCode.{ErrorCode}
use Rattle.integer.specs.declared.NumberError.{NumberError}

-- a character put before the first of some texts
unfoldable pub onto : ℕ → List (List ℕ) → List (List ℕ)
onto b [] = (b ∷ []) ∷ []
onto b (p ∷ ps) = (b ∷ p) ∷ ps

-- the parts of a text that its `!` join
unfoldable pub parts : List ℕ → List (List ℕ)
parts [] = [] ∷ []
parts (b ∷ t) = cond (is "!" b) ([] ∷ parts t) (onto b (parts t))

-- the number at the front of a text of so many characters, where it is all of the text
unfoldable pub whole : ℕ → Result (ℤ × ℕ) NumberError → Option ℤ
whole n (Ok (v, end)) = cond (eqb end n) (Some v) None
whole n (Err NumberError.NoDigit) = None
whole n (Err NumberError.TooLarge) = None

-- IEEE 488.2 7.7.2.2: a text that is one signed integer of 64 bits
unfoldable pub integer : List ℕ → Option ℤ
integer t = whole (length t) (signed_at t 0)

-- a value before others, where there are both
unfoldable pub both : Option ℤ → Option (List ℤ) → Option (List ℤ)
both None vs = None
both (Some v) None = None
both (Some v) (Some vs) = Some (v ∷ vs)

-- the integers that some texts are, where each is one
unfoldable pub integers : List (List ℕ) → Option (List ℤ)
integers [] = Some []
integers (p ∷ ps) = both (integer p) (integers ps)

-- SCPI-99 8.3.2: the coordinates that a text is: signed integers joined by `!`, and none where it is anything else
unfoldable pub written : List ℕ → Option (List ℤ)
written t = integers (parts t)

-- two coordinates; anything else is -170
unfoldable pub pair_of : Option (List ℤ) → Result (ℤ × ℤ) ErrorCode
pair_of (Some (a ∷ b ∷ [])) = Ok (a, b)
pair_of (Some (a ∷ b ∷ c ∷ vs)) = Err ExpressionError
pair_of (Some (a ∷ [])) = Err ExpressionError
pair_of (Some []) = Err ExpressionError
pair_of None = Err ExpressionError

-- three coordinates; anything else is -170
unfoldable pub triple_of : Option (List ℤ) → Result (ℤ × ℤ × ℤ) ErrorCode
triple_of (Some (a ∷ b ∷ c ∷ [])) = Ok (a, b, c)
triple_of (Some (a ∷ b ∷ c ∷ d ∷ vs)) = Err ExpressionError
triple_of (Some (a ∷ b ∷ [])) = Err ExpressionError
triple_of (Some (a ∷ [])) = Err ExpressionError
triple_of (Some []) = Err ExpressionError
triple_of None = Err ExpressionError

-- the first item of a spec as its coordinate, -170 where there is none
unfoldable pub first_of : Item → Result ℤ ErrorCode
first_of (item.Value v) = Ok v
first_of item.End = Err ExpressionError
first_of (item.Refused e) = Err e

-- one coordinate: another dimension is -171, and else it is the first item; what stands behind that is not looked at
-- (docs/DIFFERENCES.md)
unfoldable pub coordinate_of : List ℕ → Result ℤ ErrorCode
coordinate_of t = cond (eqb (dimension_of t) 1) (first_of (item_at t 0).item) (Err InvalidExpression)
