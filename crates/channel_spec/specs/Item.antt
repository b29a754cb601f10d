-- The items of a channel spec, one after the other. The text is the spec's own part of the list.
use Rattle.std.specs.Prelude.{ℕ, ◌+◌, List, cond, leb, length, ℤ, Result, Ok, Err}
use Prim.Native.Char.{code}
use Rattle.error.specs.declared.ErrorCode.TheVariants.{ExpressionError}
use Rattle.util.specs.Run.{stands_at}
use Rattle.integer.specs.Number.{signed_at}
use Rattle.channel_spec.specs.declared.Item.TheVariants as item
use Rattle.channel_spec.specs.declared.Step.{Step}
use Rattle.integer.specs.declared.NumberError.{NumberError}

-- the place behind a `!`, where one stands at the place
unfoldable pub bang_end : List ℕ → ℕ → ℕ
bang_end s at = cond (stands_at (code "!") s at) (at + 1) at

-- a refusal is -170, and sets the place to the end of the text
unfoldable pub refusal : List ℕ → Step
refusal s = record { item = item.Refused ExpressionError; place = length s }

-- a number of 64 bits and the place behind it
unfoldable pub item_step : List ℕ → Result (ℤ × ℕ) NumberError → Step
item_step s (Ok (v, end)) = record { item = item.Value v; place = end }
item_step s (Err NumberError.NoDigit) = refusal s
item_step s (Err NumberError.TooLarge) = refusal s

-- an optional sign and digits, from a place on
unfoldable pub item_of : List ℕ → ℕ → Step
item_of s at = item_step s (signed_at s at)

-- the next item from a place on: End at or past the end of the text; else one `!` is passed, where it stands there, and an
-- integer read
unfoldable pub item_at : List ℕ → ℕ → Step
item_at s at = cond (leb (length s) at) (record { item = item.End; place = at }) (item_of s (bang_end s at))
