-- Nondecimal numeric program data, IEEE 488.2 7.7.4.
use Rattle.std.specs.Prelude.{ℕ, List, cond, leb, length, Result, Ok, Err}
use Rattle.error.specs.declared.ErrorCode.TheVariants.{NumericDataError, InvalidCharacterInNumber, SuffixNotAllowed, DataOutOfRange}
use Rattle.integer.specs.Number.{unsigned_at}
use Rattle.integer.specs.declared.Radix.{Radix}
use Rattle.token.specs.declared.Token.TheVariants.{NonDecimalNumericProgramData}
use Rattle.item.specs.Follow.{refused, followed}
use Rattle.error.specs.declared.ErrorCode.{ErrorCode}
use Rattle.integer.specs.declared.NumberError.{NumberError}
use Rattle.token.specs.declared.Token.{Token}

-- by what was found at a place; where there is no digit, the end of the text has another number than a byte that is none
unfoldable pub nondecimal_of : List ℕ → ℕ → Result (ℕ × ℕ) NumberError → Result (Token × ℕ) ErrorCode
nondecimal_of s at (Ok (v, end)) = followed (NonDecimalNumericProgramData v) SuffixNotAllowed s end
nondecimal_of s at (Err NumberError.TooLarge) = refused DataOutOfRange
nondecimal_of s at (Err NumberError.NoDigit) = cond (leb (length s) at) (refused NumericDataError) (refused InvalidCharacterInNumber)

-- IEEE 488.2 7.7.4.2: the digits of a radix, from the place behind its letter
unfoldable pub nondecimal_data : Radix → List ℕ → ℕ → Result (Token × ℕ) ErrorCode
nondecimal_data radix s at = nondecimal_of s at (unsigned_at radix s at)
