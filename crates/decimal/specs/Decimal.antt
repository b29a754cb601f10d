-- Decimal numeric program data, IEEE 488.2 7.7.2, and the suffix, 7.7.3.
use Rattle.std.specs.Prelude.{ℕ, ◌+◌, ◌-◌, List, Bool, cond, ◌&&◌, ◌||◌, leb, ltb, length, get_or, Result, Option, Some, None}
use Prim.Native.Char.{code}
use Rattle.error.specs.declared.ErrorCode.TheVariants.{NumericDataError, InvalidSuffix, SuffixTooLong}
use Rattle.kind.specs.Class.{is, is_letter, is_digit, is_white_space}
use Rattle.util.specs.Run.{run_end, sign_end, stands_at}
use Rattle.token.specs.View.{view_of}
use Rattle.token.specs.declared.View.{View}
use Rattle.token.specs.declared.Token.TheVariants.{DecimalNumericProgramData, DecimalNumericSuffixProgramData}
use Rattle.item.specs.Follow.{token, refused, followed}
use Rattle.error.specs.declared.ErrorCode.{ErrorCode}
use Rattle.token.specs.declared.Token.{Token}

-- the place behind an optional sign and digits
unfoldable pub whole_end : List ℕ → ℕ → ℕ
whole_end s at = run_end is_digit s (sign_end s at)

-- there is a digit behind the optional sign
unfoldable pub has_whole : List ℕ → ℕ → Bool
has_whole s at = ltb (sign_end s at) (whole_end s at)

-- the place behind an optional point and digits
unfoldable pub fraction_end : List ℕ → ℕ → ℕ
fraction_end s at = cond (stands_at (code ".") s at) (run_end is_digit s (at + 1)) at

-- there is a digit behind the point
unfoldable pub has_fraction : List ℕ → ℕ → Bool
has_fraction s at = ltb 1 (fraction_end s at - at)

-- IEEE 488.2 7.7.2.2, mantissa: a sign, digits, a point and digits, all optional, but one digit at least
unfoldable pub mantissa : List ℕ → ℕ → Option ℕ
mantissa s at = cond (has_whole s at || has_fraction s (whole_end s at)) (Some (fraction_end s (whole_end s at))) None

-- an E of either case
unfoldable pub begins_exponent : ℕ → Bool
begins_exponent b = is "E" b || is "e" b

-- IEEE 488.2 7.7.2.2, exponent: none, or E, an optional sign and digits, one at least; the standard allows white space around the
-- E (docs/DIFFERENCES.md)
unfoldable pub exponent : List ℕ → ℕ → Option ℕ
exponent s at = cond (begins_exponent (get_or s at 0)) (cond (has_whole s (at + 1)) (Some (whole_end s (at + 1))) None) (Some at)

-- the place behind a mantissa, moved behind its exponent
unfoldable pub with_exponent : List ℕ → Option ℕ → Option ℕ
with_exponent s None = None
with_exponent s (Some end) = exponent s end

-- IEEE 488.2 7.7.2.2: the place behind a mantissa and its exponent
unfoldable pub number : List ℕ → ℕ → Option ℕ
number s at = with_exponent s (mantissa s at)

-- the number from a place up to its end, as a token
unfoldable pub number_to : ℕ → Option ℕ → Result (Token × ℕ) ErrorCode
number_to at None = refused NumericDataError
number_to at (Some end) = token (DecimalNumericProgramData (view_of at end)) end

-- a number, whatever follows it
unfoldable pub nrf : List ℕ → ℕ → Result (Token × ℕ) ErrorCode
nrf s at = number_to at (number s at)

-- IEEE 488.2 7.7.3.2: letters, digits, `-`, `/` and `.`, in any order (docs/DIFFERENCES.md)
unfoldable pub in_suffix : ℕ → Bool
in_suffix b = is_letter b || (is_digit b || (is "-" b || (is "/" b || is "." b)))

-- a letter or `/` begins a suffix
unfoldable pub begins_suffix : List ℕ → ℕ → Bool
begins_suffix s at = ltb at (length s) && (is "/" (get_or s at 0) || is_letter (get_or s at 0))

-- IEEE 488.2 7.7.3: a number, white space, and a suffix that begins at a place, of 12 characters at most
unfoldable pub suffixed : List ℕ → View → ℕ → Result (Token × ℕ) ErrorCode
suffixed s v at =
    cond (leb (run_end in_suffix s at - at) 12)
    (followed (DecimalNumericSuffixProgramData v (view_of at (run_end in_suffix s at))) InvalidSuffix s (run_end in_suffix s at))
    (refused SuffixTooLong)

-- a number with the suffix that white space may stand before, or without one
unfoldable pub suffix_data : List ℕ → View → Result (Token × ℕ) ErrorCode
suffix_data s v =
    cond (begins_suffix s (run_end is_white_space s v.end))
    (suffixed s v (run_end is_white_space s v.end))
    (followed (DecimalNumericProgramData v) InvalidSuffix s v.end)

-- the number from a place up to its end, with what follows it
unfoldable pub numeric_to : List ℕ → ℕ → Option ℕ → Result (Token × ℕ) ErrorCode
numeric_to s at None = refused NumericDataError
numeric_to s at (Some end) = suffix_data s (view_of at end)

-- IEEE 488.2 7.7.2, 7.7.3: a number with an optional suffix
unfoldable pub numeric_data : List ℕ → ℕ → Result (Token × ℕ) ErrorCode
numeric_data s at = numeric_to s at (number s at)
