-- Arbitrary block program data, IEEE 488.2 7.7.6, and what else a `#` begins.
use Rattle.std.specs.Prelude.{ℕ, ◌+◌, ◌-◌, List, cond, ◌&&◌, ◌||◌, leb, ltb, length, get_or, take, drop, Result}
use Prim.Native.Char.{code}
use Rattle.error.specs.declared.ErrorCode.TheVariants.{NumericDataError, SuffixNotAllowed, BlockDataError, InvalidBlockData}
use Rattle.kind.specs.Class.{is, is_digit}
use Rattle.util.specs.Run.{every}
use Rattle.integer.specs.Digit.{value_of}
use Rattle.integer.specs.declared.Radix.TheVariants.{Binary, Octal, Hexadecimal}
use Rattle.token.specs.View.{view_of}
use Rattle.token.specs.declared.Token.TheVariants.{ArbitraryBlockData}
use Rattle.item.specs.Follow.{token, refused, followed}
use Rattle.hash.specs.Nondecimal.{nondecimal_data}
use Rattle.error.specs.declared.ErrorCode.{ErrorCode}
use Rattle.token.specs.declared.Token.{Token}

-- n bytes from a place on, which must all be there
unfoldable pub payload : List ℕ → ℕ → ℕ → Result (Token × ℕ) ErrorCode
payload s start n =
    cond (leb (start + n) (length s))
    (followed (ArbitraryBlockData (view_of start (start + n))) SuffixNotAllowed s (start + n))
    (refused InvalidBlockData)

-- IEEE 488.2 7.7.6.2, definite length: n digits that say how many bytes, and the bytes
unfoldable pub definite : List ℕ → ℕ → ℕ → Result (Token × ℕ) ErrorCode
definite s at n =
    cond (leb (at + n) (length s) && every is_digit (take n (drop at s)))
    (payload s (at + n) (value_of 10 (take n (drop at s))))
    (refused InvalidBlockData)

-- IEEE 488.2 7.7.6.2, indefinite length: the rest of the text but its last byte, which is a newline
unfoldable pub indefinite : List ℕ → ℕ → Result (Token × ℕ) ErrorCode
indefinite s at =
    cond (ltb at (length s) && is "\n" (get_or s (length s - 1) 0))
    (token (ArbitraryBlockData (view_of at (length s - 1))) (length s))
    (refused InvalidBlockData)

-- IEEE 488.2 7.7.6.2: a block, from the place behind the digit b that says its format; any other byte is refused
unfoldable pub arbitrary_data : ℕ → List ℕ → ℕ → Result (Token × ℕ) ErrorCode
arbitrary_data b s at =
    cond (is_digit b)
    (cond (is "0" b) (indefinite s at) (definite s at (b - code "0")))
    (refused InvalidBlockData)

-- by the byte behind the `#`: a digit, or the letter of a radix in either case
unfoldable pub hash_by : ℕ → List ℕ → ℕ → Result (Token × ℕ) ErrorCode
hash_by b s at =
    cond (is_digit b) (arbitrary_data b s at)
    (cond (is "H" b || is "h" b) (nondecimal_data Hexadecimal s at)
    (cond (is "Q" b || is "q" b) (nondecimal_data Octal s at)
    (cond (is "B" b || is "b" b) (nondecimal_data Binary s at)
    (refused NumericDataError))))

-- IEEE 488.2 7.7.4, 7.7.6: what a `#` begins, from the place behind it
unfoldable pub hash_data : List ℕ → ℕ → Result (Token × ℕ) ErrorCode
hash_data s at = cond (leb (length s) at) (refused BlockDataError) (hash_by (get_or s at 0) s (at + 1))
