-- The separators of a program message, IEEE 488.2 7.4 to 7.6: what they let stand behind them. The place `next` is the one behind the
-- separator.
use Rattle.std.specs.Prelude.{ℕ, List, Bool, cond, not, ◌&&◌, ◌||◌, leb, ltb, length, get_or, Result, Ok, Err}
use Prim.Native.Char.{code}
use Rattle.error.specs.declared.ErrorCode.TheVariants.{SyntaxError, InvalidSeparator, HeaderSeparatorError}
use Rattle.kind.specs.Class.{is, is_white_space, is_letter}
use Rattle.util.specs.Run.{run_end, stands_at}
use Rattle.error.specs.declared.ErrorCode.{ErrorCode}

-- IEEE 488.2 7.5: a newline ends the message where it is its last byte
unfoldable pub newline_to : List ℕ → ℕ → Result ℕ ErrorCode
newline_to s next = cond (ltb next (length s)) (Err SyntaxError) (Ok next)

-- behind a colon stands a letter, or nothing at all
unfoldable pub follows_colon : List ℕ → ℕ → Bool
follows_colon s at = leb (length s) at || is_letter (get_or s at 0)

-- IEEE 488.2 7.6.1: a colon stands in a header, but for that of a common command
unfoldable pub colon_to : List ℕ → ℕ → Bool → Bool → Result ℕ ErrorCode
colon_to s next header common = cond (follows_colon s next && (header && not common)) (Ok next) (Err InvalidSeparator)

-- behind a question mark stands white space, `;`, or nothing at all
unfoldable pub follows_query : List ℕ → ℕ → Bool
follows_query s at = leb (length s) at || (is ";" (get_or s at 0) || is_white_space (get_or s at 0))

-- IEEE 488.2 7.6.2: a question mark ends a header
unfoldable pub question_to : List ℕ → ℕ → Bool → Result ℕ ErrorCode
question_to s next header = cond (follows_query s next && header) (Ok next) (Err SyntaxError)

-- behind the white space that follows a comma stands neither `,` nor `;`
unfoldable pub item_at : List ℕ → ℕ → Result ℕ ErrorCode
item_at s to = cond (stands_at (code ",") s to || stands_at (code ";") s to) (Err SyntaxError) (Ok to)

-- IEEE 488.2 7.4.2: a comma stands between items of data, and the white space behind it is passed
unfoldable pub comma_to : List ℕ → ℕ → Bool → Result ℕ ErrorCode
comma_to s next header = cond header (Err HeaderSeparatorError) (item_at s (run_end is_white_space s next))
