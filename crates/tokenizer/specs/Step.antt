-- The token step: what stands at a place of a program message, IEEE 488.2 7.3 to 7.7, and where the next step begins.
use Rattle.std.specs.Prelude.{ℕ, ◌+◌, List, Bool, true, false, cond, leb, length, get_or, Result, Ok, Err}
use Rattle.error.specs.declared.ErrorCode.{ErrorCode}
use Rattle.error.specs.declared.ErrorCode.TheVariants.{InvalidCharacter, SyntaxError, CommandHeaderError}
use Rattle.kind.specs.Class.{is_white_space}
use Rattle.kind.specs.Kind.{kind_of}
use Rattle.kind.specs.declared.Kind.{Kind}
use Rattle.kind.specs.declared.Kind.TheVariants as kind
use Rattle.util.specs.Run.{run_end}
use Rattle.token.specs.declared.Token.{Token}
use Rattle.token.specs.declared.Token.TheVariants.{HeaderMnemonicSeparator, HeaderQuerySuffix, ProgramMessageUnitSeparator, ProgramHeaderSeparator, ProgramDataSeparator}
use Rattle.item.specs.Word.{mnemonic, character_data}
use Rattle.decimal.specs.Decimal.{numeric_data}
use Rattle.enclosed.specs.String.{string_data}
use Rattle.enclosed.specs.Expression.{expression_data}
use Rattle.hash.specs.Block.{hash_data}
use Rattle.separator.specs.Separator.{newline_to, colon_to, question_to, comma_to}
use Rattle.tokenizer.specs.declared.State.{State}
use Rattle.tokenizer.specs.declared.Answer.TheVariants as answer
use Rattle.tokenizer.specs.declared.Step.{Step}

-- a place, whether it is in a header, and whether a star has been read in this message unit
abbrev pub state_of : ℕ → Bool → Bool → State
state_of place header common = record { place = place; in_header = header; in_common = common }

abbrev pub is_in_header : State → Bool
is_in_header st = st.in_header

abbrev pub is_in_common : State → Bool
is_in_common st = st.in_common

-- the front of a message, and the front of data alone
abbrev pub of_message : State
of_message = state_of 0 true false

abbrev pub of_data : State
of_data = state_of 0 false false

-- a token, the place behind it, and the flags from there on
unfoldable pub taken : Token → ℕ → Bool → Bool → Step
taken t next header common = record { answer = answer.Token t; state = state_of next header common }

-- a refusal sets the place to the end of the text, and leaves the flags as they were
unfoldable pub refusal : List ℕ → State → ErrorCode → Step
refusal s st e = record { answer = answer.Refused e; state = state_of (length s) (is_in_header st) (is_in_common st) }

-- the end leaves the flags as they were
unfoldable pub ended : State → ℕ → Step
ended st place = record { answer = answer.End; state = state_of place (is_in_header st) (is_in_common st) }

-- what was read at a place, with in-common as it is from there on; a refusal keeps the old one
unfoldable pub read_as : List ℕ → State → Bool → Result (Token × ℕ) ErrorCode → Step
read_as s st common (Ok (t, next)) = taken t next (is_in_header st) common
read_as s st common (Err e) = refusal s st e

-- an item of data, or a mnemonic without a star, leaves the flags as they were
abbrev pub form : List ℕ → State → Result (Token × ℕ) ErrorCode → Step
form s st r = read_as s st (is_in_common st) r

-- a separator as a token, with in-header as it is from there on; a refusal keeps the old one
unfoldable pub passed : List ℕ → State → Token → Bool → Result ℕ ErrorCode → Step
passed s st t header (Ok next) = taken t next header (is_in_common st)
passed s st t header (Err e) = refusal s st e

-- a newline as the end
unfoldable pub ended_by : List ℕ → State → Result ℕ ErrorCode → Step
ended_by s st (Ok next) = ended st next
ended_by s st (Err e) = refusal s st e

-- In the next four the place `next` is the one behind the byte, and `separator` says what may stand there.

-- IEEE 488.2 7.5: a newline ends the message
unfoldable pub newline_before : List ℕ → State → ℕ → Step
newline_before s st next = ended_by s st (newline_to s next)

-- IEEE 488.2 7.6.1: a colon in a header
unfoldable pub colon_before : List ℕ → State → ℕ → Step
colon_before s st next = passed s st HeaderMnemonicSeparator (is_in_header st) (colon_to s next (is_in_header st) (is_in_common st))

-- IEEE 488.2 7.6.2: a question mark ends a header
unfoldable pub question_before : List ℕ → State → ℕ → Step
question_before s st next = passed s st HeaderQuerySuffix false (question_to s next (is_in_header st))

-- IEEE 488.2 7.4.2: a comma between items of data
unfoldable pub comma_before : List ℕ → State → ℕ → Step
comma_before s st next = passed s st ProgramDataSeparator (is_in_header st) (comma_to s next (is_in_header st))

-- a letter begins a mnemonic in a header, and character data elsewhere
unfoldable pub word_at : List ℕ → State → ℕ → Step
word_at s st at = cond (is_in_header st) (form s st (mnemonic s at)) (form s st (character_data s at))

-- a number, a string, or what a `#` begins is refused in a header; an expression is not
unfoldable pub outside : List ℕ → State → Result (Token × ℕ) ErrorCode → Step
outside s st r = cond (is_in_header st) (refusal s st CommandHeaderError) (form s st r)

-- The step at a place, by the kind of the byte there. A semicolon begins a
-- message unit (IEEE 488.2 7.4.1), and white space ends a header (7.4.3).
unfoldable pub by_kind : List ℕ → State → ℕ → ℕ → Kind → Step
by_kind s st at b kind.Newline = newline_before s st (at + 1)
by_kind s st at b kind.Star = read_as s st true (mnemonic s at)
by_kind s st at b kind.Colon = colon_before s st (at + 1)
by_kind s st at b kind.Question = question_before s st (at + 1)
by_kind s st at b kind.Semicolon = taken ProgramMessageUnitSeparator (run_end is_white_space s (at + 1)) true false
by_kind s st at b kind.Comma = comma_before s st (at + 1)
by_kind s st at b kind.Blank = taken ProgramHeaderSeparator (run_end is_white_space s at) false (is_in_common st)
by_kind s st at b kind.Small = word_at s st at
by_kind s st at b kind.Capital = word_at s st at
by_kind s st at b kind.Parenthesis = form s st (expression_data s (at + 1))
by_kind s st at b kind.Other = refusal s st SyntaxError
by_kind s st at b kind.Underscore = refusal s st SyntaxError
by_kind s st at b kind.Beyond = refusal s st InvalidCharacter
by_kind s st at b kind.Hash = outside s st (hash_data s (at + 1))
by_kind s st at b kind.Quote = outside s st (string_data b s (at + 1))
by_kind s st at b kind.Digit = outside s st (numeric_data s at)
by_kind s st at b kind.Sign = outside s st (numeric_data s at)
by_kind s st at b kind.Point = outside s st (numeric_data s at)

-- the next step: End at or past the end of the text, and else by the first byte
unfoldable pub step : List ℕ → State → Step
step s st =
    cond (leb (length s) st.place) (ended st st.place)
    (by_kind s st st.place (get_or s st.place 0) (kind_of (get_or s st.place 0)))
