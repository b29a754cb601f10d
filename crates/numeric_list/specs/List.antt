-- Numeric lists, SCPI-99 8.3.3: what stands at a place of one, and where the next step begins.
use Rattle.std.specs.Prelude.{ℕ, ◌+◌, List, Bool, true, false, cond, ◌&&◌, ◌||◌, leb, length, get_or, Result, Ok, Err, Option, Some, None}
use Prim.Native.Char.{code}
use Rattle.error.specs.declared.ErrorCode.TheVariants.{InvalidExpression}
use Rattle.kind.specs.Class.{is, is_digit}
use Rattle.util.specs.Run.{stands_at}
use Rattle.token.specs.View.{view_of}
use Rattle.token.specs.declared.View.{View}
use Rattle.decimal.specs.Decimal.{nrf}
use Rattle.numeric_list.specs.declared.State.{State}
use Rattle.numeric_list.specs.declared.Token.{Token}
use Rattle.numeric_list.specs.declared.Token.TheVariants.{Numeric, NumericRange}
use Rattle.numeric_list.specs.declared.Answer.TheVariants as answer
use Rattle.numeric_list.specs.declared.Step.{Step}
use Rattle.error.specs.declared.ErrorCode.{ErrorCode}
use Rattle.token.specs.declared.Token.{Token as DataToken}

-- a place, and whether no item has been read yet
abbrev pub state_of : ℕ → Bool → State
state_of place first = record { place = place; first = first }

-- the front of a list
abbrev pub of_list : State
of_list = state_of 0 true

-- an item, and the place behind it
unfoldable pub taken : Token → ℕ → Step
taken t next = record { answer = answer.Token t; state = state_of next false }

-- a refusal is -171, sets the place to the end of the text, and leaves `first` as it was
unfoldable pub refusal : List ℕ → State → Step
refusal s st = record { answer = answer.Refused InvalidExpression; state = state_of (length s) st.first }

-- the end of a range that begins with a view: a number (IEEE 488.2 7.7.2.2) from the place behind the colon up to its end
unfoldable pub range_by : List ℕ → State → ℕ → View → Result (DataToken × ℕ) ErrorCode → Step
range_by s st at begin (Ok (t, end)) = taken (NumericRange begin (view_of at end)) end
range_by s st at begin (Err e) = refusal s st

unfoldable pub range_to : List ℕ → State → ℕ → View → Step
range_to s st at begin = range_by s st at begin (nrf s at)

-- SCPI-99 8.3.3: a number from a place up to its end, and a range where a colon follows it
unfoldable pub item_step : List ℕ → State → ℕ → Result (DataToken × ℕ) ErrorCode → Step
item_step s st at (Ok (t, end)) = cond (stands_at (code ":") s end) (range_to s st (end + 1) (view_of at end)) (taken (Numeric (view_of at end)) end)
item_step s st at (Err e) = refusal s st

unfoldable pub item_at : List ℕ → State → ℕ → Step
item_at s st at = item_step s st at (nrf s at)

-- what an item begins with where no comma stands before it: a digit or a minus, and for the first of the list a plus; a point
-- is refused there (docs/DIFFERENCES.md)
unfoldable pub begins : ℕ → Bool → Bool
begins b first = is_digit b || (is "-" b || (is "+" b && first))

-- a comma before a place: it may not be the first of the list, and a number stands behind it, whatever that begins with
unfoldable pub comma_before : List ℕ → State → ℕ → Step
comma_before s st at = cond st.first (refusal s st) (item_at s st at)

-- the next step: End at or past the end of the text; an item behind a comma, or one without; the standard has a comma between all
-- items (docs/DIFFERENCES.md)
unfoldable pub step : List ℕ → State → Step
step s st =
    cond (leb (length s) st.place) (record { answer = answer.End; state = st })
    (cond (is "," (get_or s st.place 0)) (comma_before s st (st.place + 1))
    (cond (begins (get_or s st.place 0) st.first) (item_at s st st.place)
    (refusal s st)))

-- the step, by where its item begins
unfoldable pub step_at : List ℕ → State → Option ℕ → Step
step_at s st (Some at) = item_at s st at
step_at s st None = refusal s st
