-- Channel lists, SCPI-99 8.3.2: what stands at a place of one, and where the next step begins.
use Rattle.std.specs.Prelude.{ℕ, ◌+◌, ◌<◌, List, Bool, true, false, cond, not, ◌&&◌, ◌||◌, eqb, leb, length, get_or, Result, Ok, Err, Option, Some, None}
use Prim.Native.Char.{code}
use Rattle.error.specs.declared.ErrorCode.{ErrorCode}
use Rattle.error.specs.declared.ErrorCode.TheVariants.{InvalidExpression}
use Rattle.kind.specs.Class.{is, is_digit, is_sign, is_quote}
use Rattle.util.specs.Run.{stands_at}
use Rattle.token.specs.Token.{view_in}
use Rattle.enclosed.specs.String.{string_data}
use Rattle.channel_spec.specs.Spec.{spec_at, is_empty}
use Rattle.channel_spec.specs.declared.ChannelSpec.{ChannelSpec}
use Rattle.channel_list.specs.declared.State.{State}
use Rattle.channel_list.specs.declared.Token.{Token}
use Rattle.channel_list.specs.declared.Token.TheVariants as item
use Rattle.channel_list.specs.declared.Answer.TheVariants as answer
use Rattle.channel_list.specs.declared.Step.{Step}
use Rattle.channel_list.specs.declared.Front.{Front}
use Rattle.channel_list.specs.declared.Front.TheVariants as front
use Rattle.token.specs.declared.Token.{Token as DataToken}

-- a place, and whether no item has been read yet
abbrev pub state_of : ℕ → Bool → State
state_of place first = record { place = place; first = first }

-- SCPI-99 8.3.2: a channel list begins with `@`; any other text is not one
unfoldable pub opened : List ℕ → Option State
opened s = cond (stands_at (code "@") s 0) (Some (state_of 1 true)) None

-- an item, and the place behind it
unfoldable pub taken : Token → ℕ → Step
taken t next = record { answer = answer.Token t; state = state_of next false }

-- a refusal sets the place to the end of the text, and leaves `first` as it was
unfoldable pub refusal : List ℕ → State → ErrorCode → Step
refusal s st e = record { answer = answer.Refused e; state = state_of (length s) st.first }

-- the end leaves `first` as it was
unfoldable pub ended : State → ℕ → Step
ended st place = record { answer = answer.End; state = state_of place st.first }

-- a digit or a sign begins a spec
unfoldable pub begins_spec : ℕ → Bool
begins_spec b = is_digit b || is_sign b

-- SCPI-99 8.3.2: a range from one spec to another, which is not empty and of the same dimension
unfoldable pub range_of : List ℕ → State → ChannelSpec → ChannelSpec → Step
range_of s st begin end =
    cond (not (is_empty end) && eqb begin.dimension end.dimension)
    (taken (item.ChannelRange begin end) end.view.end)
    (refusal s st InvalidExpression)

-- the end of a range, from the place behind its colon; it may begin with `!` too
unfoldable pub range_to : List ℕ → State → ℕ → ChannelSpec → Step
range_to s st at begin = range_of s st begin (spec_at s at)

-- SCPI-99 8.3.2: a spec, or a range where a colon follows it
unfoldable pub specs_from : List ℕ → State → ChannelSpec → Step
specs_from s st begin =
    cond (stands_at (code ":") s begin.view.end)
    (range_to s st (begin.view.end + 1) begin)
    (taken (item.ChannelSpec begin) begin.view.end)

unfoldable pub specs_at : List ℕ → State → ℕ → Step
specs_at s st at = specs_from s st (spec_at s at)

-- what was read as a string, as a path name: the place behind it is that behind its closing quote
unfoldable pub path_of : List ℕ → State → Result (DataToken × ℕ) ErrorCode → Step
path_of s st (Ok (t, next)) = taken (item.PathName (view_in t)) ((view_in t).end + 1)
path_of s st (Err e) = refusal s st e

-- SCPI-99 8.3.2: a path name is a string (IEEE 488.2 7.7.5) with its refusals, from the place behind its opening quote. White
-- space and then the end, `,` or `;` must follow, as behind any string, but none of it is passed.
unfoldable pub path_at : ℕ → List ℕ → State → ℕ → Step
path_at q s st at = path_of s st (string_data q s at)

-- an item, by the byte that it begins with
unfoldable pub item_at : List ℕ → State → ℕ → Step
item_at s st at =
    cond (begins_spec (get_or s at 0)) (specs_at s st at)
    (cond (is_quote (get_or s at 0)) (path_at (get_or s at 0) s st (at + 1))
    (refusal s st InvalidExpression))

-- a comma before a place: it may not be the first of the list, and behind it comes the end or an item
unfoldable pub comma_before : List ℕ → State → ℕ → Step
comma_before s st at =
    cond st.first (refusal s st InvalidExpression)
    (cond (leb (length s) at) (ended st at) (item_at s st at))

-- the next step: End at or past the end of the text; behind a comma the end or an item, and an item without one; the standard has a
-- comma between all items and nowhere else (docs/DIFFERENCES.md)
unfoldable pub step : List ℕ → State → Step
step s st =
    cond (leb (length s) st.place) (ended st st.place)
    (cond (is "," (get_or s st.place 0)) (comma_before s st (st.place + 1))
    (item_at s st st.place))

-- the step, by where its item begins
unfoldable pub step_at : List ℕ → State → Front → Step
step_at s st (front.Item at) = item_at s st at
step_at s st (front.End at) = ended st at
step_at s st front.Refused = refusal s st InvalidExpression

-- an item begins inside the text
unfoldable pub Inside : List ℕ → Front → Type 0
Inside s (front.Item at) = at < length s
Inside s (front.End at) = Unit {0}
Inside s front.Refused = Unit {0}
