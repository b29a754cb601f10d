-- What is proved of numeric lists, besides the promises of the functions. The proofs are in proofs/NumericClaims.
use Rattle.std.specs.Prelude.{ℕ, ◌+◌, ◌≤◌, ◌<◌, ◌≡◌, List, ◌∷◌, ◌++◌, true, false, cond, length, get_or, drop}
use Prim.Native.Char.{code}
use Rattle.error.specs.declared.ErrorCode.{ErrorCode}
use Rattle.error.specs.declared.ErrorCode.TheVariants.{InvalidExpression}
use Rattle.kind.specs.Class.{is}
use Rattle.util.specs.Walk.{after}
use Rattle.util.specs.Run.{stands_at}
use Rattle.token.specs.View.{view_of, part_of}
use Rattle.forms.specs.DecimalForm.{Number, Stops}
use Rattle.numeric_list.specs.List.{state_of, taken, item_at, step}
use Rattle.numeric_list.specs.declared.State.{State}
use Rattle.numeric_list.specs.declared.Token as token
use Rattle.numeric_list.specs.declared.Token.TheVariants.{Numeric, NumericRange}
use Rattle.numeric_list.specs.declared.Answer.TheVariants.{Token, Refused, End}

-- the state behind one step
abbrev pub state_behind : List ℕ → State → State
state_behind s st = (step s st).state

-- the place behind a comma, where one stands
abbrev pub behind_comma : List ℕ → ℕ → ℕ
behind_comma s at = cond (is "," (get_or s at 0)) (at + 1) at

-- SCPI-99 8.3.3: an item from a place up to its end is a number of IEEE 488.2 7.7.2.2, or two of them with a colon between
abbrev pub Item : List ℕ → ℕ → token.Token → ℕ → Type 0
Item s at (Numeric v) end = (v ≡ view_of at end) × Number (part_of s v)
Item s at (NumericRange v u) end =
    (v.start ≡ at) × Number (part_of s v) × (stands_at (code ":") s v.end ≡ true) × (u ≡ view_of (v.end + 1) end) × Number (part_of s u)

pub record Claims : Type 0 where
  -- inside the text every answer moves the place
  pub moves : (s : List ℕ) (st : State) → st.place < length s → st.place < (step s st).state.place
  -- at and past the end of the text the answer is End, and the state stays as it is
  pub rests : (s : List ℕ) (st : State) → length s ≤ st.place → step s st ≡ record { answer = End; state = st }
  -- every refusal is -171
  pub one_refusal : (s : List ℕ) (st : State) (e : ErrorCode) → (step s st).answer ≡ Refused e → e ≡ InvalidExpression
  -- a refusal sets the place to the end of the text, and leaves `first` as it was
  pub refusal_state : (s : List ℕ) (st : State) (e : ErrorCode) → (step s st).answer ≡ Refused e → (step s st).state ≡ state_of (length s) st.first
  -- behind a refusal the answer is End
  pub after_refusal : (s : List ℕ) (st : State) (e : ErrorCode) → (step s st).answer ≡ Refused e → (step s (step s st).state).answer ≡ End
  -- behind End the answer is End again, and the state stays as it is
  pub end_stays : (s : List ℕ) (st : State) → (step s st).answer ≡ End → step s (step s st).state ≡ record { answer = End; state = (step s st).state }
  -- a list of n bytes gives n items and refusals at most, and then End, from any place and first
  pub at_most : (s : List ℕ) (st : State) → (step s (after (state_behind s) (length s) st)).answer ≡ End
  -- an accepted item begins at the place, or behind the comma there, ends where the next step begins, and its views are numbers
  pub items_are_numbers : (s : List ℕ) (st : State) (t : token.Token) → (step s st).answer ≡ Token t
      → Item s (behind_comma s st.place) t (step s st).state.place
  -- and the other way round: a number at a place, with no colon behind it, is taken as an item up to its end
  pub number_read : (s : List ℕ) (st : State) (at : ℕ) (t y : List ℕ) → drop at s ≡ t ++ y → Number t → Stops y → is ":" (get_or y 0 0) ≡ false
      → item_at s st at ≡ taken (Numeric (view_of at (at + length t))) (at + length t)
  -- two with a colon between them are taken as a range
  pub range_read : (s : List ℕ) (st : State) (at : ℕ) (t u y : List ℕ) → drop at s ≡ t ++ (code ":" ∷ (u ++ y)) → Number t → Number u → Stops y
      → item_at s st at ≡ taken (NumericRange (view_of at (at + length t)) (view_of (at + length t + 1) (at + length t + 1 + length u))) (at + length t + 1 + length u)
