-- What is proved of channel lists, besides the promises of the functions. The proofs are in proofs/ChannelClaims.
use Rattle.std.specs.Prelude.{ℕ, ◌+◌, ◌≤◌, ◌<◌, ◌≡◌, List, true, cond, length, get_or, drop}
use Prim.Native.Char.{code}
use Rattle.error.specs.declared.ErrorCode.{ErrorCode}
use Rattle.kind.specs.Class.{is, is_quote}
use Rattle.util.specs.Walk.{after}
use Rattle.util.specs.Run.{stands_at}
use Rattle.forms.specs.ItemForm.{Follows}
use Rattle.forms.specs.EnclosedForm.{StringForm}
use Rattle.channel_spec.specs.Spec.{spec_at}
use Rattle.channel_spec.specs.declared.ChannelSpec as spec
use Rattle.channel_list.specs.List.{state_of, begins_spec, step}
use Rattle.channel_list.specs.declared.State.{State}
use Rattle.channel_list.specs.declared.Token as token
use Rattle.channel_list.specs.declared.Token.TheVariants.{ChannelSpec, ChannelRange, PathName}
use Rattle.channel_list.specs.declared.Answer.TheVariants.{Token, Refused, End}

-- the state behind one step
abbrev pub state_behind : List ℕ → State → State
state_behind s st = (step s st).state

-- the place behind a comma, where one stands
abbrev pub behind_comma : List ℕ → ℕ → ℕ
behind_comma s at = cond (is "," (get_or s at 0)) (at + 1) at

-- the spec at a place, which is not empty and ends at another
abbrev pub Spec : List ℕ → ℕ → spec.ChannelSpec → ℕ → Type 0
Spec s at c end = (c ≡ spec_at s at) × (c.view.end ≡ end) × (at < end)

-- SCPI-99 8.3.2: an item from a place up to its end is a spec that begins with a digit or a sign, two specs of one dimension
-- with a colon between, or a string of IEEE 488.2 7.7.5 with its quotes, which is followed as an item of data is
abbrev pub Item : List ℕ → ℕ → token.Token → ℕ → Type 0
Item s at (ChannelSpec c) end = (begins_spec (get_or s at 0) ≡ true) × Spec s at c end
Item s at (ChannelRange c d) end =
    (begins_spec (get_or s at 0) ≡ true) × Spec s at c c.view.end × (stands_at (code ":") s c.view.end ≡ true) × Spec s (c.view.end + 1) d end × (c.dimension ≡ d.dimension)
Item s at (PathName v) end =
    (is_quote (get_or s at 0) ≡ true) × (v.start ≡ at + 1) × StringForm (get_or s at 0) s v × (v.end + 1 ≡ end) × Follows (drop end s)

pub record Claims : Type 0 where
  -- inside the text every answer moves the place: an item, a refusal, and End behind a last comma
  pub moves : (s : List ℕ) (st : State) → st.place < length s → st.place < (step s st).state.place
  -- at and past the end of the text the answer is End, and the state stays as it is
  pub rests : (s : List ℕ) (st : State) → length s ≤ st.place → step s st ≡ record { answer = End; state = st }
  -- a refusal sets the place to the end of the text, and leaves `first` as it was
  pub refusal_state : (s : List ℕ) (st : State) (e : ErrorCode) → (step s st).answer ≡ Refused e → (step s st).state ≡ state_of (length s) st.first
  -- behind a refusal the answer is End
  pub after_refusal : (s : List ℕ) (st : State) (e : ErrorCode) → (step s st).answer ≡ Refused e → (step s (step s st).state).answer ≡ End
  -- behind End the answer is End again, and the state stays as it is
  pub end_stays : (s : List ℕ) (st : State) → (step s st).answer ≡ End → step s (step s st).state ≡ record { answer = End; state = (step s st).state }
  -- a list of n bytes gives n items and refusals at most, and then End, from any place and first
  pub at_most : (s : List ℕ) (st : State) → (step s (after (state_behind s) (length s) st)).answer ≡ End
  -- an accepted item begins at the place, or behind the comma there, and ends where the next step begins
  pub items : (s : List ℕ) (st : State) (t : token.Token) → (step s st).answer ≡ Token t
      → Item s (behind_comma s st.place) t (step s st).state.place
