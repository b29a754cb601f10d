-- What is proved of the token step, besides the promises of the functions. The proofs are in proofs/StepClaims.
use Rattle.std.specs.Prelude.{ℕ, ◌≤◌, ◌<◌, ◌≡◌, List, length}
use Rattle.error.specs.declared.ErrorCode.{ErrorCode}
use Rattle.util.specs.Walk.{after}
use Rattle.tokenizer.specs.Step.{state_of, is_in_header, is_in_common, step}
use Rattle.tokenizer.specs.declared.State.{State}
use Rattle.tokenizer.specs.declared.Answer.{Answer}
use Rattle.tokenizer.specs.declared.Answer.TheVariants.{Refused, End}

-- the answer of one step, and the state behind it
abbrev pub answer_of : List ℕ → State → Answer
answer_of s st = (step s st).answer

abbrev pub state_behind : List ℕ → State → State
state_behind s st = (step s st).state

pub record Claims : Type 0 where
  -- inside the text every answer moves the place: a token, a refusal, and End at a last newline
  pub moves : (s : List ℕ) (st : State) → st.place < length s → st.place < (step s st).state.place
  -- at and past the end of the text the answer is End, and the state stays as it is
  pub rests : (s : List ℕ) (st : State) → length s ≤ st.place → step s st ≡ record { answer = End; state = st }
  -- a refusal sets the place to the end of the text, and leaves both flags as they were
  pub refusal_state : (s : List ℕ) (st : State) (e : ErrorCode) → (step s st).answer ≡ Refused e
      → (step s st).state ≡ state_of (length s) (is_in_header st) (is_in_common st)
  -- behind a refusal the answer is End
  pub after_refusal : (s : List ℕ) (st : State) (e : ErrorCode) → (step s st).answer ≡ Refused e → (step s (step s st).state).answer ≡ End
  -- behind End the answer is End again, and the state stays as it is
  pub end_stays : (s : List ℕ) (st : State) → (step s st).answer ≡ End → step s (step s st).state ≡ record { answer = End; state = (step s st).state }
  -- a text of n bytes gives n tokens and refusals at most, and then End, from any place and flags
  pub at_most : (s : List ℕ) (st : State) → (step s (after (state_behind s) (length s) st)).answer ≡ End
