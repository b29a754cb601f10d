-- The claims.
use Prim.Native.Nat.{ℕ, ◌≤◌, ◌<◌}
use mathlib.Core.Path.{◌≡◌, refl, sym}
use mathlib.Core.Logic.{⊎_elim}
use mathlib.Core.List.{List}
use native.Mathlib.Omega.{arith}
use lib.ListN.{length}
use Rattle.kind.proofs.Tests.{less_or_not}
use Rattle.util.specs.Walk.{after}
use Rattle.util.proofs.Walks.{arrives}
use Rattle.tokenizer.specs.Step.{state_of, is_in_header, is_in_common, taken, refusal, ended, step}
use Rattle.tokens.specs.StepClaims.{state_behind, Claims}
use Rattle.tokenizer.specs.{declared.State.State, declared.Answer.Answer, declared.Step.Step}
use Rattle.tokenizer.specs.declared.Answer.TheVariants.{Token, Refused, End}
use Rattle.tokenizer.proofs.Steps.{end'}
use Rattle.tokens.proofs.StepProgress.{each}

-- what a refusal and an end say of the state after them
abbrev Tells : List ℕ → State → Answer → State → Type 0
Tells s st (Token t) to = Unit {0}
Tells s st (Refused e) to = to ≡ state_of (length s) (is_in_header st) (is_in_common st)
Tells s st End to = length s ≤ to.place

module _ (s : List ℕ) (st : State) where
  moves : st.place < length s → st.place < (step s st).state.place
  unfolding taken refusal ended
  moves h = each s st (λ (x : Step). st.place < x.state.place) (λ e. h) (λ t next header common k. k) (λ next k l. k) h

  rests : length s ≤ st.place → step s st ≡ record { answer = End; state = st }
  rests h = sym (end' s st h)

  tells : Tells s st (step s st).answer (step s st).state
  unfolding taken refusal ended
  tells =
      ⊎_elim
      (λ h. each s st (λ (x : Step). Tells s st x.answer x.state) (λ e. refl) (λ t next header common k. tt) (λ next k l. l) h)
      (λ h. rw (rests h) h) (less_or_not st.place (length s))

pub claims : Claims
claims =
    record {
      moves = moves;
      rests = rests;
      refusal_state = λ s st e q. rw q at (tells s st);
      after_refusal = λ s st e q. rw (rw q at (tells s st), rests s (state_of (length s) (is_in_header st) (is_in_common st)) (omega arith));
      end_stays = λ s st q. rests s (step s st).state (rw q at (tells s st));
      at_most =
          λ s st.
          rw (rests s (after (state_behind s) (length s) st)
          (arrives (λ (x : State). x.place) (state_behind s) (length s) (moves s) (λ x h. rw (rests s x h, state_behind) h) (length s) st (omega arith)));
    }
