-- Each step inside the text moves the place, and what it takes is an item; the claims.
use Rattle.std.specs.Prelude.{Result, Ok, Err}
use Prim.Native.Nat.{ℕ, ◌+◌, ◌≤◌, ◌<◌}
use mathlib.Core.Path.{◌≡◌, refl, ◌∙◌, sym}
use mathlib.Core.Logic.{⊎_elim}
use mathlib.Core.List.{List}
use mathlib.Core.Bool.{Bool, true, not, ◌&&◌}
use native.Mathlib.Omega.{arith}
use lib.Dec.{eqb, leb}
use lib.ListN.{length, get_or}
use borrow.Author.Tests.{eqb-true, eqb-false, leb-true, leb-false, lt-leb, not-true}
use Rattle.error.specs.{declared.ErrorCode.ErrorCode, declared.ErrorCode.TheVariants.InvalidExpression}
use Rattle.kind.specs.Class.{is_digit, is_sign, is_quote}
use Rattle.kind.proofs.Tests.{by_test, either, or_left, or_right, and_left, and_right, less_or_not}
use Rattle.util.specs.Run.{stands_at}
use Rattle.util.proofs.Runs.{run_from}
use Rattle.token.specs.{View.view_of, declared.View.View, declared.Token.TheVariants.StringProgramData}
use Rattle.token.specs.declared.Token.{Token as DataToken}
use Rattle.forms.proofs.EnclosedClaims.{string_form}
use Rattle.forms.proofs.ItemProgress.{run_moves}
use Rattle.enclosed.specs.String.{string_end, string_data}
use Rattle.channel_spec.specs.Spec.{in_spec, spec_to, spec_at, is_empty}
use Rattle.channel_spec.specs.declared.ChannelSpec.{ChannelSpec}
use Rattle.channel_list.specs.List.{taken, refusal, ended, begins_spec, range_of, range_to, specs_from, specs_at, path_of, path_at, item_at, comma_before, step, state_of}
use Rattle.lists.specs.ChannelClaims.{behind_comma, Item, state_behind, Claims}
use Rattle.channel_list.specs.{declared.State.State, declared.Token.Token, declared.Step.Step, declared.Answer.Answer}
use Rattle.channel_list.proofs.Steps.{string_token, end'}
use Rattle.util.specs.Walk.{after}
use Rattle.util.proofs.Walks.{arrives}
use Rattle.channel_list.specs.declared.Answer.TheVariants.{Refused, End}

-- what begins a spec may be in one
begins_in : (b : ℕ) → begins_spec b ≡ true → in_spec b ≡ true
unfolding begins_spec in_spec
begins_in b h = ⊎_elim (λ d. or_left _ d) (λ g. or_right (is_digit b) (or_left _ g)) (either (is_digit b) (is_sign b) h)

-- a spec ends no sooner than it begins, and one that begins with a digit or a sign is not empty
module _ (s : List ℕ) (at : ℕ) where
  spec_from : at ≤ (spec_at s at).view.end
  unfolding spec_at spec_to
  spec_from = run_from in_spec s at

  spec_moves : at < length s → begins_spec (get_or s at 0) ≡ true → at < (spec_at s at).view.end
  unfolding spec_at spec_to
  spec_moves h e = run_moves in_spec s at h (begins_in (get_or s at 0) e)

module _ (s : List ℕ) (st : State) (P : Step → Type 0) (refuses : (e : ErrorCode) → P (refusal s st e)) where
  -- What holds of a refusal and of every item that begins at a place, holds of what is there.
  module _ (at : ℕ) (h : at < length s) (takes : (t : Token) (next : ℕ) → at < next → Item s at t next → P (taken t next)) where
    abbrev first : ℕ
    first = get_or s at 0

    abbrev end : ℕ
    end = (spec_at s at).view.end

    module _ (k : begins_spec first ≡ true) where
      range_each : stands_at 58 s end ≡ true → P (range_to s st (end + 1) (spec_at s at))
      unfolding range_to range_of is_empty spec_at spec_to
      range_each c = by_test P (some && same) (λ e. range (and_left some same e) (and_right some same e)) (λ _. refuses InvalidExpression)
        where
          begin : ChannelSpec
          begin = spec_at s at

          to : ChannelSpec
          to = spec_at s (end + 1)

          some : Bool
          some = not (is_empty to)

          same : Bool
          same = eqb begin.dimension to.dimension

          range : some ≡ true → same ≡ true → P (taken (Token.ChannelRange begin to) to.view.end)
          range n d =
              let i : at < end = spec_moves s at h k in
              let m : end + 1 < to.view.end = omega (arith, eqb-false (end + 1) to.view.end (not-true _ n), spec_from s (end + 1)) in
              takes (Token.ChannelRange begin to) to.view.end (omega (arith, i, m))
              (k, (refl, refl, i), c, (refl, refl, m), eqb-true begin.dimension to.dimension d)

      specs_each : P (specs_at s st at)
      unfolding specs_at specs_from
      specs_each =
          let i : at < end = spec_moves s at h k in
          by_test P (stands_at 58 s end) range_each (λ _. takes (Token.ChannelSpec (spec_at s at)) end i (k, (refl, refl, i)))

    path_each : is_quote first ≡ true → (r : Result (DataToken × ℕ) ErrorCode) → string_data first s (at + 1) ≡ r → P (path_of s st r)
    unfolding path_of
    path_each k (Ok (t, next)) e =
        let v : View = view_of (at + 1) (string_end first s (at + 1)) in
        let q : t ≡ StringProgramData v = (string_token first s (at + 1) t next e).0 in
        let f = string_form first s (at + 1) v next (e ∙ rw q) in
        rw q (takes (Token.PathName v) (v.end + 1) (omega (arith, f.1.forward)) (k, refl, f.1, refl, f.2.follows))
    path_each k (Err x) e = refuses x

    item_each : P (item_at s st at)
    unfolding item_at path_at
    item_each =
        by_test P (begins_spec first) specs_each
        (λ _. by_test P (is_quote first) (λ k. path_each k (string_data first s (at + 1)) refl) (λ _. refuses InvalidExpression))

  -- What holds of a refusal, of every item and of End that move the place, holds of a step inside the text.
  module _ (takes : (t : Token) (next : ℕ) → st.place < next → Item s (behind_comma s st.place) t next → P (taken t next))
      (ends : (next : ℕ) → st.place < next → length s ≤ next → P (ended st next)) where
    pub each : st.place < length s → P (step s st)
    unfolding step comma_before
    each h =
        rw (lt-leb (length s) at h) (by_test P (eqb (get_or s at 0) 44) (λ c. by_test P st.first (λ _. refuses InvalidExpression)
        (λ _. by_test P (leb (length s) (at + 1)) (λ k. ends (at + 1) (omega arith) (leb-true (length s) (at + 1) k))
        (λ k. item_each (at + 1) (leb-false (length s) (at + 1) k) (λ t next m i. takes t next (omega (arith, m)) (rw c i)))))
        (λ c. item_each at h (λ t next m i. takes t next m (rw c i))))
      where
        at : ℕ
        at = st.place

-- what each answer tells of itself, and of the state behind it
abbrev Tells : List ℕ → State → Answer → State → Type 0
Tells s st (Answer.Token t) to = Item s (behind_comma s st.place) t to.place
Tells s st (Refused e) to = to ≡ state_of (length s) st.first
Tells s st End to = length s ≤ to.place

module _ (s : List ℕ) (st : State) where
  moves : st.place < length s → st.place < (step s st).state.place
  unfolding taken refusal ended
  moves h = each s st (λ (x : Step). st.place < x.state.place) (λ e. h) (λ t next k i. k) (λ next k l. k) h

  rests : length s ≤ st.place → step s st ≡ record { answer = End; state = st }
  rests h = sym (end' s st h)

  tells : Tells s st (step s st).answer (step s st).state
  unfolding taken refusal ended
  tells =
      ⊎_elim (λ h. each s st (λ (x : Step). Tells s st x.answer x.state) (λ e. refl) (λ t next k i. i) (λ next k l. l) h)
      (λ h. rw (rests h) h) (less_or_not st.place (length s))

pub claims : Claims
claims =
    record {
      moves = moves;
      rests = rests;
      refusal_state = λ s st e q. rw q at (tells s st);
      after_refusal = λ s st e q. rw (rw q at (tells s st), rests s (state_of (length s) st.first) (omega arith));
      end_stays = λ s st q. rests s (step s st).state (rw q at (tells s st));
      at_most =
          λ s st.
          rw (rests s (after (state_behind s) (length s) st)
          (arrives (λ (x : State). x.place) (state_behind s) (length s) (moves s) (λ x h. rw (rests s x h, state_behind) h) (length s) st (omega arith)));
      items = λ s st t q. rw q at (tells s st);
    }
