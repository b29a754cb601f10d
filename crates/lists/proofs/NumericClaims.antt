-- Each step inside the text moves the place, and what it takes is an item; the claims.
use Rattle.std.specs.Prelude.{Result, Ok, Err}
use Prim.Native.Nat.{ℕ, ◌+◌, ◌<◌, ◌≤◌}
use mathlib.Core.Path.{◌≡◌, refl, sym}
use mathlib.Core.List.{List, [], ◌∷◌, ◌++◌}
use mathlib.Core.Bool.{true, false, and-false}
use native.Mathlib.Omega.{arith}
use lib.Dec.{eqb, ltb}
use lib.ListN.{length, get_or, drop}
use borrow.Author.Tests.{lt-leb}
use Rattle.kind.proofs.Tests.{by_test, less_or_not}
use Rattle.util.specs.Run.{stands_at}
use Rattle.token.specs.View.{view_of, part_of}
use Rattle.forms.proofs.DecimalClaims.{nrf_form}
use Rattle.forms.proofs.ItemProgress.{Behind, nrf_behind}
use Rattle.forms.specs.DecimalForm.{Number, Stops}
use Rattle.decimal.specs.Decimal.{nrf, begins_exponent}
use Rattle.numeric_list.specs.List.{taken, refusal, range_by, range_to, item_step, item_at, begins, comma_before, step, state_of}
use Rattle.lists.specs.NumericClaims.{behind_comma, Item, state_behind, Claims}
use Rattle.numeric_list.specs.{declared.State.State, declared.Token.Token, declared.Token.TheVariants.Numeric, declared.Token.TheVariants.NumericRange, declared.Step.Step, declared.Answer.Answer}
use mathlib.Core.Logic.{⊎_elim}
use Rattle.error.specs.declared.ErrorCode.TheVariants.{InvalidExpression}
use Rattle.kind.specs.Class.{is_digit}
use Rattle.util.specs.{Walk.after}
use Rattle.util.proofs.Walks.{arrives}
use Rattle.forms.proofs.ItemSeams.{here_get, here_stands, here_next}
use Rattle.forms.proofs.Decimals.{nrf_read}
use Rattle.numeric_list.specs.declared.Answer.TheVariants.{Refused, End}
use Rattle.numeric_list.proofs.List.{end'}
use Rattle.error.specs.declared.ErrorCode.{ErrorCode}
use Rattle.token.specs.declared.Token.{Token as DataToken}

module _ (s : List ℕ) (st : State) (P : Step → Type 0) (refuses : P (refusal s st)) where
  -- What holds of a refusal and of every item that begins at a place, holds of what is there.
  module _ (at : ℕ) (takes : (t : Token) (next : ℕ) → at < next → Item s at t next → P (taken t next)) where
    range_each : (end : ℕ) → at < end → Number (part_of s (view_of at end)) → stands_at 58 s end ≡ true
        → (r : Result (DataToken × ℕ) ErrorCode) → nrf s (end + 1) ≡ r → Behind (end + 1) r → P (range_by s st (end + 1) (view_of at end) r)
    unfolding range_by
    range_each end h n c (Ok (t, next)) e k =
        takes (NumericRange (view_of at end) (view_of (end + 1) next)) next (omega (arith, h, k)) (refl, n, c, refl, (nrf_form s (end + 1) t next e).1)
    range_each end h n c (Err x) e k = refuses

    item_by : (r : Result (DataToken × ℕ) ErrorCode) → nrf s at ≡ r → Behind at r → P (item_step s st at r)
    unfolding item_step range_to
    item_by (Ok (t, end)) e h =
        let n : Number (part_of s (view_of at end)) = (nrf_form s at t end e).1 in
        by_test P (stands_at 58 s end) (λ c. range_each end h n c (nrf s (end + 1)) refl (nrf_behind s (end + 1)))
        (λ _. takes (Numeric (view_of at end)) end h (refl, n))
    item_by (Err x) e h = refuses

    item_each : P (item_at s st at)
    unfolding item_at
    item_each = item_by (nrf s at) refl (nrf_behind s at)

  -- What holds of a refusal and of every item that moves the place, holds of a step inside the text.
  module _ (takes : (t : Token) (next : ℕ) → st.place < next → Item s (behind_comma s st.place) t next → P (taken t next)) where
    pub each : st.place < length s → P (step s st)
    unfolding step comma_before
    each h =
        rw (lt-leb (length s) at h) (by_test P (eqb (get_or s at 0) 44)
        (λ c. by_test P st.first (λ _. refuses) (λ _. item_each (at + 1) (λ t next k i. takes t next (omega (arith, k)) (rw c i))))
        (λ c. by_test P (begins (get_or s at 0) st.first) (λ _. item_each at (λ t next k i. takes t next k (rw c i))) (λ _. refuses)))
      where
        at : ℕ
        at = st.place

-- what each answer tells of itself, and of the state behind it
abbrev Tells : List ℕ → State → Answer → State → Type 0
Tells s st (Answer.Token t) to = Item s (behind_comma s st.place) t to.place
Tells s st (Refused e) to = (e ≡ InvalidExpression) × (to ≡ state_of (length s) st.first)
Tells s st End to = length s ≤ to.place

module _ (s : List ℕ) (st : State) where
  moves : st.place < length s → st.place < (step s st).state.place
  unfolding taken refusal
  moves h = each s st (λ (x : Step). st.place < x.state.place) h (λ t next k i. k) h

  rests : length s ≤ st.place → step s st ≡ record { answer = End; state = st }
  rests h = sym (end' s st h)

  tells : Tells s st (step s st).answer (step s st).state
  unfolding taken refusal
  tells =
      ⊎_elim (λ h. each s st (λ (x : Step). Tells s st x.answer x.state) (refl, refl) (λ t next k i. i) h)
      (λ h. rw (rests h) h) (less_or_not st.place (length s))

-- a number, and perhaps a colon and another
module _ (s : List ℕ) (st : State) (at : ℕ) (t : List ℕ) where
  number_read : (y : List ℕ) → drop at s ≡ t ++ y → Number t → Stops y → eqb (get_or y 0 0) 58 ≡ false
      → item_at s st at ≡ taken (Numeric (view_of at (at + length t))) (at + length t)
  unfolding item_at item_step stands_at
  number_read y h n z c =
      rw (nrf_read s at t y h n z, here_get s (at + length t) y (here_next s at t y h), c, and-false (ltb (at + length t) (length s)))

  range_read : (u y : List ℕ) → drop at s ≡ t ++ (58 ∷ (u ++ y)) → Number t → Number u → Stops y
      → item_at s st at ≡ taken (NumericRange (view_of at (at + length t)) (view_of (at + length t + 1) (at + length t + 1 + length u))) (at + length t + 1 + length u)
  unfolding item_at item_step range_to range_by is_digit begins_exponent
  range_read u y h n m z =
      let k : drop (at + length t) s ≡ 58 ∷ (u ++ y) = here_next s at t (58 ∷ (u ++ y)) h in
      let l : drop (at + length t + 1) s ≡ u ++ y = here_next s (at + length t) (58 ∷ []) (u ++ y) k in
      let colon : Stops (58 ∷ (u ++ y)) = record { no_digit = refl; no_point = refl; no_exponent = refl } in
      rw (nrf_read s at t (58 ∷ (u ++ y)) h n colon, here_stands s (at + length t) 58 (u ++ y) k, nrf_read s (at + length t + 1) u y l m z)

pub claims : Claims
claims =
    record {
      moves = moves;
      rests = rests;
      one_refusal = λ s st e q. (rw q at (tells s st)).0;
      refusal_state = λ s st e q. (rw q at (tells s st)).1;
      after_refusal = λ s st e q. rw ((rw q at (tells s st)).1, rests s (state_of (length s) st.first) (omega arith));
      end_stays = λ s st q. rests s (step s st).state (rw q at (tells s st));
      at_most =
          λ s st.
          rw (rests s (after (state_behind s) (length s) st)
          (arrives (λ (x : State). x.place) (state_behind s) (length s) (moves s) (λ x h. rw (rests s x h, state_behind) h) (length s) st (omega arith)));
      items_are_numbers = λ s st t q. rw q at (tells s st);
      number_read = number_read;
      range_read = range_read;
    }
