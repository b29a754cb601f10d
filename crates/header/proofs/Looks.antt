-- Laws of looking ahead, as the code meets them.
use Rattle.std.specs.Prelude.{Result, Ok, Err}
use Prim.Native.Nat.{ℕ, ◌+◌, ◌≤◌, ◌<◌}
use mathlib.Core.Path.{◌≡◌, refl, ap, ◌∙◌}
use mathlib.Core.List.{List}
use mathlib.Core.Bool.{Bool, true, false}
use lib.ListN.{length, get_or}
use borrow.Author.Rules.{rules}
use Rattle.error.specs.declared.ErrorCode.{ErrorCode}
use Rattle.kind.specs.{Class.is_white_space, Class.is_letter, Kind.kind_of}
use Rattle.util.specs.Run.{run_end}
use Rattle.token.specs.declared.Token.{Token}
use Rattle.token.specs.declared.Token.TheVariants.{HeaderMnemonicSeparator, HeaderQuerySuffix, ProgramMessageUnitSeparator, ProgramHeaderSeparator}
use Rattle.item.specs.{Word.mnemonic}
use Rattle.separator.specs.{Separator.colon_to, Separator.question_to}
use Rattle.tokenizer.specs.Step.{state_of, is_in_header, is_in_common, taken, refusal, read_as, passed, step}
use Rattle.tokenizer.specs.{declared.State.State, declared.Step.Step}
use Rattle.tokenizer.specs.declared.Answer.TheVariants as answer
use Rattle.tokenizer.proofs.Steps.{end', form_token', form_refused', pass_to', pass_refused', colon_is', question_is', word_header', blank', star', colon', question', semicolon', letter'}
use Rattle.ahead.specs.Seen.{token_ahead, seen_with, seen_of, seen_at}
use Rattle.ahead.specs.declared.Stop.TheVariants as stop
use Rattle.ahead.specs.{declared.Ahead.Ahead, declared.Seen.Seen}

pub taken_is' : (t : Token) (next : ℕ) (header common : Bool) (a : Ahead) → a ≡ token_ahead t → seen_with a (state_of next header common) ≡ seen_of (taken t next header common)
unfolding taken
taken_is' t next header common a e = rw e

module _ (s : List ℕ) (st : State) where
  pub refusal_is' : (e : ErrorCode) → seen_with (Ahead.Refused e) (state_of (length s) (is_in_header st) (is_in_common st)) ≡ seen_of (refusal s st e)
  unfolding refusal
  refusal_is' e = refl

  module _ (x : Seen) where
    pub read_token' : (r : Result (Token × ℕ) ErrorCode) (t : Token) (next : ℕ) → r ≡ Ok (t, next) → (common : Bool) → x ≡ seen_of (taken t next (is_in_header st) common) → x ≡ seen_of (read_as s st common r)
    read_token' r t next e common ex = ex ∙ ap seen_of (form_token' s st r t next e (is_in_header st) common refl (taken t next (is_in_header st) common) refl)

    pub read_refused' : (r : Result (Token × ℕ) ErrorCode) (common : Bool) (e : ErrorCode) → r ≡ Err e → x ≡ seen_of (refusal s st e) → x ≡ seen_of (read_as s st common r)
    read_refused' r common e q ex = ex ∙ ap seen_of (form_refused' s st r common e q (refusal s st e) refl)

    module _ (p : Result ℕ ErrorCode) (t : Token) (header : Bool) where
      pub passed_to' : (next : ℕ) → p ≡ Ok next → x ≡ seen_of (taken t next header (is_in_common st)) → x ≡ seen_of (passed s st t header p)
      passed_to' next e ex = ex ∙ ap seen_of (pass_to' s st p t header (taken t next header (is_in_common st)) next e refl)

      pub passed_refused' : (e : ErrorCode) → p ≡ Err e → x ≡ seen_of (refusal s st e) → x ≡ seen_of (passed s st t header p)
      passed_refused' e q ex = ex ∙ ap seen_of (pass_refused' s st p t header (refusal s st e) e q refl)

pub ruleset parts = (rules, taken_is', refusal_is', read_token', read_refused', passed_to', passed_refused')

-- What is seen, by the byte at the place.
module _ (s : List ℕ) (st : State) (x : Seen) where
  seen_step : (y : Step) → y ≡ step s st → x ≡ seen_of y → x ≡ seen_at s st
  unfolding seen_at
  seen_step y e ex = ex ∙ ap seen_of e

  pub end_seen' : length s ≤ st.place → x ≡ seen_with (Ahead.Stop stop.Text) st → x ≡ seen_at s st
  end_seen' h ex = seen_step (record { answer = answer.End; state = st }) (end' s st h) ex

  module _ (h : st.place < length s) where
    pub letter_seen' : (b : Bool) → b ≡ is_letter (get_or s st.place 0) → b ≡ true → is_in_header st ≡ true → (r : Result (Token × ℕ) ErrorCode) → r ≡ mnemonic s st.place → x ≡ seen_of (read_as s st (is_in_common st) r) → x ≡ seen_at s st
    letter_seen' b e q k r er ex = seen_step (read_as s st (is_in_common st) r) (letter' s st h b (read_as s st (is_in_common st) r) e q (word_header' s st st.place (read_as s st (is_in_common st) r) k r er refl)) ex

    pub star_seen' : get_or s st.place 0 ≡ 42 → (r : Result (Token × ℕ) ErrorCode) → r ≡ mnemonic s st.place → x ≡ seen_of (read_as s st true r) → x ≡ seen_at s st
    unfolding kind_of is_white_space
    star_seen' e r er ex = seen_step (read_as s st true r) (star' s st h (kind_of (get_or s st.place 0)) refl (read_as s st true r) (rw e) (rw er)) ex

    module _ (p : Result ℕ ErrorCode) where
      pub colon_seen' : get_or s st.place 0 ≡ 58 → p ≡ colon_to s (st.place + 1) (is_in_header st) (is_in_common st) → x ≡ seen_of (passed s st HeaderMnemonicSeparator (is_in_header st) p) → x ≡ seen_at s st
      unfolding kind_of is_white_space
      colon_seen' e ep ex =
          let y = passed s st HeaderMnemonicSeparator (is_in_header st) p in
          seen_step y (colon' s st h (kind_of (get_or s st.place 0)) refl y (rw e) (colon_is' s st (st.place + 1) p y ep refl)) ex

      pub question_seen' : get_or s st.place 0 ≡ 63 → p ≡ question_to s (st.place + 1) (is_in_header st) → x ≡ seen_of (passed s st HeaderQuerySuffix false p) → x ≡ seen_at s st
      unfolding kind_of is_white_space
      question_seen' e ep ex =
          let y = passed s st HeaderQuerySuffix false p in
          seen_step y (question' s st h (kind_of (get_or s st.place 0)) refl y (rw e) (question_is' s st (st.place + 1) p y ep refl)) ex

    module _ (next : ℕ) where
      pub space_seen' : get_or s st.place 0 ≡ 32 → next ≡ run_end is_white_space s st.place → x ≡ seen_of (taken ProgramHeaderSeparator next false (is_in_common st)) → x ≡ seen_at s st
      unfolding kind_of is_white_space
      space_seen' e en ex = seen_step (taken ProgramHeaderSeparator next false (is_in_common st)) (blank' s st h (kind_of (get_or s st.place 0)) refl (taken ProgramHeaderSeparator next false (is_in_common st)) (rw e) (rw en)) ex

      pub semicolon_seen' : get_or s st.place 0 ≡ 59 → next ≡ run_end is_white_space s (st.place + 1) → x ≡ seen_of (taken ProgramMessageUnitSeparator next true false) → x ≡ seen_at s st
      unfolding kind_of is_white_space
      semicolon_seen' e en ex = seen_step (taken ProgramMessageUnitSeparator next true false) (semicolon' s st h (kind_of (get_or s st.place 0)) refl (taken ProgramMessageUnitSeparator next true false) (rw e) (rw en)) ex

pub ruleset looks = (rules, end_seen', letter_seen', star_seen', colon_seen', question_seen', space_seen', semicolon_seen')
