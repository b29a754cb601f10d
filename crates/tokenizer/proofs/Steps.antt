-- Laws of the token step, as the code meets them.
use Rattle.std.specs.Prelude.{Result, Ok, Err}
use Prim.Native.Nat.{ℕ, ◌+◌, ◌≤◌, ◌<◌}
use mathlib.Core.Path.{◌≡◌, refl, sym, ◌∙◌}
use mathlib.Core.Logic.{⊎_elim}
use mathlib.Core.List.{List}
use mathlib.Core.Bool.{Bool, true, false}
use lib.ListN.{length, get_or}
use borrow.Author.Rules.{rules}
use borrow.Author.Tests.{le-leb, lt-leb, ne_eqb}
use Rattle.error.specs.declared.ErrorCode.{ErrorCode}
use Rattle.error.specs.declared.ErrorCode.TheVariants.{InvalidCharacter, SyntaxError, CommandHeaderError}
use Rattle.kind.specs.{Class.is_white_space, Class.is_letter, Kind.kind_of}
use Rattle.kind.specs.declared.Kind.{Kind}
use Rattle.kind.specs.declared.Kind.TheVariants as kind
use Rattle.util.specs.Run.{run_end}
use Rattle.token.specs.declared.Token.{Token}
use Rattle.token.specs.declared.Token.TheVariants.{HeaderMnemonicSeparator, HeaderQuerySuffix, ProgramMessageUnitSeparator, ProgramHeaderSeparator, ProgramDataSeparator}
use Rattle.item.specs.{Word.mnemonic, Word.character_data}
use Rattle.decimal.specs.Decimal.{numeric_data}
use Rattle.enclosed.specs.{String.string_data, Expression.expression_data}
use Rattle.hash.specs.Block.{hash_data}
use Rattle.tokenizer.specs.Step.{state_of, is_in_header, is_in_common, of_message, of_data, taken, refusal, ended, read_as, passed, ended_by, newline_before, colon_before, question_before, comma_before, word_at, outside, by_kind, step}
use Rattle.separator.specs.Separator.{newline_to, colon_to, question_to, comma_to}
use Rattle.tokenizer.proofs.Starts.{letter_kind}
use Rattle.tokenizer.specs.{declared.State.State, declared.Step.Step}
use Rattle.tokenizer.specs.declared.Answer.TheVariants as answer

pub taken_is' : (t : Token) (next : ℕ) (header common : Bool) → record { answer = answer.Token t; state = state_of next header common } ≡ taken t next header common
unfolding taken
taken_is' t next header common = refl

module _ (s : List ℕ) (st : State) where
  pub refusal_is' : (e : ErrorCode) → record { answer = answer.Refused e; state = state_of (length s) (is_in_header st) (is_in_common st) } ≡ refusal s st e
  unfolding refusal
  refusal_is' e = refl

  module _ (r : Result (Token × ℕ) ErrorCode) where
    pub form_token' : (t : Token) (next : ℕ) → r ≡ Ok (t, next) → (header common : Bool) → header ≡ is_in_header st → (x : Step) → x ≡ taken t next header common → x ≡ read_as s st common r
    unfolding read_as
    form_token' t next e header common eh x ex = ex ∙ rw (e, eh)

    pub form_refused' : (common : Bool) (e : ErrorCode) → r ≡ Err e → (x : Step) → x ≡ refusal s st e → x ≡ read_as s st common r
    unfolding read_as
    form_refused' common e q x ex = ex ∙ rw q

  module _ (p : Result ℕ ErrorCode) (t : Token) (header : Bool) (x : Step) where
    pub pass_to' : (next : ℕ) → p ≡ Ok next → x ≡ taken t next header (is_in_common st) → x ≡ passed s st t header p
    unfolding passed
    pass_to' next e ex = ex ∙ rw e

    pub pass_refused' : (e : ErrorCode) → p ≡ Err e → x ≡ refusal s st e → x ≡ passed s st t header p
    unfolding passed
    pass_refused' e q ex = ex ∙ rw q

pub ended_is' : (st : State) → record { answer = answer.End; state = st } ≡ ended st st.place
unfolding ended
ended_is' st = refl

pub ruleset parts = (rules, taken_is', refusal_is', form_token', form_refused', pass_to', pass_refused', ended_is')

-- A separator, by what `separator` says of it.
module _ (s : List ℕ) (st : State) (next : ℕ) (p : Result ℕ ErrorCode) (x : Step) where
  module _ (ep : p ≡ newline_to s next) where
    pub newline_to' : (to : ℕ) → p ≡ Ok to → x ≡ ended (state_of to (is_in_header st) (is_in_common st)) to → x ≡ newline_before s st next
    unfolding newline_before ended_by ended
    newline_to' to e ex = ex ∙ rw (← ep, e)

    pub newline_refused' : (e : ErrorCode) → p ≡ Err e → x ≡ refusal s st e → x ≡ newline_before s st next
    unfolding newline_before ended_by
    newline_refused' e q ex = ex ∙ rw (← ep, q)

  pub colon_is' : p ≡ colon_to s next (is_in_header st) (is_in_common st) → x ≡ passed s st HeaderMnemonicSeparator (is_in_header st) p → x ≡ colon_before s st next
  unfolding colon_before
  colon_is' ep ex = ex ∙ rw ep

  pub question_is' : p ≡ question_to s next (is_in_header st) → x ≡ passed s st HeaderQuerySuffix false p → x ≡ question_before s st next
  unfolding question_before
  question_is' ep ex = ex ∙ rw ep

  pub comma_is' : p ≡ comma_to s next (is_in_header st) → x ≡ passed s st ProgramDataSeparator (is_in_header st) p → x ≡ comma_before s st next
  unfolding comma_before
  comma_is' ep ex = ex ∙ rw ep

pub white_token' : (s : List ℕ) (at : ℕ) (t : Token) (header common : Bool) (next : ℕ) → next ≡ run_end is_white_space s at → (x : Step) → x ≡ taken t next header common → x ≡ taken t (run_end is_white_space s at) header common
white_token' s at t header common next en x ex = ex ∙ rw en

pub ruleset separators = (rules, newline_to', newline_refused', colon_is', question_is', comma_is', white_token')

pub form_of' : (s : List ℕ) (st : State) (common : Bool) (q r : Result (Token × ℕ) ErrorCode) → r ≡ q → (x : Step) → x ≡ read_as s st common r → x ≡ read_as s st common q
form_of' s st common q r er x ex = ex ∙ rw er

module _ (s : List ℕ) (st : State) (at : ℕ) (x : Step) where
  pub word_header' : is_in_header st ≡ true → (r : Result (Token × ℕ) ErrorCode) → r ≡ mnemonic s at → x ≡ read_as s st (is_in_common st) r → x ≡ word_at s st at
  unfolding word_at
  word_header' h r er ex = ex ∙ rw (h, er)

  pub word_data' : is_in_header st ≡ false → (r : Result (Token × ℕ) ErrorCode) → r ≡ character_data s at → x ≡ read_as s st (is_in_common st) r → x ≡ word_at s st at
  unfolding word_at
  word_data' h r er ex = ex ∙ rw (h, er)

  pub outside_header' : (r : Result (Token × ℕ) ErrorCode) → is_in_header st ≡ true → x ≡ refusal s st CommandHeaderError → x ≡ outside s st r
  unfolding outside
  outside_header' r h ex = ex ∙ rw h

  pub outside_data' : (q : Result (Token × ℕ) ErrorCode) → is_in_header st ≡ false → (r : Result (Token × ℕ) ErrorCode) → r ≡ q → x ≡ read_as s st (is_in_common st) r → x ≡ outside s st q
  unfolding outside
  outside_data' q h r er ex = ex ∙ rw (h, er)

pub ruleset arms = (rules, form_of', word_header', word_data', outside_header', outside_data')

-- The step, by the kind k of the first byte.
module _ (s : List ℕ) (st : State) where
  pub end' : length s ≤ st.place → record { answer = answer.End; state = st } ≡ step s st
  unfolding step ended
  end' h = rw (le-leb (length s) st.place h)

  pub past' : length s ≤ st.place → (x : Step) → x ≡ ended st st.place → x ≡ step s st
  unfolding step
  past' h x ex = ex ∙ rw (le-leb (length s) st.place h)

  module _ (h : st.place < length s) (k : Kind) (ek : k ≡ kind_of (get_or s st.place 0)) (x : Step) where
    by_kind_lem : step s st ≡ by_kind s st st.place (get_or s st.place 0) k
    unfolding step
    by_kind_lem = rw (lt-leb (length s) st.place h, ← ek)

    pub newline' : k ≡ kind.Newline → x ≡ newline_before s st (st.place + 1) → x ≡ step s st
    unfolding by_kind
    newline' e ex = ex ∙ sym (by_kind_lem ∙ rw e)

    pub blank' : k ≡ kind.Blank → x ≡ taken ProgramHeaderSeparator (run_end is_white_space s st.place) false (is_in_common st) → x ≡ step s st
    unfolding by_kind
    blank' e ex = ex ∙ sym (by_kind_lem ∙ rw e)

    pub star' : k ≡ kind.Star → x ≡ read_as s st true (mnemonic s st.place) → x ≡ step s st
    unfolding by_kind
    star' e ex = ex ∙ sym (by_kind_lem ∙ rw e)

    pub colon' : k ≡ kind.Colon → x ≡ colon_before s st (st.place + 1) → x ≡ step s st
    unfolding by_kind
    colon' e ex = ex ∙ sym (by_kind_lem ∙ rw e)

    pub question' : k ≡ kind.Question → x ≡ question_before s st (st.place + 1) → x ≡ step s st
    unfolding by_kind
    question' e ex = ex ∙ sym (by_kind_lem ∙ rw e)

    pub semicolon' : k ≡ kind.Semicolon → x ≡ taken ProgramMessageUnitSeparator (run_end is_white_space s (st.place + 1)) true false → x ≡ step s st
    unfolding by_kind
    semicolon' e ex = ex ∙ sym (by_kind_lem ∙ rw e)

    pub comma' : k ≡ kind.Comma → x ≡ comma_before s st (st.place + 1) → x ≡ step s st
    unfolding by_kind
    comma' e ex = ex ∙ sym (by_kind_lem ∙ rw e)

    pub small' : k ≡ kind.Small → x ≡ word_at s st st.place → x ≡ step s st
    unfolding by_kind
    small' e ex = ex ∙ sym (by_kind_lem ∙ rw e)

    pub capital' : k ≡ kind.Capital → x ≡ word_at s st st.place → x ≡ step s st
    unfolding by_kind
    capital' e ex = ex ∙ sym (by_kind_lem ∙ rw e)

    pub parenthesis' : k ≡ kind.Parenthesis → x ≡ read_as s st (is_in_common st) (expression_data s (st.place + 1)) → x ≡ step s st
    unfolding by_kind
    parenthesis' e ex = ex ∙ sym (by_kind_lem ∙ rw e)

    pub other' : k ≡ kind.Other → x ≡ refusal s st SyntaxError → x ≡ step s st
    unfolding by_kind
    other' e ex = ex ∙ sym (by_kind_lem ∙ rw e)

    pub underscore' : k ≡ kind.Underscore → x ≡ refusal s st SyntaxError → x ≡ step s st
    unfolding by_kind
    underscore' e ex = ex ∙ sym (by_kind_lem ∙ rw e)

    pub beyond' : k ≡ kind.Beyond → x ≡ refusal s st InvalidCharacter → x ≡ step s st
    unfolding by_kind
    beyond' e ex = ex ∙ sym (by_kind_lem ∙ rw e)

    pub hash' : k ≡ kind.Hash → x ≡ outside s st (hash_data s (st.place + 1)) → x ≡ step s st
    unfolding by_kind
    hash' e ex = ex ∙ sym (by_kind_lem ∙ rw e)

    pub quote' : k ≡ kind.Quote → x ≡ outside s st (string_data (get_or s st.place 0) s (st.place + 1)) → x ≡ step s st
    unfolding by_kind
    quote' e ex = ex ∙ sym (by_kind_lem ∙ rw e)

    pub digit' : k ≡ kind.Digit → x ≡ outside s st (numeric_data s st.place) → x ≡ step s st
    unfolding by_kind
    digit' e ex = ex ∙ sym (by_kind_lem ∙ rw e)

    pub sign' : k ≡ kind.Sign → x ≡ outside s st (numeric_data s st.place) → x ≡ step s st
    unfolding by_kind
    sign' e ex = ex ∙ sym (by_kind_lem ∙ rw e)

    pub point' : k ≡ kind.Point → x ≡ outside s st (numeric_data s st.place) → x ≡ step s st
    unfolding by_kind
    point' e ex = ex ∙ sym (by_kind_lem ∙ rw e)

  -- a word, by its first byte
  module _ (h : st.place < length s) (r : Bool) (x : Step) where
    pub letter' : r ≡ is_letter (get_or s st.place 0) → r ≡ true → x ≡ word_at s st st.place → x ≡ step s st
    letter' e q ex =
        ⊎_elim (λ k. small' h (kind_of (get_or s st.place 0)) refl x k ex) (λ k. capital' h (kind_of (get_or s st.place 0)) refl x k ex)
        (letter_kind (get_or s st.place 0) (sym e ∙ q))

pub ruleset steps = (rules, past', newline', blank', star', colon', question', semicolon', comma', small', capital', parenthesis', other', underscore', beyond', hash', quote', digit', sign', point')

-- data alone starts as a message does, but outside a header
pub data_start' : (st : State) → st ≡ of_message → state_of st.place false (is_in_common st) ≡ of_data
data_start' st e = rw e

pub data_step' : (s : List ℕ) (place : ℕ) (st : State) → st ≡ of_data → (x : Step) → x ≡ step s (state_of place (is_in_header st) (is_in_common st)) → x ≡ step s (state_of place false false)
data_step' s place st e x ex = ex ∙ rw e

pub ruleset starts = (rules, data_start', data_step')
