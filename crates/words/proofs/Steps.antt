-- Laws of the steps, as the code meets them.
use Rattle.std.specs.Prelude.{Option, Some, None}
use Prim.Native.Nat.{ℕ}
use mathlib.Core.Path.{◌≡◌, sym, ap, ◌∙◌}
use mathlib.Core.List.{List}
use mathlib.Core.Bool.{true}
use lib.ListN.{get_or}
use borrow.Author.Rules.{rules}
use Rattle.error.specs.declared.ErrorCode.TheVariants.{InvalidExpression}
use Rattle.record.specs.Word.{bit}
use Rattle.token.specs.declared.Token as token
use Rattle.tokenizer.specs.declared.Answer as token-answer
use Rattle.tokenizer.specs.declared.Step as token-step
use Rattle.channel_list.specs.declared.State as channel-state
use Rattle.channel_list.specs.declared.Token as channel-token
use Rattle.channel_list.specs.declared.Answer as channel-answer
use Rattle.channel_list.specs.declared.Step as channel-step
use Rattle.numeric_list.specs.declared.Token as numeric-token
use Rattle.numeric_list.specs.declared.Answer as numeric-answer
use Rattle.numeric_list.specs.declared.Step as numeric-step
use Rattle.words.specs.{Outcome.Outcome, declared.Said.Said}
use Rattle.words.specs.Words.{is_set, plain_of, refused_of, left_in}
use Rattle.words.specs.Token.{token_item, token_said, token_state, token_left}
use Rattle.words.specs.Lists.{opened_left, channel_item, channel_said, channel_state, channel_left, numeric_item, numeric_said, numeric_state, numeric_left}

-- told by the case that a token or an answer is
by_case : {A : Type 0} (f : A → Said) (r : Said) (t u : A) → t ≡ u → r ≡ f u → r ≡ f t
by_case f r t u e h = h ∙ sym (ap f e)

pub token_item' : (r : Said) (t u : token.Token) → t ≡ u → r ≡ token_item u → r ≡ token_item t
token_item' = by_case token_item

pub token_said' : (r : Said) (t u : token-answer.Answer) → t ≡ u → r ≡ token_said u → r ≡ token_said t
token_said' = by_case token_said

pub channel_item' : (r : Said) (t u : channel-token.Token) → t ≡ u → r ≡ channel_item u → r ≡ channel_item t
channel_item' = by_case channel_item

pub channel_said' : (r : Said) (t u : channel-answer.Answer) → t ≡ u → r ≡ channel_said u → r ≡ channel_said t
channel_said' = by_case channel_said

pub numeric_item' : (r : Said) (t u : numeric-token.Token) → t ≡ u → r ≡ numeric_item u → r ≡ numeric_item t
numeric_item' = by_case numeric_item

pub numeric_said' : (r : Said) (t u : numeric-answer.Answer) → t ≡ u → r ≡ numeric_said u → r ≡ numeric_said t
numeric_said' = by_case numeric_said

pub ruleset token_items = (tt, token_item')

pub ruleset token_answers = (rules, token_said')

pub ruleset channel_items = (tt, channel_item')

pub ruleset channel_answers = (rules, channel_said')

pub ruleset numeric_items = (tt, numeric_item')

pub ruleset numeric_answers = (rules, numeric_said')

-- the states, word by word

module _ (words : List ℕ) (a b : ℕ) (ea : a ≡ get_or words 0 0) (eb : b ≡ get_or words 1 0) where
  pub token_state' : (c : ℕ) → c ≡ get_or words 2 0 → record { place = a; in_header = is_set b; in_common = is_set c } ≡ token_state words
  token_state' c ec = rw (ea, eb, ec)

  pub channel_state' : record { place = a; first = is_set b } ≡ channel_state words
  channel_state' = rw (ea, eb)

  pub numeric_state' : record { place = a; first = is_set b } ≡ numeric_state words
  numeric_state' = rw (ea, eb)

pub ruleset states = (rules, token_state', channel_state', numeric_state')

-- the steps

module _ (words : List ℕ) (o : Outcome ℕ) (a : Said) where
  pub token' : (x : token-step.Step) (c : ℕ) → c ≡ bit x.state.in_common → a ≡ token_said x.answer
      → o ≡ left_in words x.state.place x.state.in_header c a → o ≡ token_left words x
  unfolding token_left
  token' x c ec ea e = e ∙ rw (ec, ea)

  pub channel' : (x : channel-step.Step) → a ≡ channel_said x.answer → o ≡ left_in words x.state.place x.state.first a.dimension a
      → o ≡ channel_left words x
  unfolding channel_left
  channel' x ea e = e ∙ rw ea

  pub numeric' : (x : numeric-step.Step) → a ≡ numeric_said x.answer → o ≡ left_in words x.state.place x.state.first 0 a → o ≡ numeric_left words x
  unfolding numeric_left
  numeric' x ea e = e ∙ rw ea

  module _ (end : ℕ) (x : Option channel-state.State) where
    pub opened' : (st : channel-state.State) → x ≡ Some st → a ≡ plain_of 0 → o ≡ left_in words st.place st.first 0 a → o ≡ opened_left words end x
    unfolding opened_left
    opened' st q ea e = e ∙ rw (ea, q)

    pub not_one' : x ≡ None → a ≡ refused_of InvalidExpression → o ≡ left_in words end true 0 a → o ≡ opened_left words end x
    unfolding opened_left
    not_one' q ea e = e ∙ rw (ea, q)

pub ruleset token_laws = (rules, token')

pub ruleset channel_laws = (rules, channel')

pub ruleset numeric_laws = (rules, numeric')

pub ruleset open_laws = (rules, opened', not_one')
