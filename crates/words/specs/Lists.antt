-- The words of a step of a channel list or of a numeric list: the place, whether no item has been read yet, the dimension, and the item.
use Rattle.std.specs.Prelude.{ℕ, List, true, get_or, Option, Some, None}
use Rattle.error.specs.declared.ErrorCode.TheVariants.{InvalidExpression}
use Rattle.token.specs.View.{view_of}
use Rattle.channel_list.specs.declared.State as channel-state
use Rattle.channel_list.specs.declared.Token as channel-token
use Rattle.channel_list.specs.declared.Token.TheVariants.{ChannelSpec, ChannelRange, PathName}
use Rattle.channel_list.specs.declared.Answer as channel-answer
use Rattle.channel_list.specs.declared.Answer.TheVariants as channel_answers
use Rattle.channel_list.specs.declared.Step as channel-step
use Rattle.numeric_list.specs.declared.State as numeric-state
use Rattle.numeric_list.specs.declared.Token as numeric-token
use Rattle.numeric_list.specs.declared.Token.TheVariants.{Numeric, NumericRange}
use Rattle.numeric_list.specs.declared.Answer as numeric-answer
use Rattle.numeric_list.specs.declared.Answer.TheVariants as numeric_answers
use Rattle.numeric_list.specs.declared.Step as numeric-step
use Rattle.words.specs.Outcome.{Outcome}
use Rattle.words.specs.Words.{is_set, plain_of, one_of, two_of, refused_of, left_in}
use Rattle.words.specs.declared.Said.{Said}

-- the state that a step begins with; a word that is not there is 0
abbrev pub channel_state : List ℕ → channel-state.State
channel_state words = record { place = get_or words 0 0; first = is_set (get_or words 1 0) }

abbrev pub numeric_state : List ℕ → numeric-state.State
numeric_state words = record { place = get_or words 0 0; first = is_set (get_or words 1 0) }

-- the front of a channel list; a text that is none is -171, and the place is its end, which is handed over
unfoldable pub opened_left : List ℕ → ℕ → Option channel-state.State → Outcome ℕ
opened_left words end (Some st) = left_in words st.place st.first 0 (plain_of 0)
opened_left words end None = left_in words end true 0 (refused_of InvalidExpression)

-- the kinds of items of a channel list, with the dimension of a spec, or of a range, whose ends have one dimension
abbrev pub channel_item : channel-token.Token → Said
channel_item (ChannelSpec c) = two_of 1 c.dimension c.view (view_of 0 0)
channel_item (ChannelRange c d) = two_of 2 c.dimension c.view d.view
channel_item (PathName v) = one_of 3 v

-- the end has the kind 0
abbrev pub channel_said : channel-answer.Answer → Said
channel_said (channel_answers.Token t) = channel_item t
channel_said channel_answers.End = plain_of 0
channel_said (channel_answers.Refused e) = refused_of e

-- what a step of a channel list leaves in the words
unfoldable pub channel_left : List ℕ → channel-step.Step → Outcome ℕ
channel_left words x = left_in words x.state.place x.state.first (channel_said x.answer).dimension (channel_said x.answer)

-- the kinds of items of a numeric list
abbrev pub numeric_item : numeric-token.Token → Said
numeric_item (Numeric v) = one_of 1 v
numeric_item (NumericRange v u) = two_of 2 0 v u

-- the end has the kind 0
abbrev pub numeric_said : numeric-answer.Answer → Said
numeric_said (numeric_answers.Token t) = numeric_item t
numeric_said numeric_answers.End = plain_of 0
numeric_said (numeric_answers.Refused e) = refused_of e

-- what a step of a numeric list leaves in the words
unfoldable pub numeric_left : List ℕ → numeric-step.Step → Outcome ℕ
numeric_left words x = left_in words x.state.place x.state.first 0 (numeric_said x.answer)
