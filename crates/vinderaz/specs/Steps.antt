-- What a step over words leaves: it begins with the state that is in the words, and leaves there its answer.
use Rattle.std.specs.Prelude.{ℕ, List, length}
use Rattle.tokenizer.specs.Step as tokens
use Rattle.channel_list.specs.List as channels
use Rattle.numeric_list.specs.List as numbers
use Rattle.words.specs.Outcome.{Outcome}
use Rattle.words.specs.Token.{token_state, token_left}
use Rattle.words.specs.Lists.{opened_left, channel_state, channel_left, numeric_state, numeric_left}

-- the next token of a text
abbrev pub token_step : List ℕ → List ℕ → Outcome ℕ
token_step s words = token_left words (tokens.step s (token_state words))

-- the front of a channel list
abbrev pub open_step : List ℕ → List ℕ → Outcome ℕ
open_step s words = opened_left words (length s) (channels.opened s)

-- the next item of a channel list
abbrev pub channel_step : List ℕ → List ℕ → Outcome ℕ
channel_step s words = channel_left words (channels.step s (channel_state words))

-- the next item of a numeric list
abbrev pub numeric_step : List ℕ → List ℕ → Outcome ℕ
numeric_step s words = numeric_left words (numbers.step s (numeric_state words))
