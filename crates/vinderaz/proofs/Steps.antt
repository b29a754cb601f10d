-- Laws of the steps over words, as the code meets them.
use Rattle.std.specs.Prelude.{Option, Some, None}
use Prim.Native.Nat.{ℕ, ◌<◌}
use mathlib.Core.Path.{◌≡◌, ◌∙◌}
use mathlib.Core.List.{List}
use lib.IntN.{ℤ}
use lib.ListN.{length}
use borrow.Author.Rules.{rules}
use Rattle.error.specs.{Code.code_of, declared.ErrorCode.TheVariants.NoSlotLeft}
use Rattle.tokenizer.specs.Step as tokens
use Rattle.tokenizer.specs.declared.State as token-state
use Rattle.tokenizer.specs.declared.Step as token-step
use Rattle.channel_list.specs.List as channels
use Rattle.channel_list.specs.declared.State as channel-state
use Rattle.channel_list.specs.declared.Step as channel-step
use Rattle.numeric_list.specs.List as numbers
use Rattle.numeric_list.specs.declared.State as numeric-state
use Rattle.numeric_list.specs.declared.Step as numeric-step
use Rattle.words.specs.{Outcome.Outcome, Token.token_state, Token.token_left}
use Rattle.words.proofs.Words.{no_room'}
use Rattle.words.specs.Lists.{opened_left, channel_state, channel_left, numeric_state, numeric_left}

module _ (s words : List ℕ) (o : Outcome ℕ) where
  pub token' : (st : token-state.State) (x : token-step.Step) → st ≡ token_state words → x ≡ tokens.step s st → o ≡ token_left words x
      → o ≡ token_left words (tokens.step s (token_state words))
  token' st x es ex e = e ∙ rw (ex, es)

  pub open' : (x : Option channel-state.State) → x ≡ channels.opened s → o ≡ opened_left words (length s) x → o ≡ opened_left words (length s) (channels.opened s)
  open' x ex e = e ∙ rw ex

  pub channel' : (st : channel-state.State) (x : channel-step.Step) → st ≡ channel_state words → x ≡ channels.step s st → o ≡ channel_left words x
      → o ≡ channel_left words (channels.step s (channel_state words))
  channel' st x es ex e = e ∙ rw (ex, es)

  pub numeric' : (st : numeric-state.State) (x : numeric-step.Step) → st ≡ numeric_state words → x ≡ numbers.step s st → o ≡ numeric_left words x
      → o ≡ numeric_left words (numbers.step s (numeric_state words))
  numeric' st x es ex e = e ∙ rw (ex, es)

-- too few words

module _ (words : List ℕ) (n : ℤ) (h : length words < 8) (en : n ≡ code_of NoSlotLeft) where
  pub no_token' : (x : token-step.Step) → record { code = n; words = words } ≡ token_left words x
  unfolding token_left
  no_token' x = no_room' words _ _ _ _ n h en

  pub no_channel' : (x : channel-step.Step) → record { code = n; words = words } ≡ channel_left words x
  unfolding channel_left
  no_channel' x = no_room' words _ _ _ _ n h en

  pub no_number' : (x : numeric-step.Step) → record { code = n; words = words } ≡ numeric_left words x
  unfolding numeric_left
  no_number' x = no_room' words _ _ _ _ n h en

  pub no_list' : (end : ℕ) (x : Option channel-state.State) → record { code = n; words = words } ≡ opened_left words end x
  unfolding opened_left
  no_list' end (Some st) = no_room' words _ _ _ _ n h en
  no_list' end None = no_room' words _ _ _ _ n h en

pub ruleset token_laws = (rules, no_token', token')

pub ruleset open_laws = (rules, no_list', open')

pub ruleset channel_laws = (rules, no_channel', channel')

pub ruleset numeric_laws = (rules, no_number', numeric')
