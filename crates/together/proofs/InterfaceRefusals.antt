-- What a refused step leaves in the words.
use Prim.Native.Nat.{ℕ, ◌≤◌}
use mathlib.Core.Path.{◌≡◌, refl, ap, ◌∙◌}
use mathlib.Core.List.{List, ◌∷◌}
use mathlib.Core.Bool.{Bool, true, false}
use native.Mathlib.Omega.{arith}
use native.Mathlib.Nat.{le_refl}
use lib.IntN.{pos}
use lib.ListN.{length, drop}
use borrow.Author.Tests.{le-leb}
use Rattle.error.specs.{Code.code_of, declared.ErrorCode.ErrorCode}
use Rattle.record.specs.Word.{bit}
use Rattle.tokenizer.specs.Step as tokens
use Rattle.tokenizer.specs.declared.Step as token-step
use Rattle.tokenizer.specs.declared.State as token-state
use Rattle.tokenizer.specs.declared.Answer.TheVariants as token-answer
use Rattle.tokens.proofs.StepClaims as token-claims
use Rattle.channel_list.specs.List as channels
use Rattle.channel_list.specs.declared.Step as channel-step
use Rattle.channel_list.specs.declared.State as channel-state
use Rattle.channel_list.specs.declared.Answer.TheVariants as channel-answer
use Rattle.lists.proofs.ChannelClaims as channel-claims
use Rattle.numeric_list.specs.List as numbers
use Rattle.numeric_list.specs.declared.Step as numeric-step
use Rattle.numeric_list.specs.declared.State as numeric-state
use Rattle.numeric_list.specs.declared.Answer.TheVariants as numeric-answer
use Rattle.lists.proofs.NumericClaims as numeric-claims
use Rattle.words.specs.Outcome.{Outcome}
use Rattle.words.specs.Words.{is_set, plain_of, refused_of, left_in}
use Rattle.words.specs.Token.{token_state, token_said, token_left}
use Rattle.words.specs.Lists.{channel_state, channel_said, channel_left, numeric_state, numeric_said, numeric_left}
use Rattle.vinderaz.specs.Steps.{token_step, channel_step, numeric_step}
use Rattle.together.specs.InterfaceClaims.{end_of, Refusal}

-- a flag that was written is read again
set_again : (b : Bool) → is_set (bit b) ≡ b
set_again true = refl
set_again false = refl

-- what is left in eight words or more
in_room : (words : List ℕ) (place : ℕ) (second : Bool) (third : ℕ) (e : ErrorCode) → 8 ≤ length words
    → left_in words place second third (refused_of e) ≡ end_of (code_of e) place (bit second) third words
unfolding left_in
in_room words place second third e h = rw (le-leb 8 (length words) h)

-- the end, in the words of a refusal
at_end : (words : List ℕ) (place : ℕ) (second : Bool) (third : ℕ) (e : ErrorCode)
    → left_in (end_of (code_of e) place (bit second) third words).words place second third (plain_of 0)
    ≡ record { code = pos 0; words = (end_of (code_of e) place (bit second) third words).words }
unfolding left_in
at_end words place second third e = rw (le-leb 8 (length (end_of (code_of e) place (bit second) third words).words) (omega arith))

module _ (s words : List ℕ) (e : ErrorCode) (h : 8 ≤ length words) where
  pub token_refusal : (tokens.step s (token_state words)).answer ≡ token-answer.Refused e
      → Refusal (token_step s) words (end_of (code_of e) (length s) (bit (token_state words).in_header) (bit (token_state words).in_common) words)
  unfolding token_left
  token_refusal q =
      record {
        leaves =
            rw ((token-claims.claims).refusal_state s (token_state words) e q, ap token_said q)
            (in_room words (length s) (token_state words).in_header (bit (token_state words).in_common) e h);
        behind =
            rw (
              set_again (token_state words).in_header,
              set_again (token_state words).in_common,
              (token-claims.claims).rests s (tokens.state_of (length s) (token_state words).in_header (token_state words).in_common) (le_refl (length s)),
            )
            (at_end words (length s) (token_state words).in_header (bit (token_state words).in_common) e);
      }

  pub channel_refusal : (channels.step s (channel_state words)).answer ≡ channel-answer.Refused e
      → Refusal (channel_step s) words (end_of (code_of e) (length s) (bit (channel_state words).first) 0 words)
  unfolding channel_left
  channel_refusal q =
      record {
        leaves = rw ((channel-claims.claims).refusal_state s (channel_state words) e q, ap channel_said q) (in_room words (length s) (channel_state words).first 0 e h);
        behind =
            rw (set_again (channel_state words).first, (channel-claims.claims).rests s (channels.state_of (length s) (channel_state words).first) (le_refl (length s)))
            (at_end words (length s) (channel_state words).first 0 e);
      }

  pub numeric_refusal : (numbers.step s (numeric_state words)).answer ≡ numeric-answer.Refused e
      → Refusal (numeric_step s) words (end_of (code_of e) (length s) (bit (numeric_state words).first) 0 words)
  unfolding numeric_left
  numeric_refusal q =
      record {
        leaves = rw ((numeric-claims.claims).refusal_state s (numeric_state words) e q, ap numeric_said q) (in_room words (length s) (numeric_state words).first 0 e h);
        behind =
            rw (set_again (numeric_state words).first, (numeric-claims.claims).rests s (numbers.state_of (length s) (numeric_state words).first) (le_refl (length s)))
            (at_end words (length s) (numeric_state words).first 0 e);
      }
