-- What is proved of the functions for C, besides their promises. The proofs are in proofs/InterfaceClaims.
use Rattle.std.specs.Prelude.{ℕ, ◌≤◌, ◌≡◌, ◌↔◌, List, ◌∷◌, ℤ, pos, length, drop}
use Rattle.error.specs.Code.{code_of}
use Rattle.error.specs.declared.ErrorCode.{ErrorCode}
use Rattle.record.specs.Word.{bit}
use Rattle.table.specs.Fault.{Accepted}
use Rattle.tree.specs.Alone.{Resolves, ResolvesAlone}
use Rattle.message.specs.Message.{Message, CheckedMessage}
use Rattle.tokenizer.specs.Step as tokens
use Rattle.tokenizer.specs.declared.Answer.TheVariants as token-answer
use Rattle.channel_list.specs.List as channels
use Rattle.channel_list.specs.declared.Answer.TheVariants as channel-answer
use Rattle.numeric_list.specs.List as numbers
use Rattle.numeric_list.specs.declared.Answer.TheVariants as numeric-answer
use Rattle.words.specs.Outcome.{Outcome}
use Rattle.words.specs.Token.{token_state}
use Rattle.words.specs.Lists.{channel_state, numeric_state}
use Rattle.vinderaz.specs.Tree.{Checks, Resolving, Walking}
use Rattle.vinderaz.specs.Steps.{token_step, channel_step, numeric_step}

-- a number, three words of state, the kind of the end, no views, and the words behind
abbrev pub end_of : ℤ → ℕ → ℕ → ℕ → List ℕ → Outcome ℕ
end_of code place second third words = record { code = code; words = place ∷ second ∷ third ∷ 0 ∷ 0 ∷ 0 ∷ 0 ∷ 0 ∷ drop 8 words }

-- A refused step leaves this, and a step from there on finds the end and changes nothing.
pub record Refusal (next : List ℕ → Outcome ℕ) (words : List ℕ) (left : Outcome ℕ) : Type 0 where
  pub leaves : next words ≡ left
  pub behind : next left.words ≡ record { code = pos 0; words = left.words }

pub record Claims : Type 0 where
  -- one number is returned for a table
  pub one_check : (t names : List ℕ) (r q : ℤ) → Checks t names r → Checks t names q → r ≡ q
  -- which is 0 for an accepted table, and for no other
  pub accepted : (t names : List ℕ) → Checks t names (pos 0) ↔ Accepted t names
  -- one number is returned for a header, and the slots are left in one way
  pub one_resolving : (t names : List ℕ) (b : ℕ) (s slots : List ℕ) (r q : ℤ) (after later : List ℕ)
      → Resolving (ResolvesAlone t names b s) slots r after → Resolving (ResolvesAlone t names b s) slots q later → (r ≡ q) × (after ≡ later)
  pub one_unchecked : (t names : List ℕ) (b : ℕ) (s slots : List ℕ) (r q : ℤ) (after later : List ℕ)
      → Resolving (Resolves t names b s) slots r after → Resolving (Resolves t names b s) slots q later → (r ≡ q) × (after ≡ later)
  -- and without the check they are the same in an accepted table
  pub unchecked : (t names : List ℕ) (b : ℕ) (s slots : List ℕ) (r q : ℤ) (after later : List ℕ) → Accepted t names
      → Resolving (ResolvesAlone t names b s) slots r after → Resolving (Resolves t names b s) slots q later → (r ≡ q) × (after ≡ later)
  -- one number is returned for a message, and the slots and the units are left in one way
  pub one_walking : (t names : List ℕ) (b : ℕ) (s slots units : List ℕ) (r q : ℤ) (after later units' units'' : List ℕ)
      → Walking (CheckedMessage t names b s) slots units r after units' → Walking (CheckedMessage t names b s) slots units q later units''
      → (r ≡ q) × (after ≡ later) × (units' ≡ units'')
  pub one_unchecked_walking : (t names : List ℕ) (b : ℕ) (s slots units : List ℕ) (r q : ℤ) (after later units' units'' : List ℕ)
      → Walking (Message t names b s) slots units r after units' → Walking (Message t names b s) slots units q later units''
      → (r ≡ q) × (after ≡ later) × (units' ≡ units'')
  -- and without the check they are the same in an accepted table
  pub unchecked_walking : (t names : List ℕ) (b : ℕ) (s slots units : List ℕ) (r q : ℤ) (after later units' units'' : List ℕ) → Accepted t names
      → Walking (CheckedMessage t names b s) slots units r after units' → Walking (Message t names b s) slots units q later units''
      → (r ≡ q) × (after ≡ later) × (units' ≡ units'')
  -- a refused token step leaves the place at the end of the text and the flags as they were
  pub token_refusal : (s words : List ℕ) (e : ErrorCode) → 8 ≤ length words → (tokens.step s (token_state words)).answer ≡ token-answer.Refused e
      → Refusal (token_step s) words (end_of (code_of e) (length s) (bit (token_state words).in_header) (bit (token_state words).in_common) words)
  -- and so does a refused step of a list
  pub channel_refusal : (s words : List ℕ) (e : ErrorCode) → 8 ≤ length words → (channels.step s (channel_state words)).answer ≡ channel-answer.Refused e
      → Refusal (channel_step s) words (end_of (code_of e) (length s) (bit (channel_state words).first) 0 words)
  pub numeric_refusal : (s words : List ℕ) (e : ErrorCode) → 8 ≤ length words → (numbers.step s (numeric_state words)).answer ≡ numeric-answer.Refused e
      → Refusal (numeric_step s) words (end_of (code_of e) (length s) (bit (numeric_state words).first) 0 words)
