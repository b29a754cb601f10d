-- Resolution alone: a text that is one header and nothing else but a newline at its end, IEEE 488.2 7.5.
use Rattle.std.specs.Prelude.{ℕ, ◌≤◌, ◌<◌, ◌≡◌, List, Bool, true, false, length, Result, Ok, Err}
use Rattle.error.specs.declared.ErrorCode.{ErrorCode}
use Rattle.error.specs.declared.ErrorCode.TheVariants as refusal
use Rattle.node.specs.Tree.{branch}
use Rattle.table.specs.Fault.{Accepted, Verdict}
use Rattle.tokenizer.specs.Step.{of_message}
use Rattle.ahead.specs.Seen.{seen_at}
use Rattle.header.specs.Header.{Begins}
use Rattle.ahead.specs.declared.Stop.{Stop}
use Rattle.ahead.specs.declared.Stop.TheVariants as stop
use Rattle.header.specs.declared.Header.{Header}
use Rattle.tree.specs.declared.Resolved.{Resolved}

-- behind the header the text ends; white space or a unit separator there is -102
abbrev pub alone_with : ℕ → Bool → ℕ → Stop → Result Resolved ErrorCode
alone_with c query kept stop.Text = Ok (record { command = c; query = query; branch = kept })
alone_with c query kept stop.Separator = Err refusal.SyntaxError
alone_with c query kept stop.Unit = Err refusal.SyntaxError

-- the answer for a text whose header was answered so
abbrev pub closing : Result Header ErrorCode → Result Resolved ErrorCode
closing (Ok h) = alone_with h.command h.query h.branch h.stop
closing (Err e) = Err e

-- the most bytes that a message may have
abbrev pub longest_message : ℕ
longest_message = 65535

-- The answer for the text s from the branch b of a table that is not checked.
pub data Resolves (t names : List ℕ) (b : ℕ) (s : List ℕ) : Result Resolved ErrorCode → Type 0 where
  -- 7: the start is no branch
  no_branch : branch t b ≡ false → Resolves t names b s (Err refusal.StartIsNoBranch)
  -- 9: the text is longer than a message may be
  too_long : branch t b ≡ true → longest_message < length s → Resolves t names b s (Err refusal.MessageTooLong)
  -- then the text itself
  one_header : {r : Result Header ErrorCode} → branch t b ≡ true → length s ≤ longest_message → Begins t names s b (seen_at s of_message) r → Resolves t names b s (closing r)

-- The answer where the table is checked first: its smallest fault, 1 to 6, before all else.
pub data ResolvesAlone (t names : List ℕ) (b : ℕ) (s : List ℕ) : Result Resolved ErrorCode → Type 0 where
  fault : {e : ErrorCode} → Verdict t names (Err e) → ResolvesAlone t names b s (Err e)
  sound : {r : Result Resolved ErrorCode} → Accepted t names → Resolves t names b s r → ResolvesAlone t names b s r
