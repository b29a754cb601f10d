-- What is proved of a reader, besides the promises of the functions. The proofs are in proofs/ReaderClaims.
use Rattle.std.specs.Prelude.{ℕ, ◌≡◌, length}
use Rattle.error.specs.declared.ErrorCode.{ErrorCode}
use Rattle.util.specs.Walk.{after}
use Rattle.tokenizer.specs.Step.{step}
use Rattle.tokens.specs.StepClaims.{state_behind}
use Rattle.tokenizer.specs.declared.Answer.TheVariants.{Refused, End}
use Rattle.reader.specs.Ahead.{ahead, behind}
use Rattle.reader.specs.declared.Reader.{Reader}

pub record Claims : Type 0 where
  -- after any number of steps of a reader, the next one is the plain step after as many plain steps
  pub as_plain : (r : Reader) (n : ℕ) → ahead (after behind n r) ≡ step r.message.now (after (state_behind r.message.now) n r.state)
  -- behind a refusal the answer is End
  pub after_refusal : (r : Reader) (e : ErrorCode) → (ahead r).answer ≡ Refused e → (ahead (behind r)).answer ≡ End
  -- a message of n bytes gives n tokens and refusals at most, and then End
  pub at_most : (r : Reader) → (ahead (after behind (length r.message.now) r)).answer ≡ End
