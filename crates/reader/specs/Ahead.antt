-- What a reader of a message answers next, and where it stands then: the plain token step, of the message that it holds.
use Rattle.std.specs.Prelude.{ℕ, List}
use Rattle.std.specs.Borrow.{Bor}
use Rattle.tokenizer.specs.Step.{step}
use Rattle.tokenizer.specs.declared.State.{State}
use Rattle.tokenizer.specs.declared.Step.{Step}
use Rattle.reader.specs.declared.Reader.{Reader}

-- a message, and where its next step begins
abbrev pub reader_of : Bor (List ℕ) → State → Reader
reader_of message st = record { message = message; state = st }

-- the step that lies ahead of a reader
abbrev pub ahead : Reader → Step
ahead r = step r.message.now r.state

-- the reader behind that step
abbrev pub behind : Reader → Reader
behind r = reader_of r.message (ahead r).state
