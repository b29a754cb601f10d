-- A worked message, over the tree of the program commandcheck.
use Rattle.std.specs.Prelude.{List, [], ◌∷◌, true, false, ℕ}
use Rattle.kind.specs.Text.{ascii}
use Rattle.record.specs.declared.Record.{Record}
use Rattle.routes.specs.Worked.{nodes, names}
use Rattle.unit.specs.Unit.{record_of}
use Rattle.message.specs.Message.{complete, Message}

abbrev pub example : List ℕ
example = ascii "ROUT:CLOS (@1!2,3!4);OPEN (@5);*IDN?;:VOLT?"

-- Two lists of channels, each one item; the second header starts at ROUTe, where the first left off, and so does the common command,
-- which keeps it; the colon starts at the root, and SENSe holds the node spoken last.
abbrev pub records : List Record
records = record_of 3 false 2 1 ∷ record_of 4 false 2 1 ∷ record_of 1 true 2 0 ∷ record_of 6 true 3 0 ∷ []

pub record Worked : Type 0 where
  pub message : Message nodes names 0 example records complete
