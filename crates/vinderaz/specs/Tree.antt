-- What C is answered about tables, headers and messages.
use Rattle.std.specs.Prelude.{ℕ, ◌≡◌, List, [], ◌∷◌, ℤ, Result}
use Rattle.error.specs.Code.{code_of}
use Rattle.error.specs.declared.ErrorCode.TheVariants.{NoSlotLeft}
use Rattle.table.specs.Fault.{Verdict}
use Rattle.record.specs.declared.Record.{Record}
use Rattle.message.specs.Message.{Ending, Walks}
use Rattle.words.specs.Outcome.{Outcome}
use Rattle.unit_words.specs.Answers.{checked_code, resolved_in, walked_in}
use Rattle.error.specs.declared.ErrorCode.{ErrorCode}
use Rattle.tree.specs.declared.Resolved.{Resolved}
use Rattle.message.specs.declared.Stopped.{Stopped}

-- The check of a table returns r: the number of what the check says of it.
pub record Checks (t names : List ℕ) (r : ℤ) : Type 0 where
  pub says : Result Unit ErrorCode
  pub verdict : Verdict t names says
  pub code : r ≡ checked_code says

-- Resolution returns r and leaves the slots `after`, where R says what the header is answered.
pub record Resolving (R : Result Resolved ErrorCode → Type 0) (slots : List ℕ) (r : ℤ) (after : List ℕ) : Type 0 where
  pub says : Result Resolved ErrorCode
  pub answer : R says
  pub outcome : record { code = r; words = after } ≡ resolved_in slots says

-- A walk over slots and units returns r and leaves them so, where M says which units and which ending the message has.
pub data Walking (M : List Record → Ending → Type 0) (slots : List ℕ) : List ℕ → ℤ → List ℕ → List ℕ → Type 0 where
  -- there is no word for the number of units: 8, and nothing is written
  no_word : Walking M slots [] (code_of NoSlotLeft) slots []
  -- the walk, and how many units it wrote
  walks : {x : ℕ} {units : List ℕ} {w : Result ℕ Stopped} {r : ℤ} {after later : List ℕ} → Walks M slots w after
      → record { code = r; words = later } ≡ walked_in (x ∷ units) w → Walking M slots (x ∷ units) r after later
