-- The answers about tables, headers and messages as numbers and words.
use Rattle.std.specs.Prelude.{ℕ, List, [], ◌∷◌, Bool, ℤ, pos, Result, Ok, Err}
use Rattle.error.specs.Code.{code_of}
use Rattle.error.specs.declared.ErrorCode.TheVariants.{NoSlotLeft}
use Rattle.record.specs.Word.{word_of}
use Rattle.words.specs.Outcome.{Outcome}
use Rattle.error.specs.declared.ErrorCode.{ErrorCode}
use Rattle.tree.specs.declared.Resolved.{Resolved}
use Rattle.message.specs.declared.Stopped.{Stopped}

-- 0 for an accepted table, and else the number of its fault
abbrev pub checked_code : Result Unit ErrorCode → ℤ
checked_code (Ok tt) = pos 0
checked_code (Err e) = code_of e

-- the word of a header is that of a unit without items
abbrev pub header_word : ℕ → Bool → ℕ → ℕ
header_word c query kept = word_of (record { command = c; query = query; branch = kept; items = 0 })

-- The word of a header goes to the first slot, and the other slots stay. Where there is no slot the number is 8, and a refusal, which comes
-- before that, writes nothing.
unfoldable pub resolved_in : List ℕ → Result Resolved ErrorCode → Outcome ℕ
resolved_in slots (Err e) = record { code = code_of e; words = slots }
resolved_in [] (Ok h) = record { code = code_of NoSlotLeft; words = [] }
resolved_in (x ∷ slots) (Ok h) = record { code = pos 0; words = header_word h.command h.query h.branch ∷ slots }

-- How many units were written goes to the first word, whether the message is refused or not, and the other words stay. Where there is no
-- word the number is 8.
unfoldable pub walked_in : List ℕ → Result ℕ Stopped → Outcome ℕ
walked_in [] w = record { code = code_of NoSlotLeft; words = [] }
walked_in (x ∷ units) (Ok n) = record { code = pos 0; words = n ∷ units }
walked_in (x ∷ units) (Err h) = record { code = code_of h.error; words = h.units ∷ units }
