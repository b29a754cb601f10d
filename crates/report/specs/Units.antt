-- The answers of the message walk as text.
use Rattle.std.specs.Prelude.{ℕ, Bool, true, false, List, ◌++◌}
use Rattle.error.specs.Code.{code_of}
use Rattle.error.specs.declared.ErrorCode.{ErrorCode}
use Rattle.kind.specs.Text.{ascii}
use Rattle.record.specs.declared.Record.{Record}
use Rattle.report.specs.Number.{decimal, signed}
use Rattle.report.specs.declared.unit_text.Told.{Told}
use Rattle.report.specs.declared.unit_text.Told.TheVariants as told

-- two numbers with a blank between them
unfoldable pub pair_text : ℕ → ℕ → List ℕ
pair_text a b = decimal a ++ ascii " " ++ decimal b

unfoldable pub form_text : Bool → List ℕ
form_text true = ascii " query "
form_text false = ascii " event "

-- a unit: its number in the message, command, form, items and the branch kept
unfoldable pub unit_text : ℕ → Record → List ℕ
unit_text n u = pair_text n u.command ++ form_text u.query ++ pair_text u.items u.branch ++ ascii "\n"

-- the unit that is refused: its number in the message, and that of the refusal
unfoldable pub stop_text : ℕ → ErrorCode → List ℕ
stop_text n e = decimal n ++ ascii " refused " ++ signed (code_of e) ++ ascii "\n"

-- the end of a message, with the number of its units
unfoldable pub total_text : ℕ → List ℕ
total_text n = ascii "end " ++ decimal n ++ ascii "\n"

-- a line of the answer
abbrev pub line_text : Told → List ℕ
line_text (told.Unit n u) = unit_text n u
line_text (told.Refused n e) = stop_text n e
line_text (told.End n) = total_text n
