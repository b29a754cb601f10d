-- The answers of the token step as text.
use Rattle.std.specs.Prelude.{ℕ, Bool, true, false, List, ◌++◌}
use Rattle.error.specs.Code.{code_of}
use Rattle.error.specs.declared.ErrorCode.{ErrorCode}
use Rattle.kind.specs.Text.{ascii}
use Rattle.token.specs.declared.View.{View}
use Rattle.token.specs.declared.Token.{Token}
use Rattle.token.specs.declared.Token.TheVariants.{HeaderMnemonicSeparator, HeaderQuerySuffix, ProgramMessageUnitSeparator, ProgramHeaderSeparator, ProgramDataSeparator, ProgramMnemonic, CharacterProgramData, DecimalNumericProgramData, DecimalNumericSuffixProgramData, NonDecimalNumericProgramData, StringProgramData, ArbitraryBlockData, ExpressionProgramData}
use Rattle.tokenizer.specs.declared.State.{State}
use Rattle.tokenizer.specs.declared.Step.{Step}
use Rattle.tokenizer.specs.declared.Answer.{Answer}
use Rattle.tokenizer.specs.declared.Answer.TheVariants as answer
use Rattle.report.specs.Number.{decimal, signed}

-- `start..end`
unfoldable pub view_text : View → List ℕ
view_text v = decimal v.start ++ ascii ".." ++ decimal v.end

-- the word of a kind, with the views or the value of the token
abbrev pub token_text : Token → List ℕ
token_text HeaderMnemonicSeparator = ascii "colon"
token_text HeaderQuerySuffix = ascii "query"
token_text ProgramMessageUnitSeparator = ascii "unitsep"
token_text ProgramHeaderSeparator = ascii "headersep"
token_text ProgramDataSeparator = ascii "comma"
token_text (ProgramMnemonic v) = ascii "mnemonic " ++ view_text v
token_text (CharacterProgramData v) = ascii "chars " ++ view_text v
token_text (DecimalNumericProgramData v) = ascii "number " ++ view_text v
token_text (DecimalNumericSuffixProgramData v u) = ascii "suffixed " ++ view_text v ++ ascii " " ++ view_text u
token_text (NonDecimalNumericProgramData n) = ascii "radix " ++ decimal n
token_text (StringProgramData v) = ascii "string " ++ view_text v
token_text (ArbitraryBlockData v) = ascii "block " ++ view_text v
token_text (ExpressionProgramData v) = ascii "expr " ++ view_text v

-- ` @place`
unfoldable pub place_text : ℕ → List ℕ
place_text place = ascii " @" ++ decimal place

-- `h` in a header, `hc` in that of a common command, `d` elsewhere: there nothing tells whether the command is common
unfoldable pub flags_text : Bool → Bool → List ℕ
flags_text true true = ascii " hc"
flags_text true false = ascii " h"
flags_text false common = ascii " d"

-- a token and the state behind it; another part follows
unfoldable pub taken_text : Token → State → List ℕ
taken_text t s = token_text t ++ place_text s.place ++ flags_text s.in_header s.in_common ++ ascii " | "

-- the end of a text, and of the line
unfoldable pub end_text : ℕ → List ℕ
end_text place = ascii "end" ++ place_text place ++ ascii "\n"

-- a refusal by its number, which ends the line too
unfoldable pub refused_text : ErrorCode → List ℕ
refused_text e = ascii "refused " ++ signed (code_of e) ++ ascii "\n"

-- what an answer says, with the state behind it
abbrev pub answer_text : Answer → State → List ℕ
answer_text (answer.Token t) s = taken_text t s
answer_text answer.End s = end_text s.place
answer_text (answer.Refused e) s = refused_text e

-- A step's part of the line. The line of a text is the parts of its steps, up to the end or a refusal.
abbrev pub part_text : Step → List ℕ
part_text s = answer_text s.answer s.state
