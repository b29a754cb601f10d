-- The tokens of a program message as a header meets them, IEEE 488.2 7.6.
use Rattle.std.specs.Prelude.{ℕ, List}
use Rattle.error.specs.declared.ErrorCode.TheVariants.{SyntaxError}
use Rattle.token.specs.declared.Token.{Token}
use Rattle.token.specs.declared.Token.TheVariants.{HeaderMnemonicSeparator, HeaderQuerySuffix, ProgramMessageUnitSeparator, ProgramHeaderSeparator, ProgramDataSeparator, ProgramMnemonic, CharacterProgramData, DecimalNumericProgramData, DecimalNumericSuffixProgramData, NonDecimalNumericProgramData, StringProgramData, ArbitraryBlockData, ExpressionProgramData}
use Rattle.tokenizer.specs.Step.{step}
use Rattle.tokenizer.specs.declared.Answer.{Answer}
use Rattle.tokenizer.specs.declared.Answer.TheVariants as answer
use Rattle.tokenizer.specs.declared.State.{State}
use Rattle.tokenizer.specs.declared.Step.{Step}
use Rattle.ahead.specs.declared.Stop.TheVariants as stop
use Rattle.ahead.specs.declared.Ahead.{Ahead}
use Rattle.ahead.specs.declared.Ahead.TheVariants as ahead
use Rattle.ahead.specs.declared.Seen.{Seen}

-- What a token is to a header. Data and a comma have no place there, and are -102; of these only an expression comes out of the token
-- step in a header.
abbrev pub token_ahead : Token → Ahead
token_ahead (ProgramMnemonic w) = ahead.Word w
token_ahead HeaderMnemonicSeparator = ahead.Colon
token_ahead HeaderQuerySuffix = ahead.Query
token_ahead ProgramHeaderSeparator = ahead.Stop stop.Separator
token_ahead ProgramMessageUnitSeparator = ahead.Stop stop.Unit
token_ahead ProgramDataSeparator = ahead.Refused SyntaxError
token_ahead (CharacterProgramData v) = ahead.Refused SyntaxError
token_ahead (DecimalNumericProgramData v) = ahead.Refused SyntaxError
token_ahead (DecimalNumericSuffixProgramData v u) = ahead.Refused SyntaxError
token_ahead (NonDecimalNumericProgramData n) = ahead.Refused SyntaxError
token_ahead (StringProgramData v) = ahead.Refused SyntaxError
token_ahead (ArbitraryBlockData v) = ahead.Refused SyntaxError
token_ahead (ExpressionProgramData v) = ahead.Refused SyntaxError

-- the end of the text ends a header, and a refusal stays one
abbrev pub ahead_of : Answer → Ahead
ahead_of (answer.Token t) = token_ahead t
ahead_of answer.End = ahead.Stop stop.Text
ahead_of (answer.Refused e) = ahead.Refused e

abbrev pub seen_with : Ahead → State → Seen
seen_with a st = record { ahead = a; state = st }

-- a step as a header sees it
abbrev pub seen_of : Step → Seen
seen_of x = seen_with (ahead_of x.answer) x.state

-- what is ahead from a state on, and the state behind that
unfoldable pub seen_at : List ℕ → State → Seen
seen_at s st = seen_of (step s st)
