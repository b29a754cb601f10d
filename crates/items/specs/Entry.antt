-- The tokens of a program message as the data of a unit meet them, IEEE 488.2 7.4.2 and 7.7.
use Rattle.std.specs.Prelude.{ℕ, List}
use Rattle.error.specs.declared.ErrorCode.{ErrorCode}
use Rattle.error.specs.declared.ErrorCode.TheVariants.{SyntaxError}
use Rattle.token.specs.declared.Token.{Token}
use Rattle.token.specs.declared.Token.TheVariants.{HeaderMnemonicSeparator, HeaderQuerySuffix, ProgramMessageUnitSeparator, ProgramHeaderSeparator, ProgramDataSeparator, ProgramMnemonic, CharacterProgramData, DecimalNumericProgramData, DecimalNumericSuffixProgramData, NonDecimalNumericProgramData, StringProgramData, ArbitraryBlockData, ExpressionProgramData}
use Rattle.tokenizer.specs.Step.{step}
use Rattle.tokenizer.specs.declared.Answer.{Answer}
use Rattle.tokenizer.specs.declared.Answer.TheVariants as answer
use Rattle.tokenizer.specs.declared.State.{State}
use Rattle.tokenizer.specs.declared.Step.{Step}

-- What a token is among the data: an item, `,`, the end of the data, which is `;` or the end of the text, or a refusal.
pub data Entry : Type 0 where
  Item : Entry
  Comma : Entry
  End : Entry
  Refused : ErrorCode → Entry

-- what is met, and the state after it
pub record Met : Type 0 where
  pub entry : Entry
  pub state : State

-- What a token is among the data. An item is program data of any form of IEEE 488.2 7.7, a number with a suffix or without; a unit
-- separator (7.4.1) ends the data. What belongs to a header has no place there. After the header separator
-- the token step itself refuses `:` and `?`, and has passed all white space; a mnemonic comes out of it only with a star, and is -102 here.
abbrev pub token_entry : Token → Entry
token_entry (CharacterProgramData v) = Item
token_entry (DecimalNumericProgramData v) = Item
token_entry (DecimalNumericSuffixProgramData v u) = Item
token_entry (NonDecimalNumericProgramData n) = Item
token_entry (StringProgramData v) = Item
token_entry (ArbitraryBlockData v) = Item
token_entry (ExpressionProgramData v) = Item
token_entry ProgramDataSeparator = Comma
token_entry ProgramMessageUnitSeparator = End
token_entry (ProgramMnemonic w) = Refused SyntaxError
token_entry HeaderMnemonicSeparator = Refused SyntaxError
token_entry HeaderQuerySuffix = Refused SyntaxError
token_entry ProgramHeaderSeparator = Refused SyntaxError

-- the end of the text ends the data, and a refusal stays one
abbrev pub entry_of : Answer → Entry
entry_of (answer.Token t) = token_entry t
entry_of answer.End = End
entry_of (answer.Refused e) = Refused e

abbrev pub met_with : Entry → State → Met
met_with x st = record { entry = x; state = st }

-- a step as the data meet it
abbrev pub met_of : Step → Met
met_of x = met_with (entry_of x.answer) x.state

-- what is met from a state on, and the state after that
unfoldable pub met_at : List ℕ → State → Met
met_at s st = met_of (step s st)
