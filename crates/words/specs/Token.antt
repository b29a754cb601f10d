-- The words of a token step: the place, whether it is in a header, whether in a common command, and the token.
use Rattle.std.specs.Prelude.{ℕ, List, pos, get_or}
use Rattle.record.specs.Word.{bit}
use Rattle.token.specs.declared.Token.{Token}
use Rattle.token.specs.declared.Token.TheVariants.{HeaderMnemonicSeparator, HeaderQuerySuffix, ProgramMessageUnitSeparator, ProgramHeaderSeparator, ProgramDataSeparator, ProgramMnemonic, CharacterProgramData, DecimalNumericProgramData, DecimalNumericSuffixProgramData, NonDecimalNumericProgramData, StringProgramData, ArbitraryBlockData, ExpressionProgramData}
use Rattle.tokenizer.specs.declared.State.{State}
use Rattle.tokenizer.specs.declared.Step.{Step}
use Rattle.tokenizer.specs.declared.Answer.{Answer}
use Rattle.tokenizer.specs.declared.Answer.TheVariants as answer
use Rattle.words.specs.Outcome.{Outcome}
use Rattle.words.specs.Words.{is_set, said_of, plain_of, one_of, two_of, refused_of, left_in}
use Rattle.words.specs.declared.Said.{Said}

-- the state that a step begins with; a word that is not there is 0
abbrev pub token_state : List ℕ → State
token_state words = record { place = get_or words 0 0; in_header = is_set (get_or words 1 0); in_common = is_set (get_or words 2 0) }

-- the kinds of tokens and their views; a number in another radix has its value in the place of a view
abbrev pub token_item : Token → Said
token_item HeaderMnemonicSeparator = plain_of 1
token_item HeaderQuerySuffix = plain_of 2
token_item ProgramMessageUnitSeparator = plain_of 3
token_item ProgramHeaderSeparator = plain_of 4
token_item ProgramDataSeparator = plain_of 5
token_item (ProgramMnemonic v) = one_of 6 v
token_item (CharacterProgramData v) = one_of 7 v
token_item (DecimalNumericProgramData v) = one_of 8 v
token_item (DecimalNumericSuffixProgramData v suffix) = two_of 9 0 v suffix
token_item (NonDecimalNumericProgramData n) = said_of (pos 0) 0 10 n 0 0 0
token_item (StringProgramData v) = one_of 11 v
token_item (ArbitraryBlockData v) = one_of 12 v
token_item (ExpressionProgramData v) = one_of 13 v

-- the end has the kind 0
abbrev pub token_said : Answer → Said
token_said (answer.Token t) = token_item t
token_said answer.End = plain_of 0
token_said (answer.Refused e) = refused_of e

-- what a step leaves in the words
unfoldable pub token_left : List ℕ → Step → Outcome ℕ
token_left words x = left_in words x.state.place x.state.in_header (bit x.state.in_common) (token_said x.answer)
