-- What is asked of a token.
use Rattle.std.specs.Prelude.{ℕ, List, Bool, true, false}
use Rattle.mnemonic.specs.Mnemonic.{matches}
use Rattle.token.specs.View.{view_of, part_of}
use Rattle.token.specs.declared.View.{View}
use Rattle.token.specs.declared.Token.{Token}
use Rattle.token.specs.declared.Token.TheVariants.{HeaderMnemonicSeparator, HeaderQuerySuffix, ProgramMessageUnitSeparator, ProgramHeaderSeparator, ProgramDataSeparator, ProgramMnemonic, CharacterProgramData, DecimalNumericProgramData, DecimalNumericSuffixProgramData, NonDecimalNumericProgramData, StringProgramData, ArbitraryBlockData, ExpressionProgramData}

-- IEEE 488.2 7.7: the elements that are program data
abbrev pub is_data : Token → Bool
is_data HeaderMnemonicSeparator = false
is_data HeaderQuerySuffix = false
is_data ProgramMessageUnitSeparator = false
is_data ProgramHeaderSeparator = false
is_data ProgramDataSeparator = false
is_data (ProgramMnemonic v) = false
is_data (CharacterProgramData v) = true
is_data (DecimalNumericProgramData v) = true
is_data (DecimalNumericSuffixProgramData v u) = true
is_data (NonDecimalNumericProgramData n) = true
is_data (StringProgramData v) = true
is_data (ArbitraryBlockData v) = true
is_data (ExpressionProgramData v) = true

-- the view of a token, without a number's suffix, and an empty one where it has none
abbrev pub view_in : Token → View
view_in (ProgramMnemonic v) = v
view_in (CharacterProgramData v) = v
view_in (DecimalNumericProgramData v) = v
view_in (DecimalNumericSuffixProgramData v u) = v
view_in (StringProgramData v) = v
view_in (ArbitraryBlockData v) = v
view_in (ExpressionProgramData v) = v
view_in (NonDecimalNumericProgramData n) = view_of 0 0
view_in HeaderMnemonicSeparator = view_of 0 0
view_in HeaderQuerySuffix = view_of 0 0
view_in ProgramMessageUnitSeparator = view_of 0 0
view_in ProgramHeaderSeparator = view_of 0 0
view_in ProgramDataSeparator = view_of 0 0

-- a word, in a header or as data, that spells the mnemonic
abbrev pub matches_header : List ℕ → List ℕ → Token → Bool
matches_header mnemonic s (ProgramMnemonic v) = matches mnemonic (part_of s v)
matches_header mnemonic s (CharacterProgramData v) = matches mnemonic (part_of s v)
matches_header mnemonic s HeaderMnemonicSeparator = false
matches_header mnemonic s HeaderQuerySuffix = false
matches_header mnemonic s ProgramMessageUnitSeparator = false
matches_header mnemonic s ProgramHeaderSeparator = false
matches_header mnemonic s ProgramDataSeparator = false
matches_header mnemonic s (DecimalNumericProgramData v) = false
matches_header mnemonic s (DecimalNumericSuffixProgramData v u) = false
matches_header mnemonic s (NonDecimalNumericProgramData n) = false
matches_header mnemonic s (StringProgramData v) = false
matches_header mnemonic s (ArbitraryBlockData v) = false
matches_header mnemonic s (ExpressionProgramData v) = false
