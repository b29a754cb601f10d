-- The numbers of the refusals.
use Rattle.std.specs.Prelude.{ℕ, ℤ, pos, neg_ℤ}
use Rattle.error.specs.declared.ErrorCode.{ErrorCode}
use Rattle.error.specs.declared.ErrorCode.TheVariants.{InvalidCharacter, SyntaxError, InvalidSeparator, CommandHeaderError, HeaderSeparatorError, ProgramMnemonicTooLong, UndefinedHeader, NumericDataError, InvalidCharacterInNumber, InvalidSuffix, SuffixTooLong, SuffixNotAllowed, InvalidCharacterData, CharacterDataTooLong, InvalidStringData, BlockDataError, InvalidBlockData, ExpressionError, InvalidExpression, DataOutOfRange, IllegalParameterValue, NodeCount, NodeFields, ChildBlocks, NodeName, TwoDefaults, SharedSpelling, StartIsNoBranch, NoSlotLeft, MessageTooLong}

-- a number below zero, written without its sign
abbrev pub minus : ℕ → ℤ
minus n = neg_ℤ (pos n)

-- SCPI-99 21.8 below zero; above zero the table faults, 1 to 6, and what only this reader refuses
abbrev pub code_of : ErrorCode → ℤ
code_of InvalidCharacter = minus 101
code_of SyntaxError = minus 102
code_of InvalidSeparator = minus 103
code_of CommandHeaderError = minus 110
code_of HeaderSeparatorError = minus 111
code_of ProgramMnemonicTooLong = minus 112
code_of UndefinedHeader = minus 113
code_of NumericDataError = minus 120
code_of InvalidCharacterInNumber = minus 121
code_of InvalidSuffix = minus 131
code_of SuffixTooLong = minus 134
code_of SuffixNotAllowed = minus 138
code_of InvalidCharacterData = minus 141
code_of CharacterDataTooLong = minus 144
code_of InvalidStringData = minus 151
code_of BlockDataError = minus 160
code_of InvalidBlockData = minus 161
code_of ExpressionError = minus 170
code_of InvalidExpression = minus 171
code_of DataOutOfRange = minus 222
code_of IllegalParameterValue = minus 224
code_of NodeCount = pos 1
code_of NodeFields = pos 2
code_of ChildBlocks = pos 3
code_of NodeName = pos 4
code_of TwoDefaults = pos 5
code_of SharedSpelling = pos 6
code_of StartIsNoBranch = pos 7
code_of NoSlotLeft = pos 8
code_of MessageTooLong = pos 9
