-- The rows of the scope that are proved together, in one statement. Row 2 is of a message, 1 and 5 to 9 are of data alone.
use Rattle.std.specs.Prelude.{◌≡◌, true, false, pos, Ok}
use Rattle.error.specs.declared.ErrorCode.TheVariants.{ProgramMnemonicTooLong, NumericDataError, InvalidBlockData, SuffixNotAllowed, DataOutOfRange}
use Rattle.kind.specs.Text.{ascii}
use Rattle.mnemonic.specs.Mnemonic.{matches}
use Rattle.token.specs.View.{view_of, part_of}
use Rattle.token.specs.declared.Token.TheVariants.{ProgramMessageUnitSeparator, ProgramMnemonic, DecimalNumericProgramData, DecimalNumericSuffixProgramData, NonDecimalNumericProgramData, ArbitraryBlockData}
use Rattle.tokenizer.specs.Step.{state_of, of_message, of_data}
use Rattle.tokens.specs.StepClaims.{answer_of, state_behind}
use Rattle.tokenizer.specs.declared.Answer.TheVariants.{Token, Refused}
use Rattle.coordinate.specs.Coordinate.{written, pair_of}

pub record Rows : Type 0 where
  -- `1`, newline, `;`: 1, next `;`. The newline is white space behind the number.
  pub row_1 : (answer_of (ascii "1\n;") of_data ≡ Token (DecimalNumericProgramData (view_of 0 1)))
      × ((state_behind (ascii "1\n;") of_data).place ≡ 2)
      × (answer_of (ascii "1\n;") (state_behind (ascii "1\n;") of_data) ≡ Token ProgramMessageUnitSeparator)
  -- `*ABCDEFGHIJK` passes; with `L` -112, and the refusal changes no flag
  pub row_2 : (answer_of (ascii "*ABCDEFGHIJK") of_message ≡ Token (ProgramMnemonic (view_of 0 12)))
      × (answer_of (ascii "*ABCDEFGHIJKL") of_message ≡ Refused ProgramMnemonicTooLong)
      × (state_behind (ascii "*ABCDEFGHIJKL") of_message ≡ state_of 13 true false)
  -- TRIGger: TRIG, TRIGGER, not TRIGG
  pub row_3 :
      (matches (ascii "TRIGger") (ascii "TRIG") ≡ true) × (matches (ascii "TRIGger") (ascii "TRIGGER") ≡ true) × (matches (ascii "TRIGger") (ascii "TRIGG") ≡ false)
  -- TRIGger2: TRIG2, not TRIG. TRIGger: TRIG1, not TRIG01
  pub row_4 :
      (matches (ascii "TRIGger2") (ascii "TRIG2") ≡ true)
      × (matches (ascii "TRIGger2") (ascii "TRIG") ≡ false)
      × (matches (ascii "TRIGger") (ascii "TRIG1") ≡ true)
      × (matches (ascii "TRIGger") (ascii "TRIG01") ≡ false)
  -- `#0` -161
  pub row_5 : answer_of (ascii "#0") of_data ≡ Refused InvalidBlockData
  -- `#15hello` hello; `#15hell` -161
  pub row_6 :
      (answer_of (ascii "#15hello") of_data ≡ Token (ArbitraryBlockData (view_of 3 8)))
      × (part_of (ascii "#15hello") (view_of 3 8) ≡ ascii "hello")
      × (answer_of (ascii "#15hell") of_data ≡ Refused InvalidBlockData)
  -- `1E5V`: 1E5 and V. `1E` -120. `1 E`: 1 and E
  pub row_7 :
      (answer_of (ascii "1E5V") of_data ≡ Token (DecimalNumericSuffixProgramData (view_of 0 3) (view_of 3 4)))
      × (answer_of (ascii "1E") of_data ≡ Refused NumericDataError)
      × (answer_of (ascii "1 E") of_data ≡ Token (DecimalNumericSuffixProgramData (view_of 0 1) (view_of 2 3)))
  -- `#HFF` 255; `#HFFG` -138
  pub row_8 :
      (answer_of (ascii "#HFF") of_data ≡ Token (NonDecimalNumericProgramData 255)) × (answer_of (ascii "#HFFG") of_data ≡ Refused SuffixNotAllowed)
  -- `#H` and 17 F: -222
  pub row_9 : answer_of (ascii "#HFFFFFFFFFFFFFFFFF") of_data ≡ Refused DataOutOfRange
  -- `3!7`: 3, 7
  pub row_10 : pair_of (written (ascii "3!7")) ≡ Ok (pos 3, pos 7)
