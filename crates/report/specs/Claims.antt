-- What is proved of these definitions, besides the promises of the functions. The proofs are in proofs/Claims.
use Rattle.std.specs.Prelude.{◌≡◌, true, false, pos, neg_ℤ}
use Rattle.error.specs.declared.ErrorCode.TheVariants.{SyntaxError}
use Rattle.kind.specs.Text.{ascii}
use Rattle.token.specs.declared.Token.TheVariants.{ProgramMnemonic, DecimalNumericSuffixProgramData, NonDecimalNumericProgramData}
use Rattle.report.specs.Number.{decimal, signed}
use Rattle.report.specs.Tokens.{taken_text, end_text, refused_text}
use Rattle.report.specs.Units.{unit_text, stop_text, total_text}

-- Worked examples.
pub record Rows : Type 0 where
  pub zero : decimal 0 ≡ ascii "0"
  pub ten : decimal 10 ≡ ascii "10"
  pub most : decimal 18446744073709551615 ≡ ascii "18446744073709551615"
  pub positive : signed (pos 9) ≡ ascii "9"
  pub negative : signed (neg_ℤ (pos 32768)) ≡ ascii "-32768"
  pub mnemonic : taken_text (ProgramMnemonic (record { start = 0; end = 4 })) (record { place = 4; in_header = true; in_common = true }) ≡ ascii "mnemonic 0..4 @4 hc | "
  pub suffixed : taken_text (DecimalNumericSuffixProgramData (record { start = 0; end = 2 }) (record { start = 3; end = 4 })) (record { place = 4; in_header = false; in_common = true }) ≡ ascii "suffixed 0..2 3..4 @4 d | "
  pub radix : taken_text (NonDecimalNumericProgramData 255) (record { place = 4; in_header = false; in_common = false }) ≡ ascii "radix 255 @4 d | "
  pub end : end_text 300000 ≡ ascii "end @300000\n"
  pub refused : refused_text SyntaxError ≡ ascii "refused -102\n"
  pub unit : unit_text 1 (record { command = 3; query = false; branch = 2; items = 1 }) ≡ ascii "1 3 event 1 2\n"
  pub stop : stop_text 12 SyntaxError ≡ ascii "12 refused -102\n"
  pub total : total_text 0 ≡ ascii "end 0\n"
