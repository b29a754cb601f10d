-- The rows.
use mathlib.Core.Path.{refl}
use Rattle.kind.specs.Class.{is_white_space, is_capital, is_small, is_digit, is_letter, in_mnemonic, is_sign, is_quote}
use Rattle.kind.specs.Kind.{kind_of}
use Rattle.util.specs.Run.{run, run_end, sign_end, stands_at, every}
use Rattle.mnemonic.specs.Mnemonic.{matches, compares, numeric_suffix_start, last_end, same_numeric_suffix, pairs, folded, either_case, not_small, may_leave_out}
use Rattle.integer.specs.Digit.{digit_of, is_digit_of, value_of}
use Rattle.integer.specs.Number.{digits, found_at, unsigned_of, unsigned_at, signed_of, signed_at}
use Rattle.token.specs.View.{part_of}
use Rattle.item.specs.{Follow.ends_data, Follow.followed, Word.star_end, Word.mnemonic}
use Rattle.decimal.specs.Decimal.{whole_end, has_whole, fraction_end, mantissa, begins_exponent, exponent, with_exponent, number, in_suffix, begins_suffix, suffixed, suffix_data, numeric_to, numeric_data}
use Rattle.hash.specs.Nondecimal.{nondecimal_of, nondecimal_data}
use Rattle.hash.specs.Block.{payload, definite, indefinite, arbitrary_data, hash_by, hash_data}
use Rattle.tokenizer.specs.Step.{taken, refusal, read_as, outside, by_kind, step}
use Rattle.channel_spec.specs.Spec.{bang}
use Rattle.coordinate.specs.Coordinate.{onto, parts, whole, integer, both, integers, written, pair_of}
use Rattle.together.specs.Rows.{Rows}

pub rows : Rows
unfolding step by_kind read_as outside taken refusal kind_of mnemonic star_end numeric_data numeric_to number with_exponent mantissa has_whole whole_end fraction_end exponent begins_exponent suffix_data suffixed begins_suffix in_suffix hash_data hash_by arbitrary_data indefinite definite payload nondecimal_data nondecimal_of followed ends_data unsigned_at unsigned_of found_at digits value_of is_digit_of digit_of run run_end sign_end stands_at every is_white_space is_capital is_small is_digit is_letter in_mnemonic is_sign is_quote matches compares numeric_suffix_start last_end same_numeric_suffix pairs folded either_case not_small may_leave_out part_of pair_of written integers integer whole both parts onto bang signed_at signed_of
rows =
    record {
      row_1 = (refl, refl, refl);
      row_2 = (refl, refl, refl);
      row_3 = (refl, refl, refl);
      row_4 = (refl, refl, refl, refl);
      row_5 = refl;
      row_6 = (refl, refl, refl);
      row_7 = (refl, refl, refl);
      row_8 = (refl, refl);
      row_9 = refl;
      row_10 = refl;
    }
