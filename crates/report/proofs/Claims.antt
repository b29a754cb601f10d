-- The proofs of specs/Claims.
use mathlib.Core.Path.{refl}
use Rattle.report.specs.Claims.{Rows}
use Rattle.report.specs.Number.{decimal_of, decimal, signed}
use Rattle.report.specs.Tokens.{view_text, place_text, flags_text, taken_text, end_text, refused_text}
use Rattle.report.specs.Units.{pair_text, form_text, unit_text, stop_text, total_text}

pub rows : Rows
unfolding decimal_of decimal signed view_text place_text flags_text taken_text end_text refused_text pair_text form_text unit_text stop_text total_text
rows =
    record {
      zero = refl;
      ten = refl;
      most = refl;
      positive = refl;
      negative = refl;
      mnemonic = refl;
      suffixed = refl;
      radix = refl;
      end = refl;
      refused = refl;
      unit = refl;
      stop = refl;
      total = refl;
    }
