-- The claims.
use mathlib.Core.Path.{refl, ap}
use Rattle.messages.specs.MessageClaims.{Claims}
use Rattle.message.proofs.Some.{some_message}
use Rattle.messages.proofs.{Fields.few_units, Fields.whole_records, Slots.some_walk, Slots.slots_kept, Alone.single, Alone.refused_alike}
use Rattle.messages.proofs.Once.{Parts, one_parts, one_walk, one_unchecked, unchecked}

pub claims : Claims
claims =
    record {
      some_message = some_message;
      one_message = λ t names b s us vs e f x y.
          let same = one_parts us vs e f x y in
          (ap (λ (z : Parts). z.units) same, ap (λ (z : Parts). z.ending) same);
      one_walk = λ t names b s. one_walk;
      one_unchecked = λ t names b s. one_unchecked;
      some_walk = some_walk;
      slots_kept = slots_kept;
      unchecked = λ t names b s. unchecked;
      few_units = few_units;
      whole_records = whole_records;
      single = λ t names b s c query kept h. single _ h refl;
      refused_alike = λ t names b s e other h. refused_alike other _ h refl;
    }
