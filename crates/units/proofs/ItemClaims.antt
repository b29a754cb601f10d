-- The claims.
use mathlib.Core.Bool.{false}
use Rattle.units.specs.ItemClaims.{Claims}
use Rattle.units.proofs.ItemAnswers.{some_items, one_items, goes_on, few_items}
use Rattle.units.proofs.ItemCommon.{same_place, same_items}

pub claims : Claims
claims =
    record {
      some_answer = some_items;
      one_answer = λ s st r q. one_items s;
      onward = λ s st n place. goes_on s;
      few_items = λ s st n place. few_items s;
      star_apart = λ s p c r. (same_items s (same_place p c false), same_items s (same_place p false c));
    }
