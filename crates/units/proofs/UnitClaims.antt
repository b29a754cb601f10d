-- The claims.
use Rattle.units.specs.UnitClaims.{Claims}
use Rattle.units.proofs.UnitAnswers.{some_unit, one_unit, goes_on, items_fit, command_fits, keeps_branch}

pub claims : Claims
claims =
    record {
      some_answer = λ t names s. some_unit s t names;
      one_answer = one_unit;
      onward = λ t names s b seen u p. goes_on;
      few_items = λ t names s b seen u p. items_fit;
      command_fits = λ t names s b seen u p. command_fits;
      keeps = λ t names s b seen u p. keeps_branch;
    }
