-- The claims.
use Rattle.units.specs.HeaderClaims.{Claims}
use Rattle.header.proofs.Once.{one_begins}
use Rattle.units.proofs.{HeaderSome.some_beginning, HeaderOnward.begins_sound}

pub claims : Claims
claims =
    record {
      some_answer = some_beginning;
      one_answer = λ t names s b seen. one_begins;
      onward = λ t names s b c query kept x seen p h. (begins_sound h).0;
      over = λ t names s b c query kept seen p h. (begins_sound h).3;
      command_fits = λ t names s b c query kept x seen p h. (begins_sound h).2;
      keeps = λ t names s b c query kept x seen p h. (begins_sound h).1;
    }
