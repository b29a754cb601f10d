-- The claims.
use Rattle.util.proofs.Decided.{one_answer}
use Rattle.names.specs.NameClaims.{Claims}
use Rattle.names.proofs.{Heads.initials, Shares.sharing}

pub claims : Claims
claims = record { one_answer = λ s a b. one_answer; sharing = sharing; initials = initials }
