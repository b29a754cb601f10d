-- The claims.
use Rattle.util.proofs.Decided.{one_answer}
use Rattle.routes.specs.LayoutClaims.{Claims}

pub claims : Claims
claims = record { one_count = λ t a b. one_answer; one_fields = λ t a b. one_answer; one_blocks = λ t a b. one_answer; one_name = λ t names a b. one_answer }
