use Rattle.error.proofs.Laws.{laws}
use Rattle.error.proofs.ErrorCode.get_code as f

pub get_code_spec : {M : Type 1} → f.Statement.statement M
get_code_spec =
    f.Tie.close (f.Tie.spec (λ c. search laws) (λ c. search laws) (λ c. search laws) (λ c. search laws) (λ c. search laws)
    (λ c. search laws) (λ c. search laws) (λ c. search laws) (λ c. search laws) (λ c. search laws) (λ c. search laws)
    (λ c. search laws) (λ c. search laws) (λ c. search laws) (λ c. search laws) (λ c. search laws) (λ c. search laws)
    (λ c. search laws) (λ c. search laws) (λ c. search laws) (λ c. search laws) (λ c. search laws) (λ c. search laws)
    (λ c. search laws) (λ c. search laws) (λ c. search laws) (λ c. search laws) (λ c. search laws) (λ c. search laws)
    (λ c. search laws) (λ c. search laws) (λ c. search laws) (λ c. search laws) (λ c. search laws) (λ c. search laws)
    (λ c. search laws) (λ c. search laws) (λ c. search laws) (λ c. search laws) (λ c. search laws) (λ c. search laws)
    (λ c. search laws) (λ c. search laws) (λ c. search laws) (λ c. search laws) (λ c. search laws) (λ c. search laws)
    (λ c. search laws) (λ c. search laws) (λ c. search laws) (λ c. search laws) (λ c. search laws) (λ c. search laws)
    (λ c. search laws) (λ c. search laws) (λ c. search laws) (λ c. search laws) (λ c. search laws) (λ c. search laws)
    (λ c. search laws))
