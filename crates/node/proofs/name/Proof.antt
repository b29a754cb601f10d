use Rattle.node.proofs.Laws.{laws}
use Rattle.node.proofs.name as f

pub name_spec : {M : Type 1} → f.Statement.statement M
name_spec =
    f.Tie.close (f.Tie.spec (λ c κs. search laws) (λ c κs. search laws) (λ c. search laws) (λ c. search laws) (λ c. search laws)
    (λ c. search laws) (λ c. search laws) (λ c. search laws) (λ c. search laws))
