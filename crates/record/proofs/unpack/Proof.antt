use Rattle.record.proofs.Words.{record_laws}
use Rattle.record.proofs.unpack as f

pub unpack_spec : {M : Type 1} → f.Statement.statement M
unpack_spec = f.Tie.close (f.Tie.spec (λ c. search record_laws) (λ c. search record_laws))
