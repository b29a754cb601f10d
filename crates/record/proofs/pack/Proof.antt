use Rattle.record.proofs.Words.{word_laws}
use Rattle.record.proofs.pack as f

pub pack_spec : {M : Type 1} → f.Statement.statement M
pack_spec =
    f.Tie.close (f.Tie.spec (λ c. search word_laws) (λ c. search word_laws) (λ c. search word_laws) (λ c. search word_laws)
    (λ c. search word_laws) (λ c. search word_laws))
