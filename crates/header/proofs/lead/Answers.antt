use Rattle.header.proofs.Fronts.{lead_laws}
use Rattle.header.proofs.lead.Goals as goal

pub returns-then-not-is_branch : goal.returns-then-not-is_branch
returns-then-not-is_branch c = search lead_laws
