use Rattle.answer.proofs.Laws.{ends}
use Rattle.answer.proofs.fields.Fields.text.Goals as goal

pub returns : goal.returns
returns c = ends _ _ _ _ _ _ _ c.unhex.ensures
