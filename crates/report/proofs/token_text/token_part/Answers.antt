use Rattle.std.proofs.Common.{rules}
use Rattle.report.proofs.Fronts.{whole}
use Rattle.report.proofs.token_text.token_part.Goals as goal

pub returns : goal.returns
returns c = whole _ _ _ _ (search rules)
