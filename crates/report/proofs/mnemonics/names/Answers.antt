use Rattle.std.proofs.Common.{rules}
use Rattle.report.specs.Line.{names_text}
use Rattle.report.proofs.mnemonics.names.Goals as goal

pub returns : goal.returns
returns c = unfold names_text in search rules
