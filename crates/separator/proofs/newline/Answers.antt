use Rattle.separator.proofs.Separators.{newlines}
use Rattle.separator.proofs.newline.Goals as goal

pub returns-then-next-s : goal.returns-then-next-s
returns-then-next-s c = search newlines

pub returns : goal.returns
returns c = search newlines
