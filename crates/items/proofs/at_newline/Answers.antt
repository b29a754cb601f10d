use Rattle.items.specs.Internal.{newline_data}
use Rattle.items.proofs.Forms.{newlines}
use Rattle.items.proofs.at_newline.Goals as goal

pub returns-in_err-newline : goal.returns-in_err-newline
unfolding newline_data
returns-in_err-newline c = search newlines

pub returns : goal.returns
returns c = search (newlines, c.in_ok-newline.was)
