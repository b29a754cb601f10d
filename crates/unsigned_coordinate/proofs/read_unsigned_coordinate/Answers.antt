use Rattle.std.specs.Prelude.{◌≡◌, Err}
use borrow.Author.Rules.{rules}
use Rattle.unsigned_coordinate.proofs.Laws.{one_refused'}
use Rattle.unsigned_coordinate.proofs.read_unsigned_coordinate.Goals as goal

pub returns-in_err-read_coordinate : goal.returns-in_err-read_coordinate
returns-in_err-read_coordinate c =
    let h : c.from_residual.result ≡ Err c.in_err-read_coordinate.field-0.0 = search rules in
    one_refused' _ _ c.read_coordinate.ensures _ c.in_err-read_coordinate.was _ h
