use Rattle.std.specs.Prelude.{◌≡◌, Err}
use borrow.Author.Rules.{rules}
use Rattle.coordinate.proofs.Coordinates.{laws}
use Rattle.coordinate.proofs.read_triple.Goals as goal

pub returns-in_err-first : goal.returns-in_err-first
returns-in_err-first c = search laws

pub returns-in_err-second : goal.returns-in_err-second
returns-in_err-second c =
    let h : c.from_residual-in_err-second.result ≡ Err c.in_err-second.field-0.0 = search rules in
    search (laws, c.in_ok-first.ensures.ok_part, c.in_err-second.was)

pub returns : goal.returns
returns c = search laws
