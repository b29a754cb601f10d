use Rattle.std.specs.Prelude.{◌≡◌, Ok, Err}
use borrow.Author.Rules.{rules}
use Rattle.unsigned_coordinate.specs.Unsigned.{unsigned_of}
use Rattle.unsigned_coordinate.proofs.Laws.{two_refused', two_first', two_second', two'}
use Rattle.unsigned_coordinate.proofs.read_unsigned_pair.Goals as goal

pub returns-in_err-first : goal.returns-in_err-first
returns-in_err-first c =
    let h : c.from_residual.result ≡ Err c.in_err-first.field-0.0 = search rules in
    two_refused' _ _ c.read_pair.ensures _ c.in_err-first.was _ h

pub returns-in_err-unsigned : goal.returns-in_err-unsigned
returns-in_err-unsigned c =
    let u : c.unsigned.result ≡ unsigned_of (Ok c.in_ok-first.first) = search rules in
    let h : c.from_residual-in_err-unsigned.result ≡ Err c.in_err-unsigned.field-0.0 = search rules in
    two_first' _ _ c.read_pair.ensures _ _ c.in_ok-first.was _ u _ c.in_err-unsigned.was _ h

pub returns-in_err-unsigned-2 : goal.returns-in_err-unsigned-2
returns-in_err-unsigned-2 c =
    let u : c.unsigned.result ≡ unsigned_of (Ok c.in_ok-first.first) = search rules in
    let v : c.unsigned-2.result ≡ unsigned_of (Ok c.in_ok-first.second) = search rules in
    let h : c.from_residual-in_err-unsigned-2.result ≡ Err c.in_err-unsigned-2.field-0.0 = search rules in
    two_second' _ _ c.read_pair.ensures _ _ c.in_ok-first.was _ u _ c.in_ok-unsigned.was _ v _ c.in_err-unsigned-2.was _ h

pub returns : goal.returns
returns c =
    let u : c.unsigned.result ≡ unsigned_of (Ok c.in_ok-first.first) = search rules in
    let v : c.unsigned-2.result ≡ unsigned_of (Ok c.in_ok-first.second) = search rules in
    two' _ _ c.read_pair.ensures _ _ c.in_ok-first.was _ u _ c.in_ok-unsigned.was _ v _ c.in_ok-unsigned-2.was
