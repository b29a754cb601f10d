use Rattle.std.proofs.Common.{◌≡◌, drop}
use Rattle.util.specs.Run.{every}
use Rattle.mnemonic.proofs.is_every.Given as goal

abbrev pub invariant-loop-b : goal.invariant-loop-b
invariant-loop-b g l = every g.C.Class.class l.s ≡ every g.C.Class.class (drop l.b-index l.s)
