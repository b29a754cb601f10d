use Rattle.std.proofs.Common.{◌≡◌, take}
use Rattle.request.specs.Hex.{bytes_of}
use Rattle.request.proofs.write_bytes.Given as goal

abbrev pub invariant-loop-i : goal.invariant-loop-i
invariant-loop-i l = take l.i l.slot-items ≡ take l.i (bytes_of l.hex)
