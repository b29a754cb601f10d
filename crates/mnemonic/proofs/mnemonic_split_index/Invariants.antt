use Rattle.mnemonic.proofs.Split.{Passed}
use Rattle.mnemonic.proofs.mnemonic_split_index.Given as goal

abbrev pub invariant-loop-i : goal.invariant-loop-i
invariant-loop-i l = Passed l.mnemonic l.i
