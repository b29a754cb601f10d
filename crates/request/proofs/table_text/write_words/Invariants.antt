use Rattle.std.proofs.Common.{◌≡◌, ◌+◌, ◌≤◌, length}
use Rattle.request.specs.Words.{pieces, written}
use Rattle.request.proofs.{Stores.left, Stores.most, Stores.onward}
use Rattle.request.proofs.table_text.write_words.Given as goal

abbrev pub invariant-loop-piece : goal.invariant-loop-piece
invariant-loop-piece l = record {
  few : l.n + most l.piece-iterator.done l.piece-iterator.rest.now ≤ length l.s + 1;
  written : written l.initial.out (pieces l.s) ≡ onward l.out l.n (left l.piece-iterator.done l.piece-iterator.rest.now);
}
