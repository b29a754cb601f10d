use Rattle.std.proofs.Common.{arith, rules, eqb}
use Rattle.std.proofs.lemmas.List.Sorted.{answers_always}
use Rattle.request.proofs.Stores.{walk, cut, fewer, room, no_slot, no_word', word'}
use Rattle.request.proofs.table_text.write_words.Goals as goal
use Rattle.request.proofs.table_text.write_words.Goals.{then-n-out, else-n-out}

pub loop-piece-init : goal.loop-piece-init
loop-piece-init c = record {
  few = search (walk, c.split-piece-items.ensures.rest, c.split-piece-items.ensures.done, c.into_iter-piece-iterator.ensures.into_iter_gives);
  written = search (walk, c.split-piece-items.ensures.rest, c.split-piece-items.ensures.done, c.into_iter-piece-iterator.ensures.into_iter_gives);
}

pub returns-in_err-word : goal.returns-in_err-word
returns-in_err-word c =
    let h = c.in-Some.ensures.steps in
    no_word' _ _ _ _ _ _ (cut _ _ _ _ _ h.0 h.1 (h.2 (λ b. eqb b 44) (answers_always _ _ _ (λ f a r g m. search rules))).1) c.loop-piece.invariant.written _ c.from_residual.ensures c.in_err-word.ensures

pub overflow_add-n : goal.overflow_add-n
overflow_add-n c = omega (arith, room _ _ _ _ c.in-Some.ensures.steps.0 c.loop-piece.invariant.few)

pub loop-piece-preserved : goal.loop-piece-preserved
loop-piece-preserved c =
    let h = c.in-Some.ensures.steps in
    let e = cut _ _ _ _ _ h.0 h.1 (h.2 (λ b. eqb b 44) (answers_always _ _ _ (λ f a r g m. search rules))).1 in
    let f = fewer _ _ _ _ _ h.0 h.1 _ _ c.loop-piece.invariant.few in
    let w = word' _ _ _ _ _ _ e c.loop-piece.invariant.written _ c.in_ok-word.ensures in
    elim c.if-n-out.branch [
      | then-n-out b ↦ record { few = f; written = rw b.out-is w }
      | else-n-out b ↦ record { few = f; written = rw (b.out-is, no_slot _ _ c.in_ok-word.word b.if-n-out.false) w }
    ]

pub returns : goal.returns
returns c = search (walk, c.in-None.ensures.steps)
