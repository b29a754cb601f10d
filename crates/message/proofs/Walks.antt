-- Laws of the walk, as the code meets them.
use Rattle.std.specs.Prelude.{Result, Ok, Err}
use Prim.Native.Nat.{ℕ, suc, ◌+◌, ◌-◌, ◌≤◌, ◌<◌}
use mathlib.Core.Path.{◌≡◌, refl, sym, ap, subst, ◌∙◌}
use mathlib.Core.List.{List, [], ◌∷◌, ◌++◌, map, append-nil, append_assoc}
use mathlib.Core.Bool.{Bool, true, false}
use native.Mathlib.Omega.{arith}
use lib.ListN.{length, set, length-set, length-append}
use borrow.Author.Rules.{rules}
use borrow.Author.Tests.{le-leb, lt-leb}
use Rattle.error.specs.declared.ErrorCode.{ErrorCode}
use Rattle.node.specs.Tree.{branch}
use Rattle.tokenizer.specs.Step.{state_of}
use Rattle.unit.specs.{Unit.Reads}
use Rattle.record.specs.{Word.word_of, declared.Record.Record}
use Rattle.message.specs.Message.{beginning_at, is_end, Ending, complete, refused, Units, none, stopped, next, written, told, recorded, Walks}
use Rattle.message.proofs.{Fronts.past_text, Fronts.unit_begun, Some.some_units}

-- the slots: one more word, and what does not fit

pub written_length : (ws slots : List ℕ) → length (written ws slots) ≡ length slots
unfolding written
written_length [] slots = refl
written_length (w ∷ ws) [] = refl
written_length (w ∷ ws) (x ∷ slots) = ap suc (written_length ws slots)

one_more : (us : List Record) (u : Record) (slots : List ℕ) → length us < length slots
    → set (written (map word_of us) slots) (length us) (word_of u) ≡ written (map word_of (us ++ (u ∷ []))) slots
unfolding written
one_more [] u [] h = absurd (omega (arith, h))
one_more [] u (x ∷ slots) h = refl
one_more (v ∷ us) u [] h = refl
one_more (v ∷ us) u (x ∷ slots) h = ap (λ l. word_of v ∷ l) (one_more us u slots (omega (arith, h)))

all_taken : (us vs : List Record) (slots : List ℕ) → length slots ≤ length us → written (map word_of (us ++ vs)) slots ≡ written (map word_of us) slots
unfolding written
all_taken [] [] [] h = refl
all_taken [] (v ∷ vs) [] h = refl
all_taken [] vs (x ∷ slots) h = absurd (omega (arith, h))
all_taken (u ∷ us) vs [] h = refl
all_taken (u ∷ us) vs (x ∷ slots) h = ap (λ l. word_of u ∷ l) (all_taken us vs slots (omega (arith, h)))

-- So far: the units that are read and written, and that what follows them is the rest of the message.
pub record SoFar (t names s : List ℕ) (start : ℕ) (before : List ℕ) (count kept p : ℕ) (slots : List ℕ) : Type 0 where
  pub units : List Record
  pub number : length units ≡ count
  pub room : count ≤ length before
  pub words : slots ≡ written (map word_of units) before
  pub back : (us : List Record) (e : Ending) → Units t names s kept p us e → Units t names s start 0 (units ++ us) e

pub at_front' : (t names s : List ℕ) (start : ℕ) (before : List ℕ) → SoFar t names s start before 0 start 0 before
unfolding written
at_front' t names s start before = record { units = []; number = refl; room = omega arith; words = refl; back = λ us f h. h }

module _ (t names s : List ℕ) (start : ℕ) (before : List ℕ) (count kept p : ℕ) (slots : List ℕ) (so : SoFar t names s start before count kept p slots) where
  abbrev M : List Record → Ending → Type 0
  M = Units t names s start 0

  -- the walk ends here, with all units written
  ends : (e : Ending) → Units t names s kept p [] e → Walks M before (told count e) slots
  unfolding recorded
  ends e h =
      let fits : length so.units ≤ length before = rw (← so.number) at so.room in
      let all : M so.units e = subst (λ (us : List Record). M us e) (append-nil so.units) (so.back [] e h) in
      record { units = so.units; ending = e; reads = all; outcome = rw (so.words, ← so.number, le-leb _ _ fits) }

  pub past' : length s ≤ p → Walks M before (Ok count) slots
  past' l = ends complete (none (past_text s (state_of p true false) l))

  pub done' : (q : Bool) → q ≡ is_end (beginning_at s p).ahead → q ≡ true → Walks M before (Ok count) slots
  done' q o h = ends complete (none (sym o ∙ h))

  module _ (r : Result (Record × ℕ) ErrorCode) (y : Reads t names s kept (beginning_at s p) r) where
    pub refused' : (q : Bool) → q ≡ is_end (beginning_at s p).ahead → q ≡ false → (e : ErrorCode) → r ≡ Err e → Walks M before (Err (record { units = count; error = e })) slots
    refused' q o h e f = ends (refused e) (stopped (sym o ∙ h) (rw f at y))

    module _ (u : Record) (after : ℕ) (f : r ≡ Ok (u, after)) where
      whole : (us : List Record) (e : Ending) → Units t names s u.branch after us e → M (so.units ++ (u ∷ us)) e
      whole us e x = so.back _ e (next (unit_begun (rw f at y)) (rw f at y) x)

      pub full' : length slots ≤ count → Walks M before (Err (record { units = count; error = ErrorCode.NoSlotLeft })) slots
      unfolding recorded
      full' l =
          let rest = some_units t names s u.branch after in
          let us = so.units in
          let k : length before ≡ count = omega (arith, l, so.room, written_length (map word_of us) before, ap length so.words) in
          let many : length before < length (us ++ (u ∷ rest.0)) = omega (arith, k, so.number, length-append us (u ∷ rest.0)) in
          let no_room : length before ≤ length us = omega (arith, k, so.number) in
          record {
            units = us ++ (u ∷ rest.0);
            ending = rest.1;
            reads = whole rest.0 rest.1 rest.2;
            outcome = rw (lt-leb _ _ many, k, all_taken us (u ∷ rest.0) before no_room, ← so.words);
          }

      pub goes_on' : count < length slots → (w : ℕ) → w ≡ word_of u → (j : ℕ) → j ≡ count + 1 → (later : List ℕ) → later ≡ set slots count w
          → SoFar t names s start before j u.branch after later
      goes_on' l w e j g later o =
          let us = so.units in
          let inside : count < length before = omega (arith, l, written_length (map word_of us) before, ap length so.words) in
          let more : length us < length before = omega (arith, inside, so.number) in
          record {
            units = us ++ (u ∷ []);
            number = length-append us (u ∷ []) ∙ omega (arith, so.number, g);
            room = omega (arith, inside, g);
            words = o ∙ rw (e, so.words, ← so.number) (one_more us u before more);
            back = λ vs x z. subst (λ (a : List Record). M a x) (sym (append_assoc us (u ∷ []) vs)) (whole vs x z);
          }

pub less' : (count n j : ℕ) → count < n → j ≡ count + 1 → n - j < n - count
less' count n j l g = omega (arith, l, g)

pub same' : (slots before : List ℕ) (i w : ℕ) → length slots ≡ length before → (later : List ℕ) → later ≡ set slots i w → length later ≡ length before
same' slots before i w e later o = ap length o ∙ length-set slots i w ∙ e

pub ruleset walk_laws = (rules, at_front', past', done', refused', full', goes_on', less', same')
