-- The slots behind a walk.
use Rattle.std.specs.Prelude.{Result}
use Prim.Native.Nat.{ℕ, zero, suc, ◌≤◌, ◌<◌}
use mathlib.Core.Path.{◌≡◌, refl, ap}
use mathlib.Core.Logic.{⊎_elim}
use mathlib.Core.List.{List, [], ◌∷◌, map}
use native.Mathlib.Omega.{arith}
use lib.ListN.{length, take, drop}
use borrow.Author.Tests.{le-leb, lt-leb}
use Rattle.kind.proofs.Tests.{less_or_not}
use Rattle.record.specs.{Word.word_of, declared.Record.Record}
use Rattle.message.specs.Message.{Ending, complete, refused, Message, written, told, Outcome, recorded, Walks}
use Rattle.messages.specs.MessageClaims.{counted}
use Rattle.message.proofs.Some.{some_message}
use Rattle.message.specs.declared.Stopped.{Stopped}

pub some_walk : (t names : List ℕ) (b : ℕ) (s slots : List ℕ) → (r : Result ℕ Stopped) × (after : List ℕ) × Walks (Message t names b s) slots r after
some_walk t names b s slots =
    let z = some_message t names b s in
    (_, _, record { units = z.0; ending = z.1; reads = z.2; outcome = refl })

-- the first n slots, as far as there are words for them, and those behind them

words_first : (us : List Record) (slots : List ℕ) (n : ℕ) → n ≤ length us → n ≤ length slots → take n (written (map word_of us) slots) ≡ take n (map word_of us)
unfolding written
words_first us slots zero l k = refl
words_first [] slots (suc n) l k = absurd (omega (arith, l))
words_first (u ∷ us) [] (suc n) l k = absurd (omega (arith, k))
words_first (u ∷ us) (x ∷ slots) (suc n) l k = ap (λ a. word_of u ∷ a) (words_first us slots n (omega (arith, l)) (omega (arith, k)))

others_kept : (us : List Record) (slots : List ℕ) → drop (length us) (written (map word_of us) slots) ≡ drop (length us) slots
unfolding written
others_kept [] slots = refl
others_kept (u ∷ us) [] = refl
others_kept (u ∷ us) (x ∷ slots) = others_kept us slots

all_written : (us : List Record) (slots : List ℕ) → drop (length slots) (written (map word_of us) slots) ≡ drop (length slots) slots
unfolding written
all_written [] slots = refl
all_written (u ∷ us) [] = refl
all_written (u ∷ us) (x ∷ slots) = all_written us slots

-- what is so of a count and of slots
abbrev Kept : List Record → List ℕ → ℕ → List ℕ → Type 0
Kept us slots n after = (n ≤ length slots) × (take n after ≡ take n (map word_of us)) × (drop n after ≡ drop n slots)

counts : (n : ℕ) (e : Ending) → counted (told n e) ≡ n
counts n complete = refl
counts n (refused e) = refl

pub slots_kept : (M : List Record → Ending → Type 0) (slots : List ℕ) (r : Result ℕ Stopped) (after : List ℕ) (w : Walks M slots r after) → Kept w.units slots (counted r) after
unfolding recorded
slots_kept M slots r after w =
    rw (ap (λ (o : Outcome). o.says) w.outcome, ap (λ (o : Outcome). o.slots) w.outcome)
    (⊎_elim full fits (less_or_not (length slots) (length us)))
  where
    us : List Record
    us = w.units

    fits : length us ≤ length slots → Kept us slots (counted (recorded slots us w.ending).says) (recorded slots us w.ending).slots
    fits l = rw (le-leb (length us) (length slots) l, counts (length us) w.ending) (l, words_first us slots (length us) (omega arith) l, others_kept us slots)

    full : length slots < length us → Kept us slots (counted (recorded slots us w.ending).says) (recorded slots us w.ending).slots
    full l = rw (lt-leb (length us) (length slots) l) (omega arith, words_first us slots (length slots) (omega (arith, l)) (omega arith), all_written us slots)
