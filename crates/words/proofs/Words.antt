-- Laws of the words of a step, as the code meets them.
use Prim.Native.Nat.{ℕ, zero, suc, ◌≤◌, ◌<◌}
use mathlib.Core.Path.{◌≡◌, refl}
use mathlib.Core.List.{List, [], ◌∷◌}
use mathlib.Core.Bool.{Bool}
use native.Mathlib.Nat.{lt_of_lt_of_le}
use native.Mathlib.Omega.{arith}
use lib.IntN.{ℤ}
use lib.ListN.{length, get_or, drop, set, length-set}
use lib.Seq.{sets-eq}
use lib.Dec.{lit<}
use borrow.Author.Rules.{rules}
use borrow.Author.Tests.{le-leb, lt-leb}
use Rattle.error.specs.{Code.code_of, declared.ErrorCode.ErrorCode, declared.ErrorCode.TheVariants.NoSlotLeft}
use Rattle.record.specs.Word.{bit}
use Rattle.words.specs.{Outcome.Outcome, declared.Said.Said}
use Rattle.words.specs.Words.{said_of, refused_of, left_in}

eight : (l : List ℕ) (a b c d e f g h : ℕ) → 8 ≤ length l
    → set (set (set (set (set (set (set (set l 0 a) 1 b) 2 c) 3 d) 4 e) 5 f) 6 g) 7 h ≡ a ∷ b ∷ c ∷ d ∷ e ∷ f ∷ g ∷ h ∷ drop 8 l
eight l a b c d e f g h q = sets-eq (a ∷ b ∷ c ∷ d ∷ e ∷ f ∷ g ∷ h ∷ []) l 0 q

module _ (l : List ℕ) (place : ℕ) (second : Bool) (third : ℕ) (s : Said) where
  pub no_room' : (n : ℤ) → length l < 8 → n ≡ code_of NoSlotLeft → record { code = n; words = l } ≡ left_in l place second third s
  unfolding left_in
  no_room' n h en = rw (lt-leb 8 (length l) h, en)

  pub put' : (b : ℕ) → 8 ≤ length l → b ≡ bit second
      → record { code = s.code; words = set (set (set (set (set (set (set (set l 0 place) 1 b) 2 third) 3 s.kind) 4 s.start) 5 s.end) 6 s.start_2) 7 s.end_2 }
      ≡ left_in l place second third s
  unfolding left_in
  put' b q eb = rw (le-leb 8 (length l) q, eight l place b third s.kind s.start s.end s.start_2 s.end_2 q, eb)

pub room' : (l : List ℕ) (k : ℕ) → k < 8 → 8 ≤ length l → k < length l
room' l k h q = lt_of_lt_of_le h q

pub kept' : (l : List ℕ) (i x : ℕ) → 8 ≤ length l → 8 ≤ length (set l i x)
kept' l i x q = rw length-set q

pub ruleset room_laws = (lit<, room', kept')

pub ruleset put_laws = (rules, no_room', put')

pub refused' : (e : ErrorCode) (n : ℤ) → n ≡ code_of e → said_of n 0 0 0 0 0 0 ≡ refused_of e
refused' e n en = rw en

pub ruleset said_laws = (rules, refused')

pub past' : (l : List ℕ) (i : ℕ) → length l ≤ i → 0 ≡ get_or l i 0
past' [] i h = refl
past' (x ∷ l) zero h = absurd (omega (arith, h))
past' (x ∷ l) (suc i) h = past' l i (omega (arith, h))

pub ruleset word_laws = (rules, past')
