-- Laws of names, headers and messages, as the code meets them.
use Rattle.std.specs.Prelude.{Result}
use Prim.Native.Nat.{ℕ}
use mathlib.Core.Path.{◌≡◌, refl, sym}
use mathlib.Core.Bool.{Bool, true, false}
use mathlib.Core.List.{List, [], ◌∷◌}
use native.Mathlib.Omega.{arith}
use lib.IntN.{ℤ, pos}
use lib.ListN.{length}
use borrow.Author.Rules.{rules}
use Rattle.error.specs.{Code.code_of, declared.ErrorCode.TheVariants.NoSlotLeft}
use Rattle.record.specs.{Word.bit, declared.Record.Record}
use Rattle.message.specs.{Message.Ending, Message.Walks}
use Rattle.words.specs.Outcome.{Outcome}
use Rattle.unit_words.specs.Answers.{resolved_in, walked_in}
use Rattle.vinderaz.specs.Tree.{Resolving, Walking, no_word, walks}
use Rattle.error.specs.declared.ErrorCode.{ErrorCode}
use Rattle.tree.specs.declared.Resolved.{Resolved}
use Rattle.message.specs.declared.Stopped.{Stopped}

-- a word that spells a name, and one that does not
pub spells' : (m b : Bool) → b ≡ m → b ≡ true → pos 1 ≡ pos (bit m)
spells' m b e h = rw (sym e, h) refl

pub no_match' : (m b : Bool) → b ≡ m → b ≡ false → pos 0 ≡ pos (bit m)
no_match' m b e h = rw (sym e, h) refl

pub ruleset match_laws = (rules, spells', no_match')

pub resolving' : (R : Result Resolved ErrorCode → Type 0) (slots after : List ℕ) (x : Result Resolved ErrorCode) (n : ℤ) → R x → record { code = n; words = after } ≡ resolved_in slots x
    → Resolving R slots n after
resolving' R slots after x n a e = record { says = x; answer = a; outcome = e }

pub ruleset resolve_laws = (rules, resolving')

module _ (M : List Record → Ending → Type 0) (slots : List ℕ) where
  pub no_word' : (units : List ℕ) → length units ≡ 0 → (n : ℤ) → n ≡ code_of NoSlotLeft → Walking M slots units n slots units
  no_word' [] h n en = rw en no_word
  no_word' (y ∷ units) h n en = absurd (omega arith)

  pub walking' : (units : List ℕ) → (length units ≡ 0 → ⊥) → (x : Result ℕ Stopped) (after later : List ℕ) (n : ℤ) → Walks M slots x after
      → record { code = n; words = later } ≡ walked_in units x → Walking M slots units n after later
  walking' [] h x after later n w e = absurd (h refl)
  walking' (y ∷ units) h x after later n w e = walks w e

pub ruleset walk_laws = (rules, no_word', walking')
