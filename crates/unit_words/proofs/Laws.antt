-- Laws of the answers in words, as the code meets them.
use Rattle.std.specs.Prelude.{Result, Ok, Err}
use Prim.Native.Nat.{ℕ}
use mathlib.Core.Path.{◌≡◌, refl, sym, ap, ◌∙◌}
use mathlib.Core.List.{List, [], ◌∷◌}
use mathlib.Core.Bool.{Bool}
use native.Mathlib.Omega.{arith}
use lib.IntN.{ℤ, pos}
use lib.ListN.{length, set}
use borrow.Author.Rules.{rules}
use Rattle.error.specs.{Code.code_of, declared.ErrorCode.ErrorCode, declared.ErrorCode.TheVariants.NoSlotLeft}
use Rattle.words.specs.Outcome.{Outcome}
use Rattle.unit_words.specs.Answers.{checked_code, header_word, resolved_in, walked_in}
use Rattle.tree.specs.declared.Resolved.{Resolved}
use Rattle.message.specs.declared.Stopped.{Stopped}

-- tables

pub told' : (n : ℤ) (x y : Result Unit ErrorCode) → x ≡ y → n ≡ checked_code y → n ≡ checked_code x
told' n x y e h = h ∙ sym (ap checked_code e)

pub ruleset check_laws = (rules, told')

-- headers

pub refused' : (slots : List ℕ) (x : Result Resolved ErrorCode) (e : ErrorCode) → x ≡ Err e → (n : ℤ) → n ≡ code_of e
    → record { code = n; words = slots } ≡ resolved_in slots x
unfolding resolved_in
refused' slots x e q n en = rw (q, en)

pub no_slot' : (slots : List ℕ) (x : Result Resolved ErrorCode) (u : Resolved) → x ≡ Ok u → length slots ≡ 0
    → (n : ℤ) → n ≡ code_of NoSlotLeft → record { code = n; words = slots } ≡ resolved_in slots x
unfolding resolved_in
no_slot' [] x u q h n en = rw (q, en)
no_slot' (y ∷ slots) x u q h n en = absurd (omega arith)

pub first_slot' : (slots : List ℕ) (x : Result Resolved ErrorCode) (u : Resolved) → x ≡ Ok u
    → (length slots ≡ 0 → ⊥) → (w : ℕ) → w ≡ header_word u.command u.query u.branch → record { code = pos 0; words = set slots 0 w } ≡ resolved_in slots x
unfolding resolved_in
first_slot' [] x u q h w ew = absurd (h refl)
first_slot' (y ∷ slots) x u q h w ew = rw (q, ew)

pub ruleset header_laws = (rules, refused', no_slot', first_slot')

-- messages

pub no_word' : (units : List ℕ) (x : Result ℕ Stopped) → length units ≡ 0 → (n : ℤ) → n ≡ code_of NoSlotLeft
    → record { code = n; words = units } ≡ walked_in units x
unfolding walked_in
no_word' [] x h n en = rw en
no_word' (y ∷ units) x h n en = absurd (omega arith)

pub counted' : (units : List ℕ) (x : Result ℕ Stopped) → (length units ≡ 0 → ⊥) → (n : ℕ) → x ≡ Ok n
    → record { code = pos 0; words = set units 0 n } ≡ walked_in units x
unfolding walked_in
counted' [] x h n q = absurd (h refl)
counted' (y ∷ units) x h n q = rw q

pub stopped' : (units : List ℕ) (x : Result ℕ Stopped) → (length units ≡ 0 → ⊥) → (u : Stopped) → x ≡ Err u → (k : ℤ) → k ≡ code_of u.error
    → record { code = k; words = set units 0 u.units } ≡ walked_in units x
unfolding walked_in
stopped' [] x h u q k ek = absurd (h refl)
stopped' (y ∷ units) x h u q k ek = rw (q, ek)

pub ruleset message_laws = (rules, no_word', counted', stopped')
