-- One answer only: what is returned and what is left are determined by what was lent.
use Rattle.std.specs.Prelude.{Result}
use Prim.Native.Nat.{ℕ}
use mathlib.Core.Path.{◌≡◌, refl, sym, ap, ◌∙◌}
use mathlib.Core.List.{List, [], ◌∷◌}
use lib.IntN.{ℤ}
use Rattle.record.specs.declared.Record.{Record}
use Rattle.message.specs.{Message.Ending, Message.Walks}
use Rattle.words.specs.Outcome.{Outcome}
use Rattle.unit_words.specs.Answers.{resolved_in, walked_in}
use Rattle.vinderaz.specs.Tree.{Resolving, Walking, no_word, walks}
use Rattle.error.specs.declared.ErrorCode.{ErrorCode}
use Rattle.tree.specs.declared.Resolved.{Resolved}
use Rattle.message.specs.declared.Stopped.{Stopped}

abbrev outcome_of : ℤ → List ℕ → Outcome ℕ
outcome_of r words = record { code = r; words = words }

codes : {o p : Outcome ℕ} → o ≡ p → o.code ≡ p.code
codes e = ap (λ (x : Outcome ℕ). x.code) e

left : {o p : Outcome ℕ} → o ≡ p → o.words ≡ p.words
left e = ap (λ (x : Outcome ℕ). x.words) e

-- two answers that are the same leave the slots the same
pub same_resolving : {R Q : Result Resolved ErrorCode → Type 0} → ((x y : Result Resolved ErrorCode) → R x → Q y → x ≡ y) → (slots : List ℕ) (r q : ℤ) (after later : List ℕ)
    → Resolving R slots r after → Resolving Q slots q later → (r ≡ q) × (after ≡ later)
same_resolving one slots r q after later x y = (codes both, left both)
  where
    both : outcome_of r after ≡ outcome_of q later
    both = x.outcome ∙ ap (resolved_in slots) (one x.says y.says x.answer y.answer) ∙ sym y.outcome

-- and so do two walks
pub same_walking : {M N : List Record → Ending → Type 0}
    → ((slots : List ℕ) (v w : Result ℕ Stopped) (after later : List ℕ) → Walks M slots v after → Walks N slots w later → (v ≡ w) × (after ≡ later))
    → (slots units : List ℕ) (r q : ℤ) (after later units' units'' : List ℕ) → Walking M slots units r after units' → Walking N slots units q later units''
    → (r ≡ q) × (after ≡ later) × (units' ≡ units'')
same_walking one slots [] r q after later units' units'' no_word no_word = (refl, refl, refl)
same_walking one slots (x ∷ units) r q after later units' units'' (walks {w = v} a d) (walks {w = w} b e) =
    let same = one slots v w after later a b in
    let both : outcome_of r units' ≡ outcome_of q units'' = d ∙ ap (walked_in (x ∷ units)) same.0 ∙ sym e in
    (codes both, same.1, left both)
