-- Names that begin with different characters have no form in common.
use Prim.Native.Nat.{ℕ, suc, ◌+◌, ◌≤◌, ◌<◌}
use mathlib.Core.Path.{◌≡◌, refl, sym, ◌∙◌}
use mathlib.Core.Logic.{◌⊎◌, inl, inr}
use mathlib.Core.List.{List, [], ◌∷◌, ◌++◌}
use mathlib.Core.Bool.{Bool, true, false, cond}
use native.Mathlib.Omega.{arith}
use lib.Dec.{leb}
use lib.ListN.{length, get_or, take}
use borrow.Author.Tests.{leb-true, ne_eqb}
use Rattle.kind.specs.Class.{is_capital, is_small, is_digit}
use Rattle.kind.proofs.{Tests.and_left, Classes.capital_no_digit, Classes.capital_no_small}
use Rattle.util.specs.Run.{run, every}
use Rattle.mnemonic.specs.Mnemonic.{pairs, folded, either_case, not_small, compares, last_end, numeric_suffix_start, stem}
use Rattle.mnemonic.specs.Spelling.{Name}
use Rattle.name.specs.Share.{form_of, shares}

-- what a name may begin with
Initial : ℕ → Type 0
Initial c = (is_capital c ≡ true) ⊎ (c ≡ 42)

record Begins (n : List ℕ) : Type 0 where
  first : ℕ
  rest : List ℕ
  whole : n ≡ first ∷ rest
  initial : Initial first

begins : (n : List ℕ) → Name n → Begins n
unfolding Initial every
begins n name = starred name.star name.star_or_none name.parts
  where
    plain : (cs l : List ℕ) → (cs ≡ [] → ⊥) → every is_capital cs ≡ true → n ≡ cs ++ l → Begins n
    plain [] l some all e = absurd (some refl)
    plain (c ∷ cs) l some all e = record { first = c; rest = cs ++ l; whole = e; initial = inl (and_left (is_capital c) (every is_capital cs) all) }

    starred : (s : List ℕ) → (s ≡ []) ⊎ (s ≡ 42 ∷ []) → n ≡ s ++ (name.capitals ++ (name.smalls ++ name.digits)) → Begins n
    starred s (inl h) e = plain name.capitals (name.smalls ++ name.digits) name.some_capital name.all_capital (rw h at e)
    starred s (inr h) e = record { first = 42; rest = name.capitals ++ (name.smalls ++ name.digits); whole = rw h at e; initial = inr refl }

-- a name is not empty
pub name_filled : (n : List ℕ) → Name n → 0 < length n
name_filled n name = let b = begins n name in rw b.whole (omega arith)

no_digit : (c : ℕ) → Initial c → is_digit c ≡ false
unfolding Initial is_digit
no_digit c (inl p) = capital_no_digit c p
no_digit c (inr e) = rw e

no_small : (c : ℕ) → Initial c → is_small c ≡ false
unfolding Initial is_small
no_small c (inl p) = capital_no_small c p
no_small c (inr e) = rw e

above : (c : ℕ) → is_capital c ≡ true → 65 ≤ c
unfolding is_capital
above c p = leb-true 65 c (and_left (leb 65 c) (leb c 90) p)

-- two of them that differ are not one letter in two cases
two_cases : (c d : ℕ) → Initial c → Initial d → (c ≡ d → ⊥) → either_case c d ≡ false
unfolding Initial either_case folded is_capital
two_cases c d (inl p) (inl q) h = rw (p, q) (ne_eqb (c + 32) (d + 32) (λ e. h (omega (arith, e))))
two_cases c d (inl p) (inr q) h = rw (p, q) (ne_eqb (c + 32) 42 (λ e. omega (arith, e, above c p)))
two_cases c d (inr p) (inl q) h = rw (p, q) (ne_eqb 42 (d + 32) (λ e. omega (arith, e, above d q)))
two_cases c d (inr p) (inr q) h = absurd (h (p ∙ sym q))

-- a mnemonic and a text that begin so do not compare
heads_differ : (c d : ℕ) (m x : List ℕ) → either_case c d ≡ false → compares (c ∷ m) (d ∷ x) ≡ false
unfolding compares pairs
heads_differ c d m x h = rw h

-- what stands before the numeric suffix begins as the name does
stem_from : (c : ℕ) (a : List ℕ) → is_digit c ≡ false → (x : List ℕ) × (stem (c ∷ a) ≡ c ∷ x)
unfolding numeric_suffix_start last_end every
stem_from c a p = rw p (go (every is_digit a))
  where
    go : (e : Bool) → (x : List ℕ) × (take (cond e 1 (suc (last_end a))) (c ∷ a) ≡ c ∷ x)
    go true = ([], refl)
    go false = (take (last_end a) a, refl)

form_apart : (c d : ℕ) (m x : List ℕ) → is_small d ≡ false → either_case c d ≡ false → form_of (c ∷ m) (d ∷ x) ≡ false
unfolding form_of run not_small
form_apart c d m x q h = rw (q, heads_differ c d m x h) (heads_differ c d m (take (run not_small x) x) h)

pub initials : (a b : List ℕ) → Name a → Name b → (get_or a 0 0 ≡ get_or b 0 0 → ⊥) → shares a b ≡ false
unfolding shares
initials a b na nb h =
    let p = begins a na in
    let q = begins b nb in
    let x = stem_from p.first p.rest (no_digit p.first p.initial) in
    let y = stem_from q.first q.rest (no_digit q.first q.initial) in
    let e = two_cases p.first q.first p.initial q.initial (λ k. h (rw (p.whole, q.whole) k)) in
    rw (p.whole, q.whole, x.1, y.1, form_apart p.first q.first x.0 y.0 (no_small q.first q.initial) e)
