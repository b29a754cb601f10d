-- Laws of `matches`, one for each way out of the match.
use Prim.Native.Nat.{ℕ, ◌+◌, ◌-◌, ◌%◌}
use mathlib.Core.Path.{◌≡◌, refl, sym, ap, ◌∙◌}
use mathlib.Core.List.{List, [], ◌∷◌}
use mathlib.Core.Bool.{Bool, true, false, cond, not, ◌&&◌, and-true, and-false, or-false, false≢true}
use native.Mathlib.Omega.{arith}
use lib.ListN.{length, get_or, take, drop}
use lib.Seq.{take-length}
use lib.Dec.{eqb}
use borrow.Author.Rules.{rules}
use borrow.Author.Tests.{not-true, not-false, eqb-false, ne_eqb}
use Rattle.kind.specs.Class.{is_capital}
use Rattle.mnemonic.specs.Mnemonic.{pairs, folded, either_case, compares, numeric_suffix_start, same_numeric_suffix, matches, begins_otherwise}
use Rattle.mnemonic.proofs.{Pairs.differ, Split.stem_some, Split.starts_within'}
use Rattle.mnemonic.proofs.Compare.{part_long', to_end, begin_apart}

empty : (x : List ℕ) → length x ≡ 0 → x ≡ []
empty [] h = refl
empty (b ∷ x) h = absurd (omega arith)

-- a suffix beside none, and beside another
module _ (x y : List ℕ) where
  pub none_none' : length x ≡ 0 → length y ≡ 0 → true ≡ same_numeric_suffix x y
  unfolding same_numeric_suffix pairs
  none_none' h k = rw (empty x h, empty y k)

  module _ (o : Bool) where
    pub none_some' : length x ≡ 0 → (length y ≡ 0 → ⊥) → o ≡ pairs eqb y (49 ∷ []) → o ≡ same_numeric_suffix x y
    unfolding same_numeric_suffix pairs
    none_some' h some e = e ∙ sym (rw (empty x h, differ eqb [] y (λ q. some (sym q))) (or-false (pairs eqb y (49 ∷ []))))

    pub some_none' : (length x ≡ 0 → ⊥) → length y ≡ 0 → o ≡ pairs eqb x (49 ∷ []) → o ≡ same_numeric_suffix x y
    unfolding same_numeric_suffix pairs
    some_none' some h e = e ∙ sym (rw (empty y h, differ eqb x [] some) (and-true (pairs eqb x (49 ∷ []))))

    pub some_some' : (length x ≡ 0 → ⊥) → (length y ≡ 0 → ⊥) → o ≡ pairs eqb x y → o ≡ same_numeric_suffix x y
    unfolding same_numeric_suffix
    some_some' some other e = e ∙ sym (rw (differ eqb x [] some, differ eqb y [] other, and-false) (or-false (pairs eqb x y)))

-- a test of two halves, by its second one
module _ (m i s j : List ℕ) (o : Bool) (e : o ≡ same_numeric_suffix i j) where
  pub refused' : not o ≡ true → false ≡ (compares m s && same_numeric_suffix i j)
  refused' k = sym (rw (← e, not-true o k) (and-false (compares m s)))

  pub granted' : not o ≡ false → (c : Bool) → c ≡ compares m s → c ≡ (compares m s && same_numeric_suffix i j)
  granted' k c q = q ∙ sym (rw (← e, not-false o k) (and-true (compares m s)))

-- a letter has the same remainder by 32 in either case
same_remainder : (b : ℕ) → folded b % 32 ≡ b % 32
unfolding folded
same_remainder b = go (is_capital b)
  where
    go : (r : Bool) → cond r (b + 32) b % 32 ≡ b % 32
    go true = omega arith
    go false = refl

pub apart : (c d : ℕ) → not (eqb (c % 32) (d % 32)) ≡ true → either_case c d ≡ false
unfolding either_case
apart c d h =
    ne_eqb (folded c) (folded d)
    (λ e. eqb-false (c % 32) (d % 32) (not-true _ h) (sym (same_remainder c) ∙ ap (λ (b : ℕ). b % 32) e ∙ same_remainder d))

-- texts that begin otherwise do not match, nor do their stems
pub begin_unlike : (m s : List ℕ) → begins_otherwise m s ≡ true → matches m s ≡ false
unfolding begins_otherwise matches
begin_unlike [] s h = absurd (false≢true h)
begin_unlike (c ∷ m) [] h = absurd (false≢true h)
begin_unlike (c ∷ m) (d ∷ s) h =
    let x = stem_some c m in
    let y = stem_some d s in
    let e = apart c d h in
    rw (begin_apart c d m s e, x.1, y.1, begin_apart c d (take x.0 m) (take y.0 s) e)

module _ (m s : List ℕ) where
  pub no_mnemonic' : length m ≡ 0 → false ≡ begins_otherwise m s
  unfolding begins_otherwise
  no_mnemonic' h = rw (empty m h)

  pub no_word' : length s ≡ 0 → false ≡ begins_otherwise m s
  unfolding begins_otherwise
  no_word' h = rw (empty s h) (go m)
    where
      go : (m : List ℕ) → false ≡ begins_otherwise m []
      go [] = refl
      go (c ∷ m) = refl

  pub remainders' : (length m ≡ 0 → ⊥) → (length s ≡ 0 → ⊥) → not (eqb (get_or m 0 0 % 32) (get_or s 0 0 % 32)) ≡ begins_otherwise m s
  unfolding begins_otherwise
  remainders' = go m s
    where
      go : (m s : List ℕ) → (length m ≡ 0 → ⊥) → (length s ≡ 0 → ⊥) → not (eqb (get_or m 0 0 % 32) (get_or s 0 0 % 32)) ≡ begins_otherwise m s
      go [] s h k = absurd (h refl)
      go (c ∷ m) [] h k = absurd (k refl)
      go (c ∷ m) (d ∷ s) h k = refl

  pub unlike' : (r : Bool) → r ≡ begins_otherwise m s → r ≡ true → false ≡ matches m s
  unlike' r e q = sym (begin_unlike m s (sym e ∙ q))

module _ (m s : List ℕ) (a : Bool) (first : a ≡ compares m s) where
  pub at_once' : a ≡ true → true ≡ matches m s
  unfolding matches
  at_once' q = rw (← first, q)

  module _ (x y : ℕ) (px : x ≡ numeric_suffix_start m) (py : y ≡ numeric_suffix_start s) (q : a ≡ false) where
    parted : matches m s ≡ (compares (take x m) (take y s) && same_numeric_suffix (drop x m) (drop y s))
    unfolding matches
    parted = rw (← first, q, ← px, ← py)

    pub neither' : x ≡ length m → y ≡ length s → false ≡ matches m s
    neither' hx hy = sym (parted ∙ rw (hx, hy, take-length m, take-length s, ← first, q))

    pub parts' : (c : Bool) → c ≡ (compares (take x m) (take y s) && same_numeric_suffix (take (length m - x) (drop x m)) (take (length s - y) (drop y s)))
        → c ≡ matches m s
    parts' c e = e ∙ sym (parted ∙ rw (to_end x m, to_end y s))

    pub word_parts' : x ≡ length m → (c : Bool) → c ≡ (compares m (take y s) && same_numeric_suffix (take (length m - x) (drop x m)) (take (length s - y) (drop y s)))
        → c ≡ matches m s
    word_parts' hx c e = e ∙ sym (parted ∙ rw (to_end x m, to_end y s, hx, take-length m))

pub ruleset suffix_laws = (rules, none_none', none_some', some_none', some_some')

pub ruleset parts_laws = (rules, refused', granted')

pub ruleset begin_laws = (rules, no_mnemonic', no_word', remainders')

pub ruleset laws = (rules, unlike', part_long', starts_within', at_once', neither', parts', word_parts')
