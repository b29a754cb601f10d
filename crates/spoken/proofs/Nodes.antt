-- Laws of the names of nodes and the mnemonic at a place, as the code meets them.
use Rattle.std.specs.Prelude.{Option, Some, None}
use Prim.Native.Nat.{ℕ, zero, suc, ◌+◌, ◌-◌, ◌%◌, ◌≤◌, ◌<◌}
use mathlib.Core.Path.{◌≡◌, refl, sym, ap, ◌∙◌}
use mathlib.Core.Logic.{◌⊎◌, inl, inr, ⊎_elim}
use mathlib.Core.List.{List, [], ◌∷◌}
use mathlib.Core.Bool.{Bool, true, false, not, ◌&&◌, and-false}
use native.Mathlib.Omega.{arith}
use lib.Dec.{leb, ltb}
use lib.ListN.{length, get_or, take, drop, get_or-eq_default}
use lib.Seq.{drop-cons, take-nil}
use borrow.Author.Rules.{rules}
use borrow.Author.Tests.{not-false, leb-true, le-ltb, ne_eqb}
use Rattle.kind.proofs.Tests.{by_test, less_or_not}
use Rattle.util.specs.Run.{least}
use Rattle.util.proofs.Runs.{least_le, not_least}
use Rattle.util.proofs.Before.{Before, none_yet, one_more}
use Rattle.mnemonic.specs.Mnemonic.{pairs, compares, numeric_suffix_start, matches, begins_otherwise}
use Rattle.mnemonic.proofs.{Match.begin_unlike, Split.stem_some}
use Rattle.token.specs.View.{part_of, view_of}
use Rattle.node.specs.Word.{name_start, name_length, name_in, initial_in}
use Rattle.node.specs.Tree.{name_of}
use Rattle.branch.specs.Block.{next_child}
use Rattle.branch.proofs.Blocks.{next_in'}
use Rattle.spoken.specs.Spoken.{spelled_at, Spells, first_spelled, none_spelled}
use Rattle.spoken.specs.{Internal.begin_alike}
use Rattle.spoken.proofs.Mnemonics.{mnemonic_end, part_is, end_within, unspelled}

-- a name of no characters is matched by no mnemonic that has one
nameless : (d : ℕ) (w : List ℕ) → matches [] (d ∷ w) ≡ false
unfolding matches compares pairs
nameless d w = rw (take-nil (numeric_suffix_start []), (stem_some d w).1)

-- a name that begins otherwise than the text, or is empty
unlike : (x s : List ℕ) (at : ℕ) → ((d : ℕ) (w : List ℕ) → d ≡ get_or s at 0 → matches x (d ∷ w) ≡ false) → None ≡ spelled_at x s at
unlike x s at h = unspelled s at x (go (less_or_not at (mnemonic_end s at)))
  where
    go : (at < mnemonic_end s at) ⊎ (mnemonic_end s at ≤ at) → (ltb at (mnemonic_end s at) && matches x (part_of s (view_of at (mnemonic_end s at)))) ≡ false
    go (inr l) = rw (le-ltb at (mnemonic_end s at) l)
    go (inl l) =
        let n : mnemonic_end s at - at ≡ suc (mnemonic_end s at - suc at) = omega (arith, l) in
        let w = take (mnemonic_end s at - suc at) (drop (suc at) s) in
        let e : part_of s (view_of at (mnemonic_end s at)) ≡ get_or s at 0 ∷ w = part_is s at l ∙ rw (n, drop-cons s at 0 (omega (arith, l, end_within s at l))) refl in
        rw (e, h (get_or s at 0) w refl) (and-false (ltb at (mnemonic_end s at)))

pub empty_not : (x s : List ℕ) (at : ℕ) → length x ≡ 0 → None ≡ spelled_at x s at
empty_not [] s at h = unlike [] s at (λ d w e. nameless d w)
empty_not (c ∷ x) s at h = absurd (omega (arith, h))

other_first : (x s : List ℕ) (at : ℕ) → (get_or x 0 0 % 32 ≡ get_or s at 0 % 32 → ⊥) → None ≡ spelled_at x s at
unfolding begins_otherwise
other_first [] s at h = empty_not [] s at refl
other_first (c ∷ x) s at h =
    unlike (c ∷ x) s at (λ d w e. begin_unlike (c ∷ x) (d ∷ w) (ap not (ne_eqb (c % 32) (d % 32) (λ q. h (q ∙ ap (λ (k : ℕ). k % 32) e)))))

-- the name of a node is empty, or begins with its first byte
name_first : (names : List ℕ) (w : ℕ) → (length (name_in names w) ≡ 0) ⊎ (get_or (name_in names w) 0 0 ≡ initial_in names w)
unfolding name_in initial_in
name_first names w =
    by_test (λ (y : List ℕ). (length y ≡ 0) ⊎ (get_or y 0 0 ≡ get_or names (name_start w) 0)) (leb (name_start w + name_length w) (length names))
    (λ e. some (name_length w) (leb-true (name_start w + name_length w) (length names) e)) (λ e. inl refl)
  where
    some : (n : ℕ) → name_start w + n ≤ length names → (length (take n (drop (name_start w) names)) ≡ 0) ⊎ (get_or (take n (drop (name_start w) names)) 0 0 ≡ get_or names (name_start w) 0)
    some zero h = inl refl
    some (suc n) h = inr (rw (drop-cons names (name_start w) 0 (omega (arith, h))) refl)

-- the name of one node

module _ (names : List ℕ) (w : ℕ) (s : List ℕ) (at f : ℕ) (ef : f ≡ get_or s at 0) where
  pub passed_over' : (i : ℕ) → i ≡ initial_in names w → (i % 32 ≡ f % 32 → ⊥) → None ≡ spelled_at (name_in names w) s at
  passed_over' i ei h =
      ⊎_elim (empty_not (name_in names w) s at)
      (λ e. other_first (name_in names w) s at (λ q. h (ap (λ (k : ℕ). k % 32) (ei ∙ sym e) ∙ q ∙ ap (λ (k : ℕ). k % 32) (sym ef))))
      (name_first names w)

  module _ (x : List ℕ) (ex : x ≡ name_in names w) where
    pub no_name' : length x ≡ 0 → None ≡ spelled_at (name_in names w) s at
    no_name' h = empty_not (name_in names w) s at (rw ex at h)

    pub by_name' : (o : Option ℕ) → o ≡ spelled_at x s at → o ≡ spelled_at (name_in names w) s at
    by_name' o e = rw ex at e

    pub name_begins' : (b : Bool) → b ≡ begin_alike (get_or x 0 0) f → not b ≡ false → begin_alike (get_or x 0 0) (get_or s at 0) ≡ true
    name_begins' b e q = rw ef at (sym e ∙ not-false b q)

pub ruleset node_laws = (rules, passed_over', no_name', by_name', name_begins')

-- the nodes of a block

abbrev pub Passed : List ℕ → List ℕ → List ℕ → ℕ → ℕ → ℕ → Type 0
Passed t names s at from k = Before (λ j. spelled_at (name_of t names j) s at ≡ None) from k

-- past the table there is no name
past_not : (t names s : List ℕ) (at k : ℕ) → length t ≤ k → spelled_at (name_of t names k) s at ≡ None
unfolding name_in name_length
past_not t names s at k h =
    rw (get_or-eq_default t 0 h)
    (sym (empty_not (name_in names 0) s at (by_test (λ (y : List ℕ). length y ≡ 0) (leb (name_start 0 + name_length 0) (length names)) (λ _. refl) (λ _. refl))))

module _ (t names s : List ℕ) (from to at e : ℕ) where
  pub block_begins' : Passed t names s at from from
  block_begins' = none_yet (λ j. spelled_at (name_of t names j) s at ≡ None) from

  module _ (h : e ≡ least to (length t)) (k : ℕ) where
    pub block_inside' : k < e → k < length t
    block_inside' l = omega (arith, h, (least_le to (length t)).1)

    pub block_less' : k < e → (i : ℕ) → i ≡ next_child t k → e - i < e - k
    block_less' l i n = omega (arith, n, next_in' t k (block_inside' l))

    module _ (inv : Passed t names s at from k) where
      pub block_over' : e ≤ k → Spells t names s from to at None
      block_over' l = none_spelled (λ j low high. go j (less_or_not j k) (not_least to (length t) k (omega (arith, h))) low high)
        where
          go : (j : ℕ) → (j < k) ⊎ (k ≤ j) → (to ≤ k) ⊎ (length t ≤ k) → from ≤ j → j < to → spelled_at (name_of t names j) s at ≡ None
          go j (inl x) y low high = inv.all j low x
          go j (inr x) (inl y) low high = absurd (omega arith)
          go j (inr x) (inr y) low high = past_not t names s at j (omega arith)

      module _ (l : k < e) (o : Option ℕ) (q : o ≡ spelled_at (name_of t names k) s at) where
        pub block_found' : (next : ℕ) → o ≡ Some next → Spells t names s from to at (Some (k, next))
        block_found' next y = first_spelled inv.low (omega (arith, h, (least_le to (length t)).0)) (sym q ∙ y) inv.all

        pub block_more' : o ≡ None → (i : ℕ) → i ≡ next_child t k → Passed t names s at from i
        block_more' y i n =
            one_more (λ j. spelled_at (name_of t names j) s at ≡ None) from k inv (sym q ∙ y) i (n ∙ sym (next_in' t k (block_inside' l)))

pub ruleset block_laws = (rules, block_begins', block_inside', block_less', block_over', block_found', block_more')
