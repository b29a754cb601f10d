-- Laws of picks among the nodes of a block, as the code meets them; and what they are among the children of a branch.
use Rattle.std.specs.Prelude.{Option, Some, None}
use Prim.Native.Nat.{ℕ, ◌+◌, ◌-◌, ◌≤◌, ◌<◌}
use mathlib.Core.Path.{◌≡◌, refl, sym, ◌∙◌}
use mathlib.Core.Logic.{◌⊎◌, inl, inr}
use mathlib.Core.List.{List}
use mathlib.Core.Bool.{Bool, true, false, cond, ◌&&◌}
use native.Mathlib.Omega.{arith}
use lib.Dec.{leb, ltb}
use lib.ListN.{length, get_or, get_or-eq_default}
use borrow.Author.Rules.{rules}
use borrow.Author.Tests.{ltb-true, leb-true, lt-ltb, le-leb}
use Rattle.kind.proofs.Tests.{clash, and_left, and_right, less_or_not}
use Rattle.util.specs.Run.{least}
use Rattle.util.proofs.Runs.{least_le, not_least}
use Rattle.util.proofs.Before.{Before, none_yet, one_more}
use Rattle.node.specs.Word.{is_default}
use Rattle.node.specs.Tree.{branch, first, count}
use Rattle.branch.specs.Children.{Below, unsaid_in, Picks, first_one, not_one, PicksIn, first_in, none_in}
use Rattle.branch.specs.Block.{block, block_of, children_of, next_child}
use Rattle.branch.proofs.Blocks.{next_in'}

-- the nodes from one index up to another, and not the one there, are the children of b
pub record Covers (t : List ℕ) (b from to : ℕ) : Type 0 where
  pub only : (k : ℕ) → from ≤ k → k < to → Below t b k
  pub all : (k : ℕ) → Below t b k → (from ≤ k) × (k < to)

pub covers : (t : List ℕ) (b : ℕ) → Covers t b (children_of t b).from (children_of t b).to
unfolding children_of block_of
covers t b = by (branch t b && (ltb b (first t b) && leb (first t b + count t b) (length t))) refl
  where
    by : (c : Bool) → (branch t b && (ltb b (first t b) && leb (first t b + count t b) (length t))) ≡ c
        → Covers t b (cond c (block_of (get_or t b 0)) (block 0 0)).from (cond c (block_of (get_or t b 0)) (block 0 0)).to
    by true e =
        let m = and_left (branch t b) (ltb b (first t b) && leb (first t b + count t b) (length t)) e in
        let r = and_right (branch t b) (ltb b (first t b) && leb (first t b + count t b) (length t)) e in
        let l = ltb-true b (first t b) (and_left (ltb b (first t b)) (leb (first t b + count t b) (length t)) r) in
        let u = leb-true (first t b + count t b) (length t) (and_right (ltb b (first t b)) (leb (first t b + count t b) (length t)) r) in
        record {
          only = λ k low high. record { child = record { holder = m; from = low; below = high }; behind = l; within = u };
          all = λ k x. (x.child.from, x.child.below);
        }
    by false e =
        record {
          only = λ k low high. absurd (omega arith);
          all = λ k x. clash (rw (x.child.holder, lt-ltb b (first t b) x.behind, le-leb (first t b + count t b) (length t) x.within)) e;
        }

-- the index of a child is an index of the table
pub below_in : {t : List ℕ} {b k : ℕ} → Below t b k → k < length t
below_in x = omega (arith, x.child.below, x.within)

-- what the loops keep: the nodes before k do not pass
abbrev pub Passed : (ℕ → Bool) → ℕ → ℕ → Type 0
Passed p from k = Before (λ j. p j ≡ false) from k

-- the default node of a block

pub not_past : (t : List ℕ) (k : ℕ) → length t ≤ k → unsaid_in t k ≡ false
unfolding unsaid_in is_default
not_past t k h = rw (get_or-eq_default t 0 h)

module _ (t : List ℕ) (from to e : ℕ) where
  pub default_begins' : Passed (unsaid_in t) from from
  default_begins' = none_yet (λ j. unsaid_in t j ≡ false) from

  module _ (h : e ≡ least to (length t)) (k : ℕ) where
    pub default_inside' : k < e → k < length t
    default_inside' l = omega (arith, h, (least_le to (length t)).1)

    pub default_less' : k < e → (i : ℕ) → i ≡ next_child t k → e - i < e - k
    default_less' l i n = omega (arith, n, next_in' t k (default_inside' l))

    module _ (inv : Passed (unsaid_in t) from k) where
      pub default_over' : e ≤ k → PicksIn (unsaid_in t) from to None
      default_over' l = none_in (λ j low high. go j (less_or_not j k) (not_least to (length t) k (omega (arith, h))) low high)
        where
          go : (j : ℕ) → (j < k) ⊎ (k ≤ j) → (to ≤ k) ⊎ (length t ≤ k) → from ≤ j → j < to → unsaid_in t j ≡ false
          go j (inl x) y low high = inv.all j low x
          go j (inr x) (inl y) low high = absurd (omega arith)
          go j (inr x) (inr y) low high = not_past t j (omega arith)

      module _ (l : k < e) (r : Bool) (q : r ≡ is_default (get_or t k 0)) where
        pub default_found' : r ≡ true → PicksIn (unsaid_in t) from to (Some k)
        unfolding unsaid_in
        default_found' y = first_in inv.low (omega (arith, h, (least_le to (length t)).0)) (sym q ∙ y) inv.all

        pub default_more' : r ≡ false → (i : ℕ) → i ≡ next_child t k → Passed (unsaid_in t) from i
        unfolding unsaid_in
        default_more' y i n =
            one_more (λ j. unsaid_in t j ≡ false) from k inv (sym q ∙ y) i (n ∙ sym (next_in' t k (default_inside' l)))

pub ruleset default_laws = (rules, default_begins', default_inside', default_less', default_over', default_found', default_more')

-- a pick of a block is one of the branch whose children the block has
module _ (t : List ℕ) (b from to : ℕ) (c : Covers t b from to) (p : ℕ → Bool) where
  pub picks_covered : (x : Option ℕ) → PicksIn p from to x → Picks t b p x
  picks_covered (Some k) (first_in low high e f) = first_one (c.only k low high) e (λ j x l. f j (c.all j x).0 l)
  picks_covered None (none_in f) = not_one (λ j x. f j (c.all j x).0 (c.all j x).1)

pub picks_children : (t : List ℕ) (b : ℕ) (p : ℕ → Bool) (x : Option ℕ) → PicksIn p (children_of t b).from (children_of t b).to x → Picks t b p x
picks_children t b p = picks_covered t b (children_of t b).from (children_of t b).to (covers t b) p

-- what was picked is a child, in the table and nearer to its end than its branch
pub picked : {t : List ℕ} {b k : ℕ} {q : ℕ → Bool} → Picks t b q (Some k) → Below t b k
picked (first_one x e f) = x

pub deeper : {t : List ℕ} {b k : ℕ} {q : ℕ → Bool} → Picks t b q (Some k) → (k < length t) × (length t - k < length t - b)
deeper x =
    let y = picked x in
    let l = below_in y in
    (l, omega (arith, l, y.behind, y.child.from))
