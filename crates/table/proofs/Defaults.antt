-- Laws of fault 5, as the code meets them.
use Rattle.std.specs.Prelude.{Option, Some, None}
use Prim.Native.Nat.{ℕ, ◌+◌, ◌≤◌, ◌<◌}
use mathlib.Core.Path.{◌≡◌, sym, ◌∙◌}
use mathlib.Core.Logic.{◌⊎◌, inl, inr, ⊎_elim}
use mathlib.Core.List.{List}
use mathlib.Core.Bool.{Bool, true, false, not}
use native.Mathlib.Omega.{arith}
use lib.ListN.{length, get_or}
use borrow.Author.Rules.{rules}
use borrow.Author.Tests.{not-true, not-false}
use Rattle.kind.proofs.Tests.{clash, less_or_not}
use Rattle.util.specs.Decides.{Decides, holds, fails}
use Rattle.util.proofs.Before.{Before, none_yet, one_more}
use Rattle.util.proofs.Decided.{it_holds, it_fails}
use Rattle.node.specs.Word.{is_branch}
use Rattle.node.specs.Tree.{branch, default, first, count}
use Rattle.branch.specs.Children.{unsaid_in, PicksIn, first_in, none_in}
use Rattle.branch.specs.Block.{block_of, children_of, next_child}
use Rattle.branch.specs.{declared.Block.Block}
use Rattle.branch.proofs.{Blocks.next_in', Picks.covers, Picks.not_past}
use Rattle.layout.proofs.Blocks.{in_table}
use Rattle.table.specs.Fault.{TwoDefaults}
use Rattle.table.specs.Internal.{TwoDefaultsIn, OneDefault, DefaultBranch, inner, no_inner, Blocks}
use Rattle.table.proofs.Shape.{its_children}

-- the first default node of a block: it is in the table, and no default node is before it
record First (t : List ℕ) (from to d : ℕ) : Type 0 where
  pub low : from ≤ d
  pub high : d < to
  pub is : default t d ≡ true
  pub inside : d < length t
  pub before : (k : ℕ) → from ≤ k → default t k ≡ true → d ≤ k

first_at : {t : List ℕ} {from to d : ℕ} → PicksIn (unsaid_in t) from to (Some d) → First t from to d
unfolding unsaid_in
first_at {t} {from} {d = d} (first_in l u e f) =
    let inside : d < length t = ⊎_elim (λ h. h) (λ h. clash e (not_past t d h)) (less_or_not d (length t)) in
    record { low = l; high = u; is = e; inside = inside; before = λ k h g. ⊎_elim (λ i. clash g (f k h i)) (λ i. i) (less_or_not k d) }

none_at : (t : List ℕ) {from to : ℕ} → PicksIn (unsaid_in t) from to None → (k : ℕ) → from ≤ k → k < to → default t k ≡ true → ⊥
unfolding unsaid_in
none_at t (none_in f) k l u e = clash e (f k l u)

-- two in a block

module _ (t : List ℕ) (from to : ℕ) (p : Option ℕ) (x : PicksIn (unsaid_in t) from to p) where
  pub two_none' : p ≡ None → Decides (TwoDefaultsIn t from to) false
  two_none' e = fails (λ z. none_at t (rw e at x) z.one z.low (omega (arith, z.order, z.high)) z.default_one)

  module _ (d : ℕ) (e : p ≡ Some d) (i : ℕ) (n : i ≡ next_child t d) (q : Option ℕ) (y : PicksIn (unsaid_in t) i to q) where
    one : First t from to d
    one = first_at (rw e at x)

    next : i ≡ d + 1
    next = n ∙ sym (next_in' t d one.inside)

    pub two_one' : q ≡ None → Decides (TwoDefaultsIn t from to) false
    two_one' f =
        fails (λ z. none_at t (rw f at y) z.other (omega (arith, next, one.before z.one z.low z.default_one, z.order)) z.high z.default_other)

    pub two_two' : (k : ℕ) → q ≡ Some k → Decides (TwoDefaultsIn t from to) true
    two_two' k f =
        let other = first_at (rw f at y) in
        holds
        (record {
          one = d;
          other = k;
          low = one.low;
          order = omega (arith, next, other.low);
          high = other.high;
          default_one = one.is;
          default_other = other.is;
        })

pub ruleset two_laws = (rules, two_none', two_one', two_two')

-- in all blocks

-- a branch has at most one default child
abbrev pub One : List ℕ → ℕ → Type 0
One t b = TwoDefaultsIn t (children_of t b).from (children_of t b).to → ⊥

-- what the loop keeps: so it is with the branches before b
abbrev pub Single : List ℕ → ℕ → Type 0
Single t b = Before (One t) 0 b

module _ (t : List ℕ) where
  two_in : TwoDefaults t → (b : ℕ) × (branch t b ≡ true) × TwoDefaultsIn t (first t b) (first t b + count t b)
  two_in x = (x.holder, x.child_one.holder, go (less_or_not x.one x.other))
    where
      go : (x.one < x.other) ⊎ (x.other ≤ x.one) → TwoDefaultsIn t (first t x.holder) (first t x.holder + count t x.holder)
      go (inl l) =
          record {
            one = x.one;
            other = x.other;
            low = x.child_one.from;
            order = l;
            high = x.child_other.below;
            default_one = x.default_one;
            default_other = x.default_other;
          }
      go (inr l) =
          record {
            one = x.other;
            other = x.one;
            low = x.child_other.from;
            order = omega (arith, x.two);
            high = x.child_one.below;
            default_one = x.default_other;
            default_other = x.default_one;
          }

  pub single_begins' : Single t 0
  single_begins' = none_yet (One t) 0

  module _ (b : ℕ) (inv : Single t b) where
    pub single_end' : Blocks t → length t ≤ b → Decides (TwoDefaults t) false
    unfolding block_of
    single_end' ok h =
        fails (λ x. let z = two_in x in inv.all z.0 (omega arith) (omega (arith, in_table t z.0 z.1)) (rw (its_children t ok.no_child_blocks z.0 z.1) z.2))

    module _ (x : Block) (p : x ≡ children_of t b) (o : Bool) (d : Decides (TwoDefaultsIn t x.from x.to) o) where
      met : Decides (TwoDefaultsIn t (children_of t b).from (children_of t b).to) o
      met = rw (← p) d

      pub two_found' : o ≡ true → Decides (TwoDefaults t) true
      two_found' w =
          let y = it_holds met w in
          holds
          (record {
            holder = b;
            one = y.one;
            other = y.other;
            child_one = ((covers t b).only y.one y.low (omega (arith, y.order, y.high))).child;
            child_other = ((covers t b).only y.other (omega (arith, y.low, y.order)) y.high).child;
            two = λ k. omega (arith, y.order);
            default_one = y.default_one;
            default_other = y.default_other;
          })

      pub single_more' : o ≡ false → (i : ℕ) → i ≡ b + 1 → Single t i
      single_more' w i h = one_more (One t) 0 b inv (it_fails met w) i h

pub ruleset single_laws = (rules, single_begins', single_end', two_found', single_more')

-- the default branch of a block that has one default node at most

module _ (t : List ℕ) (from to : ℕ) (p : Option ℕ) (x : PicksIn (unsaid_in t) from to p) where
  pub inner_none' : p ≡ None → DefaultBranch t from to None
  inner_none' e = no_inner (λ k l u b f. none_at t (rw e at x) k l u f)

  module _ (d : ℕ) (e : p ≡ Some d) where
    pub inner_inside' : d < length t
    inner_inside' = (first_at (rw e at x)).inside

    module _ (g : Bool) (f : g ≡ is_branch (get_or t d 0)) where
      -- a default branch would be a second default node
      pub inner_leaf' : not g ≡ true → OneDefault t from to → DefaultBranch t from to None
      inner_leaf' w ok = no_inner (λ k l u b i. go k (less_or_not d k) u b i ((first_at (rw e at x)).before k l i))
        where
          go : (k : ℕ) → (d < k) ⊎ (k ≤ d) → k < to → branch t k ≡ true → default t k ≡ true → d ≤ k → ⊥
          go k (inl m) u b i h =
              let y = first_at (rw e at x) in
              ok.one (record { one = d; other = k; low = y.low; order = m; high = u; default_one = y.is; default_other = i })
          go k (inr m) u b i h = let z : k ≡ d = omega arith in clash (rw z at b) (sym f ∙ not-true g w)

      pub inner_found' : not g ≡ false → DefaultBranch t from to (Some d)
      inner_found' w = let y = first_at (rw e at x) in inner y.low y.high (sym f ∙ not-false g w) y.is

pub ruleset inner_laws = (rules, inner_inside', inner_none', inner_leaf', inner_found')
