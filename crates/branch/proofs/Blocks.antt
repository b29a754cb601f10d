-- Laws of blocks, as the code meets them.
use Prim.Native.Nat.{ℕ, ◌+◌, ◌≤◌, ◌<◌}
use mathlib.Core.Path.{◌≡◌, sym, ◌∙◌}
use mathlib.Core.List.{List}
use mathlib.Core.Bool.{Bool, true, false, not}
use native.Mathlib.Omega.{arith}
use lib.Dec.{ltb}
use lib.ListN.{length, get_or}
use borrow.Author.Rules.{rules}
use borrow.Author.Tests.{not-true, not-false, ltb-true, le-leb, lt-leb, le-ltb, lt-ltb}
use Rattle.kind.proofs.Tests.{clash}
use Rattle.util.specs.Decides.{Decides, fails}
use Rattle.util.proofs.Decided.{by_both}
use Rattle.node.specs.Word.{is_branch, first_child, child_count}
use Rattle.node.specs.Tree.{branch, Child}
use Rattle.node.proofs.Laws.{block_fits', past_table}
use Rattle.branch.specs.Block.{block, block_of, children_of, next_child}
use Rattle.branch.specs.declared.Block.{Block}

-- whether a node is a branch

pub outside' : (t : List ℕ) (b : ℕ) → length t ≤ b → false ≡ branch t b
outside' t b h = sym (past_table t b h)

pub ruleset branch_laws = (rules, outside')

-- the block of a branch

pub block' : (w f c : ℕ) → f ≡ first_child w → c ≡ child_count w → block f (f + c) ≡ block_of w
unfolding block_of
block' w f c p q = rw (← p, ← q)

pub ruleset block_laws = (rules, block_fits', block')

-- the children of a branch

module _ (t : List ℕ) (b : ℕ) where
  no_children : branch t b ≡ false → block 0 0 ≡ children_of t b
  unfolding children_of
  no_children e = rw e

  pub past' : length t ≤ b → block 0 0 ≡ children_of t b
  past' h = no_children (past_table t b h)

  module _ (r : Bool) (e : r ≡ is_branch (get_or t b 0)) where
    pub at_leaf' : not r ≡ true → block 0 0 ≡ children_of t b
    at_leaf' q = no_children (sym e ∙ not-true r q)

    module _ (q : not r ≡ false) (x : Block) (p : x ≡ block_of (get_or t b 0)) where
      pub too_early' : x.from ≤ b → block 0 0 ≡ children_of t b
      unfolding children_of block_of
      too_early' h = rw (sym e ∙ not-false r q, le-ltb b (first_child (get_or t b 0)) (rw p at h))

      pub too_far' : b < x.from → length t < x.to → block 0 0 ≡ children_of t b
      unfolding children_of block_of
      too_far' l h =
          rw (sym e ∙ not-false r q, lt-ltb b (first_child (get_or t b 0)) (rw p at l), lt-leb (first_child (get_or t b 0) + child_count (get_or t b 0)) (length t) (rw p at h))

      pub lies' : b < x.from → x.to ≤ length t → x ≡ children_of t b
      unfolding children_of block_of
      lies' l h =
          rw (p, sym e ∙ not-false r q, lt-ltb b (first_child (get_or t b 0)) (rw p at l), le-leb (first_child (get_or t b 0) + child_count (get_or t b 0)) (length t) (rw p at h))

pub ruleset children_laws = (rules, past', at_leaf', too_early', too_far', lies')

-- the child after a child

pub next_in' : (t : List ℕ) (k : ℕ) → k < length t → k + 1 ≡ next_child t k
unfolding next_child
next_in' t k h = rw (lt-ltb k (length t) h)

pub next_past' : (t : List ℕ) (k : ℕ) → length t ≤ k → k ≡ next_child t k
unfolding next_child
next_past' t k h = rw (le-ltb k (length t) h)

pub ruleset next_laws = (rules, next_in', next_past')

-- whether a node is a child of a branch

module _ (t : List ℕ) (b k : ℕ) where
  pub past_child' : length t ≤ b → Decides (Child t b k) false
  past_child' h = fails (λ x. clash x.holder (past_table t b h))

  module _ (r : Bool) (e : r ≡ is_branch (get_or t b 0)) where
    pub leaf_child' : not r ≡ true → Decides (Child t b k) false
    leaf_child' q = fails (λ x. clash x.holder (sym e ∙ not-true r q))

    module _ (q : not r ≡ false) (x : Block) (p : x ≡ block_of (get_or t b 0)) where
      pub before_child' : k < x.from → Decides (Child t b k) false
      unfolding block_of
      before_child' h = let l = rw p at h in fails (λ c. omega (arith, l, c.from))

      pub in_block' : x.from ≤ k → Decides (Child t b k) (ltb k x.to)
      unfolding block_of
      in_block' h =
          by_both (ltb k x.to)
          (λ g. record { holder = sym e ∙ not-false r q; from = rw p at h; below = rw p at (ltb-true k x.to g) })
          (λ c. lt-ltb k x.to (rw p c.below))

pub ruleset child_laws = (rules, past_child', leaf_child', before_child', in_block')
