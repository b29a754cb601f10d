-- A table whose blocks follow each other is a tree: each node but the root has one holder, before it.
use Prim.Native.Nat.{ℕ, zero, suc, ◌+◌, ◌≤◌, ◌<◌}
use mathlib.Core.Path.{◌≡◌, refl}
use mathlib.Core.Logic.{◌⊎◌, inl, inr, ⊎_elim}
use mathlib.Core.List.{List}
use mathlib.Core.Bool.{Bool, true, false}
use native.Mathlib.Decide.{ℕ_discrete}
use native.Mathlib.Nat.{le_refl}
use native.Mathlib.Omega.{arith}
use lib.ListN.{length, get_or}
use borrow.Author.Tests.{lt-ltb, le-leb}
use Rattle.kind.proofs.Tests.{by_test, less_or_not}
use Rattle.node.specs.Tree.{branch, first, count, Child, Near, child, under}
use Rattle.branch.specs.Block.{block_of, children_of}
use Rattle.layout.specs.Layout.{behind, ChildBlocks, not_behind, not_to_end, too_early}
use Rattle.layout.proofs.Blocks.{in_table}

pub equal : (a b : ℕ) → ((a ≡ b → ⊥) → ⊥) → a ≡ b
equal a b h = elim (ℕ_discrete a b) [ yes e ↦ e | no e ↦ absurd (h e) ]

-- what is near to a node is near to a branch
pub near_branch : {t : List ℕ} {b k : ℕ} → Near t b k → branch t b ≡ true
near_branch (child c) = c.holder
near_branch (under c d x) = c.holder

module _ (t : List ℕ) where
  behind_more : (k : ℕ) → behind t k ≤ behind t (suc k)
  unfolding behind
  behind_more k = by_test (λ (n : ℕ). behind t k ≤ n) (branch t k) (λ _. omega arith) (λ _. omega arith)

  behind_order : (k j : ℕ) → k ≤ j → behind t k ≤ behind t j
  behind_order k zero h = let e : k ≡ 0 = omega arith in rw e (le_refl (behind t 0))
  behind_order k (suc j) h =
      ⊎_elim (λ l. let e : k ≡ suc j = omega arith in rw e (le_refl (behind t (suc j)))) (λ l. omega (arith, behind_order k j l, behind_more j)) (less_or_not j k)

  module _ (ok : ChildBlocks t → ⊥) where
    pub starts : (b : ℕ) → branch t b ≡ true → first t b ≡ behind t b
    starts b m = equal (first t b) (behind t b) (λ n. ok (not_behind b m n))

    pub after : (b : ℕ) → branch t b ≡ true → b < first t b
    after b m = ⊎_elim (λ l. l) (λ l. absurd (ok (too_early b m l))) (less_or_not b (first t b))

    ends : behind t (length t) ≡ length t
    ends = equal (behind t (length t)) (length t) (λ n. ok (not_to_end n))

    stops : (b : ℕ) → branch t b ≡ true → first t b + count t b ≡ behind t (suc b)
    unfolding behind
    stops b m = rw (m, starts b m)

    pub block_in : (b : ℕ) → branch t b ≡ true → first t b + count t b ≤ length t
    block_in b m = omega (arith, stops b m, behind_order (suc b) (length t) (in_table t b m), ends)

    -- the children that are gone through are the block of the branch
    pub its_children : (b : ℕ) → branch t b ≡ true → children_of t b ≡ block_of (get_or t b 0)
    unfolding children_of
    its_children b m = rw (m, lt-ltb b (first t b) (after b m), le-leb (first t b + count t b) (length t) (block_in b m))

    pub child_in : {b k : ℕ} → Child t b k → k < length t
    child_in {b} c = omega (arith, c.below, block_in b c.holder)

    pub child_after : {b k : ℕ} → Child t b k → b < k
    child_after {b} c = omega (arith, c.from, after b c.holder)

    not_later : {b c k : ℕ} → Child t b k → Child t c k → b < c → ⊥
    not_later {b} {c} x y l =
        omega (arith, x.below, stops b x.holder, behind_order (suc b) c l, starts c y.holder, y.from)

    pub one_holder : {b c k : ℕ} → Child t b k → Child t c k → b ≡ c
    one_holder {b} {c} x y =
        ⊎_elim (λ l. absurd (not_later x y l)) (λ l. ⊎_elim (λ m. absurd (not_later y x m)) (λ m. omega arith) (less_or_not c b)) (less_or_not b c)

    -- the branch among the first n nodes whose block has the node k
    among : (n k : ℕ) → 0 < k → k < behind t n → (b : ℕ) × Child t b k
    unfolding behind
    among zero k p l = absurd (omega arith)
    among (suc n) k p l = go (less_or_not k (behind t n)) (branch t n) refl (among n k p)
      where
        go : (k < behind t n) ⊎ (behind t n ≤ k) → (r : Bool) → branch t n ≡ r → (k < behind t n → (b : ℕ) × Child t b k) → (b : ℕ) × Child t b k
        go (inl u) r e rest = rest u
        go (inr u) true e rest =
            let w : k < behind t n + count t n = rw e at l in
            (n, record { holder = e; from = rw (starts n e) u; below = rw (starts n e) w })
        go (inr u) false e rest = absurd (omega (arith, rw e at l))

    pub holder_of : (k : ℕ) → 0 < k → k < length t → (b : ℕ) × Child t b k
    holder_of k p l = among (length t) k p (omega (arith, ends))

    -- a near node is the child of a branch no earlier than the one that it is near to
    near_holder : {b k : ℕ} → Near t b k → (c : ℕ) × (b ≤ c) × Child t c k
    near_holder {b} (child c) = (b, omega arith, c)
    near_holder (under c d x) = let z = near_holder x in (z.0, omega (arith, child_after c, z.1), z.2)

    -- a child is no near node of another child
    pub elsewhere : {b d k : ℕ} → Child t b k → Child t b d → Near t d k → ⊥
    elsewhere c c' x = let z = near_holder x in omega (arith, child_after c', z.1, one_holder c z.2)

    pub near_in : {b k : ℕ} → Near t b k → (0 < k) × (k < length t)
    near_in x = let z = near_holder x in (omega (arith, child_after z.2), child_in z.2)
