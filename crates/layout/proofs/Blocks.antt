-- Laws of fault 3, as the code meets them.
use Prim.Native.Nat.{ℕ, ◌+◌, ◌≤◌, ◌<◌}
use mathlib.Core.Path.{◌≡◌, refl, sym, ◌∙◌}
use mathlib.Core.Logic.{⊎_elim}
use mathlib.Core.List.{List}
use mathlib.Core.Bool.{Bool, true, false, not}
use native.Mathlib.Numerals.{add-one}
use native.Mathlib.Omega.{arith}
use lib.Dec.{eqb}
use lib.ListN.{length, get_or}
use borrow.Author.Rules.{rules}
use borrow.Author.Tests.{not-true, eqb-false, ne_eqb}
use Rattle.kind.proofs.Tests.{clash, less_or_not}
use Rattle.util.specs.Decides.{Decides, holds}
use Rattle.util.proofs.Decided.{by_both}
use Rattle.node.specs.{Word.is_branch, Tree.branch, Tree.first}
use Rattle.node.proofs.Laws.{past_table}
use Rattle.branch.specs.{Block.block_of, declared.Block.Block}
use Rattle.layout.specs.Layout.{behind, ChildBlocks, not_behind, not_to_end, too_early}
use Rattle.util.proofs.Before.{Before, none_yet, one_more}

-- a branch lies in the table
pub in_table : (t : List ℕ) (b : ℕ) → branch t b ≡ true → b < length t
in_table t b h = ⊎_elim (λ l. l) (λ l. clash h (past_table t b l)) (less_or_not b (length t))

-- a branch has its block behind those before it, and after itself
pub record Placed (t : List ℕ) (b : ℕ) : Type 0 where
  pub starts : branch t b ≡ true → first t b ≡ behind t b
  pub after : branch t b ≡ true → b < first t b

-- what the loop keeps: where the next block must start, and that those before k are as they must be
pub record Follows (t : List ℕ) (k a : ℕ) : Type 0 where
  pub within : k ≤ length t
  pub place : a ≡ behind t k
  pub placed : Before (Placed t) 0 k

module _ (t : List ℕ) where
  pub blocks_begins' : Follows t 0 1
  unfolding behind
  blocks_begins' = record { within = omega arith; place = refl; placed = none_yet (Placed t) 0 }

  module _ (k a : ℕ) (inv : Follows t k a) where
    pub blocks_end' : length t ≤ k → Decides (ChildBlocks t) (not (eqb a (length t)))
    blocks_end' h = by_both (not (eqb a (length t))) out into
      where
        whole : k ≡ length t
        whole = omega (arith, inv.within)

        out : not (eqb a (length t)) ≡ true → ChildBlocks t
        out e = not_to_end (λ q. eqb-false a (length t) (not-true (eqb a (length t)) e) (inv.place ∙ rw whole q))

        into : ChildBlocks t → not (eqb a (length t)) ≡ true
        into (not_behind b m n) = absurd (n ((inv.placed.all b (omega arith) (omega (arith, in_table t b m))).starts m))
        into (not_to_end n) = rw (ne_eqb a (length t) (λ q. n (sym (rw whole at inv.place) ∙ q)))
        into (too_early b m l) = absurd (omega (arith, (inv.placed.all b (omega arith) (omega (arith, in_table t b m))).after m))

    module _ (r : Bool) (l : k < length t) (e : r ≡ is_branch (get_or t k 0)) where
      pub blocks_leaf' : r ≡ false → (i : ℕ) → i ≡ k + 1 → Follows t i a
      unfolding behind
      blocks_leaf' q i h =
          record {
            within = omega arith;
            place = rw (h, add-one, ← e, q) inv.place;
            placed = one_more (Placed t) 0 k inv.placed (record { starts = λ u. clash u (sym e ∙ q); after = λ u. clash u (sym e ∙ q) }) i h;
          }

      module _ (q : r ≡ true) (x : Block) (p : x ≡ block_of (get_or t k 0)) where
        starts : x.from ≡ first t k
        unfolding block_of
        starts = rw p

        pub blocks_apart' : (x.from ≡ a → ⊥) → Decides (ChildBlocks t) true
        blocks_apart' n = holds (not_behind k (sym e ∙ q) (λ h. n (starts ∙ h ∙ sym inv.place)))

        pub blocks_early' : x.from ≤ k → Decides (ChildBlocks t) true
        blocks_early' h = holds (too_early k (sym e ∙ q) (rw starts at h))

        pub blocks_more' : x.from ≡ a → k < x.from → (i : ℕ) → i ≡ k + 1 → (n : ℕ) → n ≡ x.to → Follows t i n
        unfolding behind block_of
        blocks_more' same low i h n g =
            record {
              within = omega arith;
              place = rw (h, add-one, ← e, q, g, p, ← inv.place, ← same, starts);
              placed = one_more (Placed t) 0 k inv.placed (record { starts = λ u. sym starts ∙ same ∙ inv.place; after = λ u. rw starts at low }) i h;
            }

pub ruleset blocks_laws = (rules, blocks_begins', blocks_end', blocks_leaf', blocks_apart', blocks_early', blocks_more')
