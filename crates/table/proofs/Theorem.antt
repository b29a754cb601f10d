-- It is enough to compare, at each branch, its children with each other and with the near nodes of its default branch.
use Prim.Native.Nat.{ℕ, ◌+◌, ◌≤◌, ◌<◌}
use mathlib.Core.Path.{◌≡◌, sym, subst, ◌∙◌}
use mathlib.Core.Logic.{◌↔◌, ⊎_elim}
use mathlib.Core.List.{List}
use mathlib.Core.Bool.{Bool, true, false}
use native.Mathlib.Omega.{arith}
use lib.ListN.{length, get_or}
use borrow.Author.Rules.{rules}
use Rattle.kind.proofs.Tests.{clash, less_or_not}
use Rattle.util.specs.Decides.{Decides, holds, fails}
use Rattle.util.proofs.Decided.{it_holds, it_fails, one_answer}
use Rattle.name.specs.Share.{shares, Share}
use Rattle.names.proofs.Shares.{sharing}
use Rattle.node.specs.Word.{is_branch}
use Rattle.node.specs.Tree.{branch, default, name_of, Child, Near, child, under}
use Rattle.layout.specs.Layout.{ChildBlocks}
use Rattle.table.specs.Fault.{SharedSpelling}
use Rattle.table.specs.Internal.{SharesAt, children, below, Ready}
use Rattle.util.proofs.Before.{Before, none_yet, one_more}
use Rattle.layout.proofs.{Blocks.in_table, NodeNames.name_of_lem}
use Rattle.table.proofs.Shape.{child_in, elsewhere, near_in}
use Rattle.table.proofs.Shared.{one_default}

flip : {a b : List ℕ} → Share a b → Share b a
flip s = record { word = s.word; one = s.other; other = s.one }

module _ (t names : List ℕ) (ok : Ready t names) where
  module _ (k j : ℕ) (p : 0 < k) (l : k < length t) (q : 0 < j) (m : j < length t) where
    exact : Decides (Share (name_of t names k) (name_of t names j)) (shares (name_of t names k) (name_of t names j))
    exact = sharing (name_of t names k) (name_of t names j) (name_of_lem t names ok.no_node_name k p l) (name_of_lem t names ok.no_node_name j q m)

    tested : Share (name_of t names k) (name_of t names j) → shares (name_of t names k) (name_of t names j) ≡ true
    tested s = one_answer exact (holds s)

    shared : shares (name_of t names k) (name_of t names j) ≡ true → Share (name_of t names k) (name_of t names j)
    shared e = it_holds exact e

  abbrev whole : ChildBlocks t → ⊥
  whole = ok.blocks.no_child_blocks

  -- complete: two near nodes that share a spelling are found at some branch
  sisters : {b k j : ℕ} → Child t b k → Child t b j → k < j → Share (name_of t names k) (name_of t names j) → SharesAt t names b
  sisters {b} {k} {j} c d l s =
      children
      (record {
        one = k;
        low = c.from;
        rest = record { node = j; low = omega arith; high = d.below; shared = tested k j (near_in t whole (child c)).0 (child_in t whole c) (near_in t whole (child d)).0 (child_in t whole d) s };
      })

  -- a child, and a near node of the default branch
  aunt : {b k d j : ℕ} → Child t b k → Child t b d → default t d ≡ true → Near t d j → Share (name_of t names j) (name_of t names k) → SharesAt t names b
  aunt {b} {k} {d} {j} c e m x s =
      below
      (record {
        inner = d;
        inner_child = e;
        inner_default = m;
        shares =
            record {
              one = j;
              near = x;
              rest = record { node = k; low = c.from; high = c.below; shared = tested j k (near_in t whole x).0 (near_in t whole x).1 (near_in t whole (child c)).0 (child_in t whole c) s };
            };
      })

  found : {b k j : ℕ} → Near t b k → Near t b j → (k ≡ j → ⊥) → Share (name_of t names k) (name_of t names j) → (a : ℕ) × (branch t a ≡ true) × SharesAt t names a
  found {b} {k} {j} (child c) (child d) two s =
      (b, c.holder, ⊎_elim (λ l. sisters c d l s) (λ l. sisters d c (omega (arith, two)) (flip s)) (less_or_not k j))
  found {b} (child c) (under d m x) two s = (b, c.holder, aunt c d m x (flip s))
  found {b} (under c m x) (child d) two s = (b, d.holder, aunt d c m x s)
  found {j = j} (under {d = d} c m x) (under {d = e} c' m' y) two s =
      let q : e ≡ d = one_default t names ok c' c m' m in
      found x (subst (λ (n : ℕ). Near t n j) q y) two s

  -- sound: what is found at a branch are two near nodes of it
  sound : {b : ℕ} → branch t b ≡ true → SharesAt t names b → SharedSpelling t names
  sound {b} m (children x) =
      let c : Child t b x.one = record { holder = m; from = x.low; below = omega (arith, x.rest.low, x.rest.high) } in
      let d : Child t b x.rest.node = record { holder = m; from = omega (arith, x.low, x.rest.low); below = x.rest.high } in
      record {
        holder = b;
        one = x.one;
        other = x.rest.node;
        near_one = child c;
        near_other = child d;
        two = λ e. omega (arith, x.rest.low);
        shared = shared x.one x.rest.node (near_in t whole (child c)).0 (child_in t whole c) (near_in t whole (child d)).0 (child_in t whole d) x.rest.shared;
      }
  sound {b} m (below z) =
      let x = z.shares in
      let c : Child t b x.rest.node = record { holder = m; from = x.rest.low; below = x.rest.high } in
      record {
        holder = b;
        one = x.one;
        other = x.rest.node;
        near_one = under z.inner_child z.inner_default x.near;
        near_other = child c;
        two = λ q. elsewhere t whole c z.inner_child (subst (λ (k : ℕ). Near t z.inner k) q x.near);
        shared = shared x.one x.rest.node (near_in t whole x.near).0 (near_in t whole x.near).1 (near_in t whole (child c)).0 (child_in t whole c) x.rest.shared;
      }

  pub enough : SharedSpelling t names ↔ ((b : ℕ) × (branch t b ≡ true) × SharesAt t names b)
  enough = (λ x. found x.near_one x.near_other x.two x.shared, λ x. sound x.1 x.2)

-- what the loop keeps: nothing was found at a branch before b
abbrev pub Clear : List ℕ → List ℕ → ℕ → Type 0
Clear t names a = branch t a ≡ true → SharesAt t names a → ⊥

module _ (t names : List ℕ) where
  pub clear_begins' : Before (Clear t names) 0 0
  clear_begins' = none_yet (Clear t names) 0

  module _ (b : ℕ) (inv : Before (Clear t names) 0 b) where
    pub clear_end' : Ready t names → length t ≤ b → Decides (SharedSpelling t names) false
    clear_end' ok h =
        fails (λ x. let z = found t names ok x.near_one x.near_other x.two x.shared in inv.all z.0 (omega arith) (omega (arith, in_table t z.0 z.1)) z.1 z.2)

    module _ (r : Bool) (e : r ≡ is_branch (get_or t b 0)) where
      pub clear_leaf' : r ≡ false → (i : ℕ) → i ≡ b + 1 → Before (Clear t names) 0 i
      clear_leaf' q i h = one_more (Clear t names) 0 b inv (λ u. clash u (sym e ∙ q)) i h

      module _ (q : r ≡ true) (o : Bool) (d : Decides (SharesAt t names b) o) where
        pub clear_found' : Ready t names → o ≡ true → Decides (SharedSpelling t names) true
        clear_found' ok w = holds (sound t names ok (sym e ∙ q) (it_holds d w))

        pub clear_more' : o ≡ false → (i : ℕ) → i ≡ b + 1 → Before (Clear t names) 0 i
        clear_more' w i h = one_more (Clear t names) 0 b inv (λ u. it_fails d w) i h

pub branch_told' : (t : List ℕ) (b : ℕ) (r : Bool) → r ≡ is_branch (get_or t b 0) → r ≡ true → branch t b ≡ true
branch_told' t b r e q = sym e ∙ q

pub ruleset clear_laws = (rules, branch_told', clear_begins', clear_end', clear_leaf', clear_found', clear_more')
