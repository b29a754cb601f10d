-- Laws of the faults 1 and 2, as the code meets them.
use Prim.Native.Nat.{ℕ, ◌+◌, ◌≤◌, ◌<◌}
use mathlib.Core.Path.{◌≡◌, refl, sym, ◌∙◌}
use mathlib.Core.List.{List}
use mathlib.Core.Bool.{Bool, true, false, not, ◌&&◌, ◌||◌}
use native.Mathlib.Omega.{arith}
use lib.Dec.{eqb, ltb}
use lib.ListN.{length, get_or, get_or-eq_default}
use borrow.Author.Rules.{rules}
use borrow.Author.Tests.{not-true, not-false, ltb-true, lt-ltb, eqb-true, eqb-false, eq-eqb, ne_eqb}
use Rattle.kind.proofs.Tests.{and_left, and_right, clash}
use Rattle.util.specs.Decides.{Decides, holds, fails}
use Rattle.util.proofs.Decided.{by_both}
use Rattle.node.specs.Word.{is_branch, is_default, name_length, name_start, child_count, spare_bits}
use Rattle.layout.specs.Layout.{most_nodes, NodeCount, no_node, too_many, NodeFields, some_spare_bits, root_no_branch, root_default, root_name_length, root_name_start, leaf_children}
use Rattle.layout.specs.Internal.{is_root, has_fields}
use Rattle.util.proofs.Before.{Before, none_yet, one_more}

module _ (t : List ℕ) where
  pub count_none' : length t ≡ 0 → Decides (NodeCount t) true
  count_none' h = holds (no_node h)

  pub count_many' : (length t ≡ 0 → ⊥) → Decides (NodeCount t) (ltb most_nodes (length t))
  count_many' some = by_both (ltb most_nodes (length t)) (λ e. too_many (ltb-true most_nodes (length t) e)) into
    where
      into : NodeCount t → ltb most_nodes (length t) ≡ true
      into (no_node h) = absurd (some h)
      into (too_many h) = lt-ltb most_nodes (length t) h

pub ruleset count_laws = (rules, count_none', count_many')

-- the word of a root

module _ (w : ℕ) (r : Bool) (e : r ≡ is_branch w) where
  pub root_leaf' : not r ≡ true → false ≡ is_root w
  unfolding is_root
  root_leaf' q = rw (← e, not-true r q)

  module _ (q : not r ≡ false) (d : Bool) (f : d ≡ is_default w) where
    pub root_default' : d ≡ true → false ≡ is_root w
    unfolding is_root
    root_default' k = rw (← e, not-false r q, ← f, k)

    module _ (k : d ≡ false) (n : ℕ) (g : n ≡ name_length w) where
      pub root_long' : (n ≡ 0 → ⊥) → false ≡ is_root w
      unfolding is_root
      root_long' h = rw (← e, not-false r q, ← f, k, ← g, ne_eqb n 0 h)

      pub root_placed' : n ≡ 0 → (m : ℕ) → m ≡ name_start w → eqb m 0 ≡ is_root w
      unfolding is_root
      root_placed' h m i = rw (← e, not-false r q, ← f, k, ← g, eq-eqb n 0 h, ← i)

pub ruleset root_laws = (rules, root_leaf', root_default', root_long', root_placed')

-- the word of any node

module _ (w s : ℕ) (e : s ≡ spare_bits w) where
  pub spare_set' : (s ≡ 0 → ⊥) → false ≡ has_fields w
  unfolding has_fields
  spare_set' h = rw (← e, ne_eqb s 0 h)

  module _ (h : s ≡ 0) (r : Bool) (f : r ≡ is_branch w) where
    pub branch_fits' : r ≡ true → true ≡ has_fields w
    unfolding has_fields
    branch_fits' q = rw (← e, eq-eqb s 0 h, ← f, q)

    pub leaf_fits' : r ≡ false → (c : ℕ) → c ≡ child_count w → eqb c 0 ≡ has_fields w
    unfolding has_fields
    leaf_fits' q c g = rw (← e, eq-eqb s 0 h, ← f, q, ← g)

pub ruleset word_laws = (rules, spare_set', branch_fits', leaf_fits')

-- all words

-- what the loop keeps: the root's word, and the words before k
pub record Fitting (t : List ℕ) (k : ℕ) : Type 0 where
  pub root : is_root (get_or t 0 0) ≡ true
  pub passed : Before (λ j. has_fields (get_or t j 0) ≡ true) 0 k

root_fault : (t : List ℕ) → is_root (get_or t 0 0) ≡ false → NodeFields t
unfolding is_root
root_fault t h = one (is_branch (get_or t 0 0)) refl
  where
    four : eqb (name_start (get_or t 0 0)) 0 ≡ false → NodeFields t
    four q = root_name_start (eqb-false (name_start (get_or t 0 0)) 0 q)

    three : (r : Bool) → eqb (name_length (get_or t 0 0)) 0 ≡ r → (r && eqb (name_start (get_or t 0 0)) 0) ≡ false → NodeFields t
    three true e q = four q
    three false e q = root_name_length (eqb-false (name_length (get_or t 0 0)) 0 e)

    two : (r : Bool) → is_default (get_or t 0 0) ≡ r → (not r && (eqb (name_length (get_or t 0 0)) 0 && eqb (name_start (get_or t 0 0)) 0)) ≡ false → NodeFields t
    two true e q = root_default e
    two false e q = three (eqb (name_length (get_or t 0 0)) 0) refl q

    one : (r : Bool) → is_branch (get_or t 0 0) ≡ r → NodeFields t
    one true e = two (is_default (get_or t 0 0)) refl (rw e at h)
    one false e = root_no_branch e

word_fault : (t : List ℕ) (k : ℕ) → k < length t → has_fields (get_or t k 0) ≡ false → NodeFields t
unfolding has_fields
word_fault t k l h = one (eqb (spare_bits (get_or t k 0)) 0) refl h
  where
    two : (r : Bool) → is_branch (get_or t k 0) ≡ r → (r || eqb (child_count (get_or t k 0)) 0) ≡ false → NodeFields t
    two true e q = clash refl q
    two false e q = leaf_children k l e (eqb-false (child_count (get_or t k 0)) 0 q)

    one : (r : Bool) → eqb (spare_bits (get_or t k 0)) 0 ≡ r → (r && (is_branch (get_or t k 0) || eqb (child_count (get_or t k 0)) 0)) ≡ false → NodeFields t
    one true e q = two (is_branch (get_or t k 0)) refl q
    one false e q = some_spare_bits k l (eqb-false (spare_bits (get_or t k 0)) 0 e)

no_fault : (t : List ℕ) → is_root (get_or t 0 0) ≡ true → ((k : ℕ) → k < length t → has_fields (get_or t k 0) ≡ true) → NodeFields t → ⊥
unfolding is_root has_fields
no_fault t root all = none
  where
    default_name : (not (is_default (get_or t 0 0)) && (eqb (name_length (get_or t 0 0)) 0 && eqb (name_start (get_or t 0 0)) 0)) ≡ true
    default_name = and_right (is_branch (get_or t 0 0)) _ root

    name : (eqb (name_length (get_or t 0 0)) 0 && eqb (name_start (get_or t 0 0)) 0) ≡ true
    name = and_right (not (is_default (get_or t 0 0))) _ default_name

    none : NodeFields t → ⊥
    none (some_spare_bits k l h) =
        h (eqb-true (spare_bits (get_or t k 0)) 0 (and_left (eqb (spare_bits (get_or t k 0)) 0) (is_branch (get_or t k 0) || eqb (child_count (get_or t k 0)) 0) (all k l)))
    none (root_no_branch h) = clash (and_left (is_branch (get_or t 0 0)) (not (is_default (get_or t 0 0)) && (eqb (name_length (get_or t 0 0)) 0 && eqb (name_start (get_or t 0 0)) 0)) root) h
    none (root_default h) =
        clash h (not-true (is_default (get_or t 0 0)) (and_left (not (is_default (get_or t 0 0))) (eqb (name_length (get_or t 0 0)) 0 && eqb (name_start (get_or t 0 0)) 0) default_name))
    none (root_name_length h) = h (eqb-true (name_length (get_or t 0 0)) 0 (and_left (eqb (name_length (get_or t 0 0)) 0) (eqb (name_start (get_or t 0 0)) 0) name))
    none (root_name_start h) = h (eqb-true (name_start (get_or t 0 0)) 0 (and_right (eqb (name_length (get_or t 0 0)) 0) (eqb (name_start (get_or t 0 0)) 0) name))
    none (leaf_children k l b h) =
        let a = and_right (eqb (spare_bits (get_or t k 0)) 0) (is_branch (get_or t k 0) || eqb (child_count (get_or t k 0)) 0) (all k l) in
        h (eqb-true (child_count (get_or t k 0)) 0 (rw b at a))

module _ (t : List ℕ) where
  pub fields_none' : length t ≡ 0 → Decides (NodeFields t) true
  unfolding is_branch
  fields_none' h = let z : get_or t 0 0 ≡ 0 = get_or-eq_default t 0 (omega arith) in holds (root_no_branch (rw z))

  module _ (r : Bool) (e : r ≡ is_root (get_or t 0 0)) where
    pub fields_root' : not r ≡ true → Decides (NodeFields t) true
    fields_root' q = holds (root_fault t (sym e ∙ not-true r q))

    pub fields_begins' : not r ≡ false → Fitting t 0
    fields_begins' q = record { root = sym e ∙ not-false r q; passed = none_yet (λ j. has_fields (get_or t j 0) ≡ true) 0 }

  module _ (k : ℕ) (inv : Fitting t k) where
    pub fields_end' : length t ≤ k → Decides (NodeFields t) false
    fields_end' h = fails (no_fault t inv.root (λ j l. inv.passed.all j (omega arith) (omega arith)))

    module _ (r : Bool) (l : k < length t) (e : r ≡ has_fields (get_or t k 0)) where
      pub fields_bad' : not r ≡ true → Decides (NodeFields t) true
      fields_bad' q = holds (word_fault t k l (sym e ∙ not-true r q))

      pub fields_more' : not r ≡ false → (i : ℕ) → i ≡ k + 1 → Fitting t i
      fields_more' q i h =
          record { root = inv.root; passed = one_more (λ j. has_fields (get_or t j 0) ≡ true) 0 k inv.passed (sym e ∙ not-false r q) i h }

pub ruleset fields_laws = (rules, fields_none', fields_root', fields_begins', fields_end', fields_bad', fields_more')
