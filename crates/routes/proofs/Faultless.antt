-- The worked tree is accepted.
use Prim.Native.Nat.{ℕ, ◌+◌, ◌≤◌, ◌<◌}
use mathlib.Core.Path.{◌≡◌, refl, sym, ◌∙◌}
use mathlib.Core.Logic.{◌⊎◌, inl, inr, ⊎_elim}
use mathlib.Core.List.{List}
use mathlib.Core.Bool.{Bool, true, false, cond, not, ◌||◌, true≢false}
use native.Mathlib.Omega.{arith}
use lib.Dec.{T, eqb, leb, ltb}
use lib.ListN.{length, get_or}
use borrow.Author.Tests.{not-true, eqb-true, ne_eqb, leb-true, ltb-true, lt-ltb}
use Rattle.error.specs.declared.ErrorCode.{ErrorCode}
use Rattle.kind.specs.Class.{is_capital, is_small, is_digit}
use Rattle.kind.proofs.{Bytes.agree, Bytes.agrees, Tests.by_test, Tests.clash, Tests.either}
use Rattle.util.specs.Run.{run, run_end, stands_at, every}
use Rattle.util.proofs.Decided.{it_holds, it_fails}
use Rattle.mnemonic.specs.Mnemonic.{pairs, folded, either_case, not_small, may_leave_out, compares, last_end, numeric_suffix_start, same_numeric_suffix}
use Rattle.mnemonic.specs.Spelling.{Name}
use Rattle.name.specs.Share.{form_of, shares, Share}
use Rattle.name.specs.Parts.{ends_from, names_from}
use Rattle.name.proofs.Names.{starred', unstarred'}
use Rattle.names.proofs.NameClaims as name
use Rattle.node.specs.Word.{is_branch, is_default, name_length, name_start, first_child, child_count, spare_bits, name_in}
use Rattle.node.specs.Tree.{branch, default, first, count, name_of, Child}
use Rattle.layout.specs.Layout.{NodeCount, no_node, too_many, NodeFields, some_spare_bits, root_no_branch, root_default, root_name_length, root_name_start, leaf_children, behind, ChildBlocks, not_behind, not_to_end, too_early, BadName, outside, no_byte, too_long, no_name, star_branch, star_default, star_below}
use Rattle.table.specs.Fault.{Fault, TwoDefaults, SharedSpelling, node_count, node_fields, child_blocks, node_name, two_defaults, shared_spelling, Accepted}
use Rattle.layout.proofs.Blocks.{in_table}
use Rattle.table.proofs.Shape.{child_in, near_in}
use Rattle.routes.specs.Worked.{nodes, names}

-- a test that was computed to pass for each of the eleven nodes
each : (p : ℕ → Bool) → T (agree p (λ _. true) 0 11) → (k : ℕ) → k < 11 → p k ≡ true
each p t k h = agrees p (λ _. true) 11 k t h

-- a test of a node that has another as its premise
then : (a b : Bool) → (not a || b) ≡ true → a ≡ true → b ≡ true
then true b h e = h
then false b h e = absurd (true≢false (sym e))

-- fault 1
no_count : NodeCount nodes → ⊥
no_count (no_node h) = omega (arith, h)
no_count (too_many h) = omega arith

-- fault 2
no_fields : NodeFields nodes → ⊥
unfolding is_branch is_default name_length name_start child_count spare_bits
no_fields (some_spare_bits k l h) = h (eqb-true _ _ (each (λ k. eqb (spare_bits (get_or nodes k 0)) 0) tt k l))
no_fields (root_no_branch h) = clash refl h
no_fields (root_default h) = clash h refl
no_fields (root_name_length h) = h refl
no_fields (root_name_start h) = h refl
no_fields (leaf_children k l m h) =
    ⊎_elim (λ e. clash e m) (λ e. h (eqb-true _ _ e))
    (either (branch nodes k) (eqb (count nodes k) 0) (each (λ k. branch nodes k || eqb (count nodes k) 0) tt k l))

-- fault 3
no_blocks : ChildBlocks nodes → ⊥
unfolding behind is_branch first_child child_count
no_blocks (not_behind b m n) =
    n (eqb-true _ _ (then (branch nodes b) _ (each (λ b. not (branch nodes b) || eqb (first nodes b) (behind nodes b)) tt b (in_table nodes b m)) m))
no_blocks (not_to_end n) = n refl
no_blocks (too_early b m l) =
    let k : b < first nodes b = ltb-true b (first nodes b) (then (branch nodes b) _ (each (λ b. not (branch nodes b) || ltb b (first nodes b)) tt b (in_table nodes b m)) m) in
    omega (arith, k, l)

-- fault 4

-- the test that a name passes
name_test : List ℕ → Bool
name_test s = cond (stands_at 42 s 0) (names_from s 1) (names_from s 0)

named_by : (s : List ℕ) → name_test s ≡ true → Name s
unfolding name_test
named_by s =
    by_test (λ (c : Bool). c ≡ true → Name s) (stands_at 42 s 0) (λ e h. it_holds (starred' s true (names_from s 1) (sym e) refl refl) h)
    (λ e h. it_holds (unstarred' s false (names_from s 0) (sym e) refl refl) h)

-- the one node with a star
under_root : Child nodes 0 1
unfolding is_branch first_child child_count
under_root = record { holder = refl; from = leb-true 1 1 refl; below = ltb-true 1 5 refl }

module _ (k : ℕ) (p : 0 < k) (l : k < 11) where
  good_name : Name (name_of nodes names k)
  unfolding name_test names_from ends_from stands_at run_end run is_capital is_small is_digit name_length name_start name_in
  good_name = named_by _ (then (ltb 0 k) _ (each (λ k. not (ltb 0 k) || name_test (name_of nodes names k)) tt k l) (lt-ltb 0 k p))

  no_bad_name : BadName nodes names k → ⊥
  unfolding stands_at is_branch is_default name_length name_start name_in first_child child_count
  no_bad_name (outside h) =
      let z : name_start (get_or nodes k 0) + name_length (get_or nodes k 0) ≤ length names = leb-true (name_start (get_or nodes k 0) + name_length (get_or nodes k 0)) (length names) (each (λ k. leb (name_start (get_or nodes k 0) + name_length (get_or nodes k 0)) (length names)) tt k l) in
      omega (arith, z, h)
  no_bad_name (no_byte h) =
      let z : 0 < name_length (get_or nodes k 0) = ltb-true 0 (name_length (get_or nodes k 0)) (then (ltb 0 k) _ (each (λ k. not (ltb 0 k) || ltb 0 (name_length (get_or nodes k 0))) tt k l) (lt-ltb 0 k p)) in
      omega (arith, z, h)
  no_bad_name (too_long h) =
      let z : name_length (get_or nodes k 0) ≤ 12 = leb-true (name_length (get_or nodes k 0)) 12 (each (λ k. leb (name_length (get_or nodes k 0)) 12) tt k l) in
      omega (arith, z, h)
  no_bad_name (no_name h) = h good_name
  no_bad_name (star_branch h m) =
      clash m (not-true (branch nodes k) (then (stands_at 42 (name_of nodes names k) 0) _ (each (λ k. not (stands_at 42 (name_of nodes names k) 0) || not (branch nodes k)) tt k l) h))
  no_bad_name (star_default h m) =
      clash m (not-true (default nodes k) (then (stands_at 42 (name_of nodes names k) 0) _ (each (λ k. not (stands_at 42 (name_of nodes names k) 0) || not (default nodes k)) tt k l) h))
  no_bad_name (star_below h n) =
      let z : k ≡ 1 = eqb-true k 1 (then (stands_at 42 (name_of nodes names k) 0) _ (each (λ k. not (stands_at 42 (name_of nodes names k) 0) || eqb k 1) tt k l) h) in
      n (rw z under_root)

-- fault 5

-- two nodes are default, and no branch has both
default_is : (k : ℕ) → k < 11 → default nodes k ≡ true → (k ≡ 3) ⊎ (k ≡ 9)
unfolding is_default
default_is k l d =
    ⊎_elim (λ e. inl (eqb-true k 3 e)) (λ e. inr (eqb-true k 9 e))
    (either (eqb k 3) (eqb k 9) (then (default nodes k) _ (each (λ k. not (default nodes k) || (eqb k 3 || eqb k 9)) tt k l) d))

apart : (b : ℕ) → Child nodes b 3 → Child nodes b 9 → ⊥
unfolding is_branch first_child child_count
apart b x y =
    ⊎_elim (λ e. let z : 3 < first nodes b = ltb-true 3 (first nodes b) e in omega (arith, z, x.from)) (λ e. let z : first nodes b + count nodes b ≤ 9 = leb-true (first nodes b + count nodes b) 9 e in omega (arith, z, y.below))
    (either (ltb 3 (first nodes b)) (leb (first nodes b + count nodes b) 9)
    (then (branch nodes b) _ (each (λ b. not (branch nodes b) || (ltb 3 (first nodes b) || leb (first nodes b + count nodes b) 9)) tt b (in_table nodes b x.holder)) x.holder))

no_two : TwoDefaults nodes → ⊥
no_two x = go (default_is x.one (child_in nodes no_blocks x.child_one) x.default_one) (default_is x.other (child_in nodes no_blocks x.child_other) x.default_other)
  where
    go : (x.one ≡ 3) ⊎ (x.one ≡ 9) → (x.other ≡ 3) ⊎ (x.other ≡ 9) → ⊥
    go (inl e) (inl f) = x.two (e ∙ sym f)
    go (inl e) (inr f) = apart x.holder (rw e at x.child_one) (rw f at x.child_other)
    go (inr e) (inl f) = apart x.holder (rw f at x.child_other) (rw e at x.child_one)
    go (inr e) (inr f) = x.two (e ∙ sym f)

-- fault 6: no two of the names share a spelling

differ : ℕ → ℕ → Bool
differ k j = eqb k j || (eqb k 0 || (eqb j 0 || not (shares (name_of nodes names k) (name_of nodes names j))))

all_differ : (k j : ℕ) → k < 11 → j < 11 → differ k j ≡ true
unfolding differ shares form_of compares pairs folded either_case not_small may_leave_out last_end numeric_suffix_start same_numeric_suffix run every is_capital is_small is_digit name_length name_start name_in
all_differ k j l u = each (differ k) (passes (each (λ k. agree (differ k) (λ _. true) 0 11) tt k l)) j u
  where
    passes : {c : Bool} → c ≡ true → T c
    passes e = rw e tt

no_share : (k j : ℕ) → k < 11 → j < 11 → 0 < k → 0 < j → (k ≡ j → ⊥) → Share (name_of nodes names k) (name_of nodes names j) → ⊥
unfolding differ
no_share k j l u p q n s =
    let z = rw (ne_eqb k j n, ne_eqb k 0 (λ e. omega (arith, e)), ne_eqb j 0 (λ e. omega (arith, e))) at (all_differ k j l u) in
    it_fails ((name.claims).sharing (name_of nodes names k) (name_of nodes names j) (good_name k p l) (good_name j q u)) (not-true (shares (name_of nodes names k) (name_of nodes names j)) z) s

no_shared : SharedSpelling nodes names → ⊥
no_shared x =
    let y = near_in nodes no_blocks x.near_one in
    let z = near_in nodes no_blocks x.near_other in
    no_share x.one x.other y.1 z.1 y.0 z.0 x.two x.shared

none : (e : ErrorCode) (n : ℕ) → Fault nodes names e n → ⊥
none e n (node_count x) = no_count x
none e n (node_fields x) = no_fields x
none e n (child_blocks x) = no_blocks x
none e n (node_name x) = no_bad_name x.node x.not_root x.inside x.bad
none e n (two_defaults x) = no_two x
none e n (shared_spelling x) = no_shared x

pub accepted : Accepted nodes names
accepted = record { faultless = none }
