-- The claims.
use Rattle.std.specs.Prelude.{Result, Err}
use Prim.Native.Nat.{ℕ, ◌≤◌, ◌<◌}
use mathlib.Core.Path.{◌≡◌, refl, sym, ap, ◌∙◌}
use mathlib.Core.Logic.{◌⊎◌, inl, inr}
use mathlib.Core.List.{List, [], ◌∷◌}
use mathlib.Core.Bool.{Bool, true, false, cond}
use native.Mathlib.Omega.{arith}
use lib.Dec.{eqb}
use lib.IntN.{pos}
use Rattle.error.specs.{Code.code_of, declared.ErrorCode.ErrorCode}
use Rattle.kind.proofs.Tests.{clash, less_or_not}
use Rattle.mnemonic.specs.Spelling.{spells}
use Rattle.node.specs.Word.{is_branch, is_default, name_length, name_start, first_child, child_count, spare_bits}
use Rattle.node.specs.Tree.{branch, name_of, Near}
use Rattle.layout.specs.Layout.{NodeCount, no_node, too_many, NodeFields, some_spare_bits, root_no_branch, root_default, root_name_length, root_name_start, leaf_children, behind, ChildBlocks, not_behind, not_to_end, too_early}
use Rattle.table.specs.Fault.{Fault, node_count, node_fields, child_blocks, node_name, two_defaults, shared_spelling, Accepted, Verdict, accepts, refuses}
use Rattle.table.specs.{Internal.Ready}
use Rattle.routes.specs.TableClaims.{Tree, root_word, Claims}
use Rattle.layout.proofs.{Blocks.in_table, NodeNames.name_of_lem}
use Rattle.table.proofs.Shape.{equal, holder_of, one_holder, child_after, child_in, near_in}
use Rattle.table.proofs.{Shared.one_default, Theorem.enough}

module _ (t names : List ℕ) (ok : Accepted t names) where
  ready : Ready t names
  ready =
      record {
        blocks = record { no_child_blocks = λ x. ok.faultless ErrorCode.ChildBlocks 3 (child_blocks x) };
        no_node_name = λ x. ok.faultless ErrorCode.NodeName 4 (node_name x);
        no_two_defaults = λ x. ok.faultless ErrorCode.TwoDefaults 5 (two_defaults x);
      }

  root : branch t 0 ≡ true
  root = go (branch t 0) refl
    where
      go : (r : Bool) → branch t 0 ≡ r → branch t 0 ≡ true
      go true e = e
      go false e = absurd (ok.faultless ErrorCode.NodeFields 2 (node_fields (root_no_branch e)))

  apart : {b k j : ℕ} → Near t b k → Near t b j → (w : List ℕ) → spells (name_of t names k) w ≡ true → spells (name_of t names j) w ≡ true → k ≡ j
  apart {b} {k} {j} x y w p q =
      equal k j
      (λ e. ok.faultless ErrorCode.SharedSpelling 6
      (shared_spelling (record { holder = b; one = k; other = j; near_one = x; near_other = y; two = e; shared = record { word = w; one = p; other = q } })))

  tree : Tree t names
  tree =
      let whole = ready.blocks.no_child_blocks in
      record {
        root = root;
        held = holder_of t whole;
        one_holder = one_holder t whole;
        after = child_after t whole;
        inside = child_in t whole;
        one_default = one_default t names ready;
        named = name_of_lem t names ready.no_node_name;
        apart = apart;
      }

numbers : (t names : List ℕ) (e : ErrorCode) (n : ℕ) → Fault t names e n → code_of e ≡ pos n
numbers t names e n (node_count x) = refl
numbers t names e n (node_fields x) = refl
numbers t names e n (child_blocks x) = refl
numbers t names e n (node_name x) = refl
numbers t names e n (two_defaults x) = refl
numbers t names e n (shared_spelling x) = refl

-- the refusal that has a number, found by it
coded : ℕ → ErrorCode
coded n = cond (eqb n 1) ErrorCode.NodeCount (cond (eqb n 2) ErrorCode.NodeFields (cond (eqb n 3) ErrorCode.ChildBlocks (cond (eqb n 4) ErrorCode.NodeName (cond (eqb n 5) ErrorCode.TwoDefaults ErrorCode.SharedSpelling))))

is_coded : {t names : List ℕ} {e : ErrorCode} {n : ℕ} → Fault t names e n → e ≡ coded n
unfolding coded
is_coded (node_count x) = refl
is_coded (node_fields x) = refl
is_coded (child_blocks x) = refl
is_coded (node_name x) = refl
is_coded (two_defaults x) = refl
is_coded (shared_spelling x) = refl

module _ (t names : List ℕ) where
  one_verdict : (c d : Result Unit ErrorCode) → Verdict t names c → Verdict t names d → c ≡ d
  one_verdict c d (accepts x) (accepts y) = refl
  one_verdict c d (accepts x) (refuses {e} {n} f g) = absurd (x.faultless e n f)
  one_verdict c d (refuses {e} {n} f g) (accepts y) = absurd (y.faultless e n f)
  one_verdict c d (refuses {e} {n} f g) (refuses {e = h} {n = m} u v) = ap Err (is_coded f ∙ ap coded (go (less_or_not n m) (less_or_not m n)) ∙ sym (is_coded u))
    where
      go : (n < m) ⊎ (m ≤ n) → (m < n) ⊎ (n ≤ m) → n ≡ m
      go (inl l) z = absurd (v e n l f)
      go (inr l) (inl k) = absurd (g h m k u)
      go (inr l) (inr k) = omega arith

-- a root alone

abbrev alone : List ℕ
alone = root_word ∷ []

only_root : (b : ℕ) → b < 1 → b ≡ 0
only_root b h = omega arith

no_blocks : ChildBlocks alone → ⊥
unfolding behind is_branch first_child child_count
no_blocks (not_behind b m n) = let e = only_root b (in_table alone b m) in n (rw e)
no_blocks (not_to_end n) = n refl
no_blocks (too_early b m l) = let e = only_root b (in_table alone b m) in let k : 1 ≤ 0 = rw e at l in omega arith

no_count : NodeCount alone → ⊥
no_count (no_node h) = omega (arith, h)
no_count (too_many h) = omega arith

no_fields : NodeFields alone → ⊥
unfolding is_branch is_default name_length name_start child_count spare_bits
no_fields (some_spare_bits k l h) = let e = only_root k l in h (rw e)
no_fields (root_no_branch h) = clash refl h
no_fields (root_default h) = clash h refl
no_fields (root_name_length h) = h refl
no_fields (root_name_start h) = h refl
no_fields (leaf_children k l m h) = let e = only_root k l in clash refl (rw e at m)

none : (e : ErrorCode) (n : ℕ) → Fault alone [] e n → ⊥
none e n (node_count x) = no_count x
none e n (node_fields x) = no_fields x
none e n (child_blocks x) = no_blocks x
none e n (node_name x) = omega (arith, x.not_root, x.inside)
none e n (two_defaults x) = omega (arith, child_after alone no_blocks x.child_one, child_in alone no_blocks x.child_one)
none e n (shared_spelling x) = let z = near_in alone no_blocks x.near_one in omega (arith, z.0, z.1)

pub claims : Claims
claims = record { accepted = tree; root_alone = record { faultless = none }; one_verdict = one_verdict; enough = enough; numbers = numbers }
