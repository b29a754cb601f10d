-- Laws of the check: the faults in order, the smallest first.
use Rattle.std.specs.Prelude.{Ok, Err}
use Prim.Native.Nat.{ℕ, ◌<◌}
use mathlib.Core.Path.{◌≡◌}
use mathlib.Core.List.{List}
use mathlib.Core.Bool.{Bool, true, false}
use native.Mathlib.Omega.{arith}
use borrow.Author.Rules.{rules}
use Rattle.error.specs.declared.ErrorCode.{ErrorCode}
use Rattle.util.specs.Decides.{Decides}
use Rattle.util.proofs.Decided.{it_holds, it_fails}
use Rattle.layout.specs.Layout.{NodeCount, NodeFields, ChildBlocks, NodeName}
use Rattle.table.specs.Fault.{TwoDefaults, SharedSpelling, Fault, node_count, node_fields, child_blocks, node_name, two_defaults, shared_spelling, Verdict, accepts, refuses}
use Rattle.table.specs.Internal.{Blocks, Ready}

-- there are six faults
at_most : {t names : List ℕ} {e : ErrorCode} (n : ℕ) → Fault t names e n → n < 7
at_most n (node_count x) = omega arith
at_most n (node_fields x) = omega arith
at_most n (child_blocks x) = omega arith
at_most n (node_name x) = omega arith
at_most n (two_defaults x) = omega arith
at_most n (shared_spelling x) = omega arith

module _ (t names : List ℕ) where
  -- the faults below a number fail
  below : (n : ℕ)
      → (1 < n → NodeCount t → ⊥) → (2 < n → NodeFields t → ⊥) → (3 < n → ChildBlocks t → ⊥) → (4 < n → NodeName t names → ⊥)
      → (5 < n → TwoDefaults t → ⊥) → (6 < n → SharedSpelling t names → ⊥)
      → (e : ErrorCode) (m : ℕ) → m < n → Fault t names e m → ⊥
  below n f1 f2 f3 f4 f5 f6 e m l (node_count x) = f1 l x
  below n f1 f2 f3 f4 f5 f6 e m l (node_fields x) = f2 l x
  below n f1 f2 f3 f4 f5 f6 e m l (child_blocks x) = f3 l x
  below n f1 f2 f3 f4 f5 f6 e m l (node_name x) = f4 l x
  below n f1 f2 f3 f4 f5 f6 e m l (two_defaults x) = f5 l x
  below n f1 f2 f3 f4 f5 f6 e m l (shared_spelling x) = f6 l x

  module _ (r-one : Bool) (one : Decides (NodeCount t) r-one) where
    pub node_count' : r-one ≡ true → Verdict t names (Err ErrorCode.NodeCount)
    node_count' q =
        refuses (node_count (it_holds one q))
        (below 1 (λ l. absurd (omega arith)) (λ l. absurd (omega arith)) (λ l. absurd (omega arith)) (λ l. absurd (omega arith)) (λ l. absurd (omega arith)) (λ l. absurd (omega arith)))

    module _ (no_one : r-one ≡ false) (r-two : Bool) (two : Decides (NodeFields t) r-two) where
      pub node_fields' : r-two ≡ true → Verdict t names (Err ErrorCode.NodeFields)
      node_fields' q =
          refuses (node_fields (it_holds two q))
          (below 2 (λ l. it_fails one no_one) (λ l. absurd (omega arith)) (λ l. absurd (omega arith)) (λ l. absurd (omega arith)) (λ l. absurd (omega arith)) (λ l. absurd (omega arith)))

      module _ (no_two : r-two ≡ false) (r-three : Bool) (three : Decides (ChildBlocks t) r-three) where
        pub child_blocks' : r-three ≡ true → Verdict t names (Err ErrorCode.ChildBlocks)
        child_blocks' q =
            refuses (child_blocks (it_holds three q))
            (below 3 (λ l. it_fails one no_one) (λ l. it_fails two no_two) (λ l. absurd (omega arith)) (λ l. absurd (omega arith)) (λ l. absurd (omega arith)) (λ l. absurd (omega arith)))

        module _ (no-three : r-three ≡ false) (r-four : Bool) (four : Decides (NodeName t names) r-four) where
          pub node_name' : r-four ≡ true → Verdict t names (Err ErrorCode.NodeName)
          node_name' q =
              refuses (node_name (it_holds four q))
              (below 4 (λ l. it_fails one no_one) (λ l. it_fails two no_two) (λ l. it_fails three no-three) (λ l. absurd (omega arith)) (λ l. absurd (omega arith)) (λ l. absurd (omega arith)))

          module _ (no-four : r-four ≡ false) (r-five : Bool) (five : Decides (TwoDefaults t) r-five) where
            pub two_defaults' : r-five ≡ true → Verdict t names (Err ErrorCode.TwoDefaults)
            two_defaults' q =
                refuses (two_defaults (it_holds five q))
                (below 5 (λ l. it_fails one no_one) (λ l. it_fails two no_two) (λ l. it_fails three no-three) (λ l. it_fails four no-four) (λ l. absurd (omega arith)) (λ l. absurd (omega arith)))

            module _ (no-five : r-five ≡ false) (r-six : Bool) (six : Decides (SharedSpelling t names) r-six) where
              pub shared_spelling' : r-six ≡ true → Verdict t names (Err ErrorCode.SharedSpelling)
              shared_spelling' q =
                  refuses (shared_spelling (it_holds six q))
                  (below 6 (λ l. it_fails one no_one) (λ l. it_fails two no_two) (λ l. it_fails three no-three) (λ l. it_fails four no-four) (λ l. it_fails five no-five) (λ l. absurd (omega arith)))

              pub accepted' : r-six ≡ false → Verdict t names (Ok tt)
              accepted' q = accepts (record { faultless = λ e n x. below 7 (λ l. it_fails one no_one) (λ l. it_fails two no_two) (λ l. it_fails three no-three) (λ l. it_fails four no-four) (λ l. it_fails five no-five) (λ l. it_fails six q) e n (at_most n x) x })

-- what the later faults are looked for in

module _ (t : List ℕ) (r : Bool) (three : Decides (ChildBlocks t) r) (p : r ≡ false) where
  pub blocks_follow' : Blocks t
  blocks_follow' = record { no_child_blocks = it_fails three p }

  pub ready' : (names : List ℕ) (a : Bool) → Decides (NodeName t names) a → a ≡ false → (b : Bool) → Decides (TwoDefaults t) b → b ≡ false → Ready t names
  ready' names a four q b five u =
      record { blocks = blocks_follow'; no_node_name = it_fails four q; no_two_defaults = it_fails five u }

pub ruleset check_laws = (rules, node_count', node_fields', child_blocks', node_name', two_defaults', shared_spelling', accepted')
