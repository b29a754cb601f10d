-- Laws of the leaf that is reached unsaid, as the code meets them; and what it is to a header.
use Rattle.std.specs.Prelude.{Ok, Option, Some, None}
use Prim.Native.Nat.{ℕ, ◌-◌, ◌<◌}
use mathlib.Core.Path.{◌≡◌, refl, sym, subst, ◌∙◌}
use mathlib.Core.Logic.{◌⊎◌, inl, inr, ⊎_elim}
use mathlib.Core.List.{List}
use mathlib.Core.Bool.{Bool, true, false, not}
use native.Mathlib.Omega.{arith}
use lib.ListN.{length, get_or}
use borrow.Author.Rules.{rules}
use borrow.Author.Tests.{not-true, not-false}
use Rattle.node.specs.{Word.is_branch, Word.command_number, Tree.branch}
use Rattle.branch.specs.Children.{unsaid_in, Picks, PicksIn}
use Rattle.branch.specs.{Block.children_of, declared.Block.Block}
use Rattle.branch.proofs.Picks.{picks_children, deeper}
use Rattle.ahead.specs.declared.Stop.TheVariants as stop
use Rattle.ahead.specs.declared.Seen.{Seen}
use Rattle.header.specs.Turn as turn
use Rattle.header.specs.Header.{undefined, leaf_answer, turn_of, Reads, leaf, ended, nowhere}
use Rattle.header.specs.Internal.{Settles, at_leaf, onward, unsettled, RootLeaf, root_leaf, root_branch, Empty, found, not_found}

-- a pick among the children of a branch
pub picked : (t : List ℕ) (b : ℕ) (x : Block) → x ≡ children_of t b → (p : ℕ → Bool) (y z : Option ℕ) → PicksIn p x.from x.to y → y ≡ z → Picks t b p z
picked t b x e p y z h q = picks_children t b p z (rw (e, q) at h)

module _ (t : List ℕ) (b : ℕ) (x : Block) (e : x ≡ children_of t b) (y : Option ℕ) (h : PicksIn (unsaid_in t) x.from x.to y) where
  pub no_default' : y ≡ None → Settles t b (length t)
  no_default' q = unsettled (picked t b x e (unsaid_in t) y None h q)

  module _ (d : ℕ) (q : y ≡ Some d) where
    default_picked : Picks t b (unsaid_in t) (Some d)
    default_picked = picked t b x e (unsaid_in t) y (Some d) h q

    pub default_in' : d < length t
    default_in' = (deeper default_picked).0

    pub default_less' : (μ : ℕ) → length t - b ≡ μ → length t - d < μ
    default_less' μ k = subst (λ (n : ℕ). length t - d < n) k (deeper default_picked).1

    module _ (c : Bool) (ec : c ≡ is_branch (get_or t d 0)) where
      pub default_leaf' : not c ≡ true → Settles t b d
      default_leaf' k = at_leaf default_picked (sym ec ∙ not-true c k)

      pub default_onward' : not c ≡ false → (r : ℕ) → Settles t d r → Settles t b r
      default_onward' k r z = onward default_picked (sym ec ∙ not-false c k) z

pub ruleset settle_laws = (rules, no_default', default_in', default_less', default_leaf', default_onward')

-- the leaf is one of the table, or there is none
pub settled_in : {t : List ℕ} {b r : ℕ} → Settles t b r → (r < length t) ⊎ (r ≡ length t)
settled_in (at_leaf d e) = inl (deeper d).0
settled_in (onward d e z) = settled_in z
settled_in (unsettled d) = inr refl

-- where the header ends at a branch, its command is that of the leaf that is reached unsaid
module _ {t names s : List ℕ} {h : ℕ} {seen : Seen} (e : turn_of s seen ≡ turn.Stop) where
  pub settles : {n k : ℕ} → branch t n ≡ true → k < length t → Settles t n k → Reads t names s h n seen (leaf_answer s (get_or t k 0) h seen)
  settles m l (at_leaf d b) = ended m e d (leaf b)
  settles m l (onward d b z) = ended m e d (settles b l z)
  settles m l (unsettled d) = absurd (omega arith)

  pub lost : {n k : ℕ} → branch t n ≡ true → k ≡ length t → Settles t n k → Reads t names s h n seen undefined
  lost m q (at_leaf d b) = absurd (omega (arith, (deeper d).0))
  lost m q (onward d b z) = ended m e d (lost b q z)
  lost m q (unsettled d) = nowhere m e d

-- an empty header

module _ (t : List ℕ) (c : Bool) (e : c ≡ is_branch (get_or t 0 0)) where
  pub root_branch' : c ≡ true → (r : ℕ) → Settles t 0 r → RootLeaf t r
  root_branch' q r z = root_branch (sym e ∙ q) z

  pub root_leaf' : c ≡ false → RootLeaf t 0
  root_leaf' q = root_leaf (sym e ∙ q)

pub ruleset root_laws = (rules, root_branch', root_leaf')

module _ (t : List ℕ) (p k : ℕ) (z : RootLeaf t k) where
  pub not_found' : k ≡ length t → Empty t p undefined
  not_found' e = not_found (rw e at z)

  module _ (e : k ≡ length t → ⊥) where
    pub root_in' : k < length t
    root_in' = go z e
      where
        go : {k : ℕ} → RootLeaf t k → (k ≡ length t → ⊥) → k < length t
        go (root_leaf m) n = omega (arith, n)
        go (root_branch m z) n = ⊎_elim (λ l. l) (λ q. absurd (n q)) (settled_in z)

    pub found' : (c : ℕ) → c ≡ command_number (get_or t k 0) → Empty t p (Ok (record { command = c; query = false; branch = 0; stop = stop.Text; place = p }))
    found' c ec = rw ec (found z root_in')

pub ruleset empty_laws = (rules, not_found', root_in', found')
