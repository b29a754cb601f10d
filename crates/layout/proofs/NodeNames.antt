-- Laws of fault 4, as the code meets them.
use Prim.Native.Nat.{ℕ, ◌+◌, ◌≤◌, ◌<◌}
use mathlib.Core.Path.{◌≡◌, sym, ◌∙◌, ap}
use mathlib.Core.List.{List}
use mathlib.Core.Bool.{Bool, true, false, not}
use native.Mathlib.Omega.{arith}
use lib.ListN.{length, get_or}
use borrow.Author.Rules.{rules}
use borrow.Author.Tests.{not-true, not-false}
use Rattle.kind.proofs.Tests.{clash}
use Rattle.util.specs.Decides.{Decides, holds, fails}
use Rattle.util.specs.Run.{stands_at}
use Rattle.util.proofs.Decided.{by_both, it_holds, it_fails, one_answer}
use Rattle.mnemonic.specs.Spelling.{Name}
use Rattle.name.proofs.Names.{surely}
use Rattle.node.specs.Word.{is_branch, is_default, name_length, name_start, name_in}
use Rattle.node.specs.Tree.{name_of, Child}
use Rattle.node.proofs.Laws.{end_fits'}
use Rattle.layout.specs.Layout.{longest_name, BadName, outside, no_byte, too_long, no_name, star_branch, star_default, star_below, NodeName}
use Rattle.util.proofs.Before.{Before, none_yet, one_more}

-- the name of a node

module _ (t names : List ℕ) (k n : ℕ) (e : n ≡ name_length (get_or t k 0)) where
  pub name_none' : n ≡ 0 → Decides (BadName t names k) true
  name_none' h = holds (no_byte (sym e ∙ h))

  pub name_long' : longest_name < n → Decides (BadName t names k) true
  name_long' h = holds (too_long (rw e at h))

  module _ (s : ℕ) (f : s ≡ name_start (get_or t k 0)) where
    pub name_outside' : length names < s + n → Decides (BadName t names k) true
    name_outside' h = holds (outside (rw (f, e) at h))

    module _ (x : List ℕ) (g : x ≡ name_in names (get_or t k 0)) (r : Bool) (d : Decides (Name x) r) where
      pub name_wrong' : not r ≡ true → Decides (BadName t names k) true
      name_wrong' q = holds (no_name (λ m. it_fails d (not-true r q) (rw g m)))

      module _ (st : Bool) (i : st ≡ stands_at 42 x 0) where
        stands : not st ≡ false → stands_at 42 (name_in names (get_or t k 0)) 0 ≡ true
        stands q = rw (← g) (sym i ∙ not-false st q)

        module _ (some : n ≡ 0 → ⊥) (short : n ≤ longest_name) (inside : s + n ≤ length names) (q : not r ≡ false) where
          pub name_plain' : not st ≡ true → Decides (BadName t names k) false
          name_plain' u = fails none
            where
              no_star : stands_at 42 (name_in names (get_or t k 0)) 0 ≡ false
              no_star = rw (← g) (sym i ∙ not-true st u)

              none : BadName t names k → ⊥
              none (outside h) = omega (arith, rw (← f, ← e) at h)
              none (no_byte h) = some (e ∙ h)
              none (too_long h) = omega (arith, rw (← e) at h)
              none (no_name h) = h (rw (← g) (it_holds d (not-false r q)))
              none (star_branch h _) = clash h no_star
              none (star_default h _) = clash h no_star
              none (star_below h _) = clash h no_star

          module _ (u : not st ≡ false) (b : Bool) (v : b ≡ is_branch (get_or t k 0)) where
            pub on_branch' : b ≡ true → Decides (BadName t names k) true
            on_branch' w = holds (star_branch (stands u) (sym v ∙ w))

            module _ (w : b ≡ false) (y : Bool) (z : y ≡ is_default (get_or t k 0)) where
              pub on_default' : y ≡ true → Decides (BadName t names k) true
              on_default' o = holds (star_default (stands u) (sym z ∙ o))

              pub on_leaf' : y ≡ false → (c : Bool) → Decides (Child t 0 k) c → Decides (BadName t names k) (not c)
              on_leaf' o c p = by_both (not c) (λ j. star_below (stands u) (it_fails p (not-true c j))) into
                where
                  into : BadName t names k → not c ≡ true
                  into (outside h) = absurd (omega (arith, rw (← f, ← e) at h))
                  into (no_byte h) = absurd (some (e ∙ h))
                  into (too_long h) = absurd (omega (arith, rw (← e) at h))
                  into (no_name h) = absurd (h (rw (← g) (it_holds d (not-false r q))))
                  into (star_branch _ h) = clash h (sym v ∙ w)
                  into (star_default _ h) = clash h (sym z ∙ o)
                  into (star_below _ h) = ap not (one_answer p (fails h))

pub ruleset name_laws = (rules, end_fits', name_none', name_long', name_outside', name_wrong', name_plain', on_branch', on_default', on_leaf')

-- all names

-- what the loop keeps: the names before k are good
abbrev pub Named : List ℕ → List ℕ → ℕ → Type 0
Named t names k = Before (λ j. BadName t names j → ⊥) 1 k

module _ (t names : List ℕ) where
  pub names_begin' : Named t names 1
  names_begin' = none_yet (λ j. BadName t names j → ⊥) 1

  module _ (k : ℕ) (inv : Named t names k) where
    pub names_end' : length t ≤ k → Decides (NodeName t names) false
    names_end' h = fails (λ x. inv.all x.node x.not_root (omega (arith, x.inside)) x.bad)

    module _ (r : Bool) (d : Decides (BadName t names k) r) where
      pub names_bad' : r ≡ true → k < length t → Decides (NodeName t names) true
      names_bad' q l = holds (record { node = k; not_root = inv.low; inside = l; bad = it_holds d q })

      pub names_more' : r ≡ false → (i : ℕ) → i ≡ k + 1 → Named t names i
      names_more' q i h = one_more (λ j. BadName t names j → ⊥) 1 k inv (it_fails d q) i h

pub ruleset names_laws = (rules, names_begin', names_end', names_bad', names_more')

-- in a table without fault 4 each node but the root has a name
pub name_of_lem : (t names : List ℕ) → (NodeName t names → ⊥) → (k : ℕ) → 0 < k → k < length t → Name (name_of t names k)
name_of_lem t names ok k p l = surely (name_of t names k) (λ n. ok (record { node = k; not_root = p; inside = l; bad = no_name n }))
