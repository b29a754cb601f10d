-- Laws of fault 6, as the code meets them.
use Rattle.std.specs.Prelude.{Option, Some, None}
use Prim.Native.Nat.{ℕ, ◌+◌, ◌-◌, ◌≤◌, ◌<◌}
use mathlib.Core.Path.{◌≡◌, sym, ap, ◌∙◌}
use mathlib.Core.Logic.{⊎_elim}
use mathlib.Core.List.{List}
use mathlib.Core.Bool.{Bool, true, false}
use native.Mathlib.Nat.{add-zero}
use native.Mathlib.Omega.{arith}
use lib.ListN.{length, get_or, drop}
use lib.Seq.{get_or-take, get_or-drop}
use borrow.Author.Rules.{rules}
use borrow.Author.Tests.{le-leb}
use Rattle.kind.proofs.Tests.{clash, less_or_not}
use Rattle.util.specs.Decides.{Decides, holds, fails}
use Rattle.util.proofs.Decided.{it_holds, it_fails}
use Rattle.mnemonic.specs.Spelling.{Name}
use Rattle.name.specs.Share.{shares}
use Rattle.names.proofs.Heads.{name_filled, initials}
use Rattle.node.specs.Word.{name_length, name_start, name_in, initial_in}
use Rattle.node.specs.Tree.{branch, default, first, count, name_of, Child, Near, child, under}
use Rattle.branch.specs.Block.{block_of, children_of, next_child}
use Rattle.branch.specs.{declared.Block.Block}
use Rattle.branch.proofs.Blocks.{next_in'}
use Rattle.layout.specs.Layout.{BadName, outside, no_byte}
use Rattle.table.specs.Internal.{NamedBlock, OneDefault, DefaultBranch, inner, no_inner, DefaultShares, SharesIn, ChildrenShare, BlocksShare, NearShares, SharesAt, children, below, Ready}
use Rattle.util.proofs.Before.{Before, none_yet, one_more}
use Rattle.layout.proofs.NodeNames.{name_of_lem}
use Rattle.table.proofs.Shape.{equal, after, block_in, its_children, near_branch}

-- the name of a node of a block

module _ (t names : List ℕ) (from to : ℕ) (ok : NamedBlock t names from to) (k : ℕ) (l : from ≤ k) (u : k < to) where
  good : BadName t names k → ⊥
  good x =
      ok.ready.no_node_name
      (record { node = k; not_root = omega (arith, ok.some); inside = omega (arith, ok.within); bad = x })

  name_is : Name (name_of t names k)
  name_is = name_of_lem t names ok.ready.no_node_name k (omega (arith, ok.some)) (omega (arith, ok.within))

  long : 0 < name_length (get_or t k 0)
  long = ⊎_elim (λ h. h) (λ h. absurd (good (no_byte (omega arith)))) (less_or_not 0 (name_length (get_or t k 0)))

  lies : name_start (get_or t k 0) + name_length (get_or t k 0) ≤ length names
  lies = ⊎_elim (λ h. absurd (good (outside h))) (λ h. h) (less_or_not (length names) (name_start (get_or t k 0) + name_length (get_or t k 0)))

  initial_is : get_or (name_of t names k) 0 0 ≡ initial_in names (get_or t k 0)
  unfolding name_in initial_in
  initial_is =
      rw (le-leb (name_start (get_or t k 0) + name_length (get_or t k 0)) (length names) lies)
      (get_or-take (name_length (get_or t k 0)) (drop (name_start (get_or t k 0)) names) 0 0 long ∙ get_or-drop (name_start (get_or t k 0)) names 0 0 ∙ ap (λ (i : ℕ). get_or names i 0) (add-zero (name_start (get_or t k 0))))

-- the step of a loop
module _ (t names : List ℕ) (from to : ℕ) (ok : NamedBlock t names from to) (k : ℕ) (l : k < to) where
  pub block_within' : k < length t
  block_within' = omega (arith, ok.within)

  module _ (i : ℕ) (e : i ≡ next_child t k) where
    step : i ≡ k + 1
    step = e ∙ sym (next_in' t k block_within')

    pub block_less' : to - i < to - k
    block_less' = omega (arith, step)

pub ruleset step_laws = (rules, block_within', block_less')

-- one name against a block

-- what the loop keeps: no node before k shares a spelling
abbrev pub Apart : List ℕ → List ℕ → List ℕ → ℕ → ℕ → Type 0
Apart t names name from k = Before (λ j. shares name (name_of t names j) ≡ false) from k

pub name_filled' : (x : List ℕ) → Name x → 0 < length x
name_filled' = name_filled

module _ (t names : List ℕ) (from to : ℕ) where
  pub block_begins' : (name : List ℕ) → Apart t names name from from
  block_begins' name = none_yet (λ j. shares name (name_of t names j) ≡ false) from

  module _ (name : List ℕ) (k : ℕ) (inv : Apart t names name from k) where
    pub block_end' : to ≤ k → Decides (SharesIn t names name from to) false
    block_end' h = fails (λ x. clash x.shared (inv.all x.node x.low (omega (arith, x.high))))

    module _ (ok : NamedBlock t names from to) (l : k < to) where
      pub block_other' : Name name → (c : ℕ) → c ≡ initial_in names (get_or t k 0) → (c ≡ get_or name 0 0 → ⊥) → (i : ℕ) → i ≡ next_child t k → Apart t names name from i
      block_other' nm c e h i v =
          one_more (λ j. shares name (name_of t names j) ≡ false) from k inv
          (initials name (name_of t names k) nm (name_is t names from to ok k inv.low l) (λ q. h (e ∙ sym (q ∙ initial_is t names from to ok k inv.low l)))) i (step t names from to ok k l i v)

      module _ (x : List ℕ) (g : x ≡ name_in names (get_or t k 0)) (r : Bool) (e : r ≡ shares name x) where
        pub block_found' : r ≡ true → Decides (SharesIn t names name from to) true
        block_found' q = holds (record { node = k; low = inv.low; high = l; shared = rw (← g) (sym e ∙ q) })

        pub block_more' : r ≡ false → (i : ℕ) → i ≡ next_child t k → Apart t names name from i
        block_more' q i h =
            one_more (λ j. shares name (name_of t names j) ≡ false) from k inv (rw (← g) (sym e ∙ q)) i (step t names from to ok k l i h)

pub ruleset block_laws = (step_laws, name_filled', block_begins', block_end', block_other', block_found', block_more')

-- a block against itself

-- what the loop keeps: no node before k shares a spelling with one behind it
abbrev pub Sisters : List ℕ → List ℕ → ℕ → ℕ → ℕ → Type 0
Sisters t names from to k = Before (λ j. SharesIn t names (name_of t names j) (j + 1) to → ⊥) from k

module _ (t names : List ℕ) (from to : ℕ) where
  pub sisters_begin' : Sisters t names from to from
  sisters_begin' = none_yet (λ j. SharesIn t names (name_of t names j) (j + 1) to → ⊥) from

  module _ (k : ℕ) (inv : Sisters t names from to k) where
    pub sisters_end' : to ≤ k → Decides (ChildrenShare t names from to) false
    sisters_end' h = fails (λ x. inv.all x.one x.low (omega (arith, x.rest.low, x.rest.high)) x.rest)

    module _ (ok : NamedBlock t names from to) (l : k < to) where
      pub sister_named' : (x : List ℕ) → x ≡ name_in names (get_or t k 0) → Name x
      sister_named' x g = rw g (name_is t names from to ok k inv.low l)

      pub rest_block' : (n : ℕ) → n ≡ next_child t k → NamedBlock t names n to
      rest_block' n v = record { ready = ok.ready; some = omega (arith, step t names from to ok k l n v); within = ok.within }

      module _ (x : List ℕ) (g : x ≡ name_in names (get_or t k 0)) (r : Bool) (n : ℕ) (v : n ≡ next_child t k) (d : Decides (SharesIn t names x n to) r) where
        met : Decides (SharesIn t names (name_of t names k) (k + 1) to) r
        met = rw (← g, ← step t names from to ok k l n v) d

        pub sisters_found' : r ≡ true → Decides (ChildrenShare t names from to) true
        sisters_found' q = holds (record { one = k; low = inv.low; rest = it_holds met q })

        pub sisters_more' : r ≡ false → (i : ℕ) → i ≡ next_child t k → Sisters t names from to i
        sisters_more' q i h =
            one_more (λ j. SharesIn t names (name_of t names j) (j + 1) to → ⊥) from k inv (it_fails met q) i (step t names from to ok k l i h)

pub ruleset sisters_laws = (step_laws, sister_named', rest_block', sisters_begin', sisters_end', sisters_found', sisters_more')

-- a block against another

-- what the loop keeps: no node before k shares a spelling with one of the other block
abbrev pub Strangers : List ℕ → List ℕ → ℕ → ℕ → ℕ → ℕ → Type 0
Strangers t names first end from k = Before (λ j. SharesIn t names (name_of t names j) first end → ⊥) from k

module _ (t names : List ℕ) (first end from to : ℕ) where
  pub strangers_begin' : Strangers t names first end from from
  strangers_begin' = none_yet (λ j. SharesIn t names (name_of t names j) first end → ⊥) from

  module _ (k : ℕ) (inv : Strangers t names first end from k) where
    pub strangers_end' : to ≤ k → Decides (BlocksShare t names first end from to) false
    strangers_end' h = fails (λ x. inv.all x.one x.low (omega (arith, x.high)) x.rest)

    module _ (ok : NamedBlock t names from to) (l : k < to) where
      pub stranger_named' : (x : List ℕ) → x ≡ name_in names (get_or t k 0) → Name x
      stranger_named' x g = rw g (name_is t names from to ok k inv.low l)

      module _ (x : List ℕ) (g : x ≡ name_in names (get_or t k 0)) (r : Bool) (d : Decides (SharesIn t names x first end) r) where
        found : Decides (SharesIn t names (name_of t names k) first end) r
        found = rw (← g) d

        pub strangers_found' : r ≡ true → Decides (BlocksShare t names first end from to) true
        strangers_found' q = holds (record { one = k; low = inv.low; high = l; rest = it_holds found q })

        pub strangers_more' : r ≡ false → (i : ℕ) → i ≡ next_child t k → Strangers t names first end from i
        strangers_more' q i h =
            one_more (λ j. SharesIn t names (name_of t names j) first end → ⊥) from k inv (it_fails found q) i (step t names from to ok k l i h)

pub ruleset strangers_laws = (step_laws, stranger_named', strangers_begin', strangers_end', strangers_found', strangers_more')

-- the near nodes of a branch against a block

pub one_default : (t names : List ℕ) → Ready t names → {b d e : ℕ} → Child t b d → Child t b e → default t d ≡ true → default t e ≡ true → d ≡ e
one_default t names ok {b} {d} {e} c c' m m' =
    equal d e
    (λ q. ok.no_two_defaults (record { holder = b; one = d; other = e; child_one = c; child_other = c'; two = q; default_one = m; default_other = m' }))

module _ (t names : List ℕ) (ok : Ready t names) (b : ℕ) (m : branch t b ≡ true) (x : Block) (p : x ≡ children_of t b) where
  -- what is known of the block of a branch

  starts_at : x.from ≡ first t b
  unfolding block_of
  starts_at = rw (p, its_children t ok.blocks.no_child_blocks b m)

  ends_at : x.to ≡ first t b + count t b
  unfolding block_of
  ends_at = rw (p, its_children t ok.blocks.no_child_blocks b m)

  pub its_block' : NamedBlock t names x.from x.to
  its_block' =
      record {
        ready = ok;
        some = omega (arith, after t ok.blocks.no_child_blocks b m, starts_at);
        within = rw ends_at (block_in t ok.blocks.no_child_blocks b m);
      }

  child_of : {k : ℕ} → x.from ≤ k → k < x.to → Child t b k
  child_of l u = record { holder = m; from = rw (← starts_at) l; below = rw (← ends_at) u }

  pub one_default' : OneDefault t x.from x.to
  one_default' =
      record {
        one =
            λ z. omega
            (arith, z.order, one_default t names ok (child_of z.low (omega (arith, z.order, z.high))) (child_of (omega (arith, z.low, z.order)) z.high) z.default_one z.default_other);
      }

  -- what lies below the default branch

  module _ (v : Option ℕ) (y : DefaultBranch t x.from x.to v) where
    module _ (d : ℕ) (e : v ≡ Some d) where
      pub goes_down' : branch t d ≡ true
      goes_down' = go (rw e at y)
        where
          go : DefaultBranch t x.from x.to (Some d) → branch t d ≡ true
          go (inner l u h i) = h

      pub deeper' : (μ : ℕ) → length t - b ≡ μ → length t - d < μ
      deeper' μ n = go (rw e at y)
        where
          go : DefaultBranch t x.from x.to (Some d) → length t - d < μ
          go (inner l u h i) = omega (arith, n, after t ok.blocks.no_child_blocks b m, starts_at, l, u, its_block'.within)

    module _ (first' end : ℕ) where
      no_below : v ≡ None → Decides (DefaultShares t names first' end b) false
      no_below e = go (rw e at y)
        where
          go : DefaultBranch t x.from x.to None → Decides (DefaultShares t names first' end b) false
          go (no_inner f) =
              fails (λ z. f z.inner (rw starts_at z.inner_child.from) (rw ends_at z.inner_child.below) (near_branch z.shares.near) z.inner_default)

      by_inner : (d : ℕ) → v ≡ Some d → (u : Bool) → Decides (NearShares t names first' end d) u → Decides (DefaultShares t names first' end b) u
      by_inner d e = go (rw e at y)
        where
          go : DefaultBranch t x.from x.to (Some d) → (u : Bool) → Decides (NearShares t names first' end d) u → Decides (DefaultShares t names first' end b) u
          go (inner l h i j) u (holds z) = holds (record { inner = d; inner_child = child_of l h; inner_default = j; shares = z })
          go (inner l h i j) u (fails z) =
              fails (λ w. z (rw (one_default t names ok (child_of l h) w.inner_child j w.inner_default) w.shares))

  -- the near nodes of a branch

  module _ (first' end : ℕ) (r : Bool) (o : Decides (BlocksShare t names first' end x.from x.to) r) where
    pub near_block' : r ≡ true → Decides (NearShares t names first' end b) true
    near_block' q =
        let y = it_holds o q in
        holds (record { one = y.one; near = child (child_of y.low y.high); rest = y.rest })

    near_else : r ≡ false → {u : Bool} → Decides (DefaultShares t names first' end b) u → Decides (NearShares t names first' end b) u
    near_else q (holds y) = holds (record { one = y.shares.one; near = under y.inner_child y.inner_default y.shares.near; rest = y.shares.rest })
    near_else q (fails y) = fails (λ z. go z.near z.rest)
      where
        go : {k : ℕ} → Near t b k → SharesIn t names (name_of t names k) first' end → ⊥
        go {k} (child z) w = it_fails o q (record { one = k; low = rw starts_at z.from; high = rw ends_at z.below; rest = w })
        go {k} (under {d = j} z e a) w = y (record { inner = j; inner_child = z; inner_default = e; shares = record { one = k; near = a; rest = w } })

    module _ (q : r ≡ false) (v : Option ℕ) (y : DefaultBranch t x.from x.to v) where
      pub near_none' : v ≡ None → Decides (NearShares t names first' end b) false
      near_none' e = near_else q (no_below v y first' end e)

      pub near_down' : (d : ℕ) → v ≡ Some d → (u : Bool) → Decides (NearShares t names first' end d) u → Decides (NearShares t names first' end b) u
      near_down' d e u z = near_else q (by_inner v y first' end d e u z)

  -- a branch itself

  module _ (r : Bool) (o : Decides (ChildrenShare t names x.from x.to) r) where
    pub at_children' : r ≡ true → Decides (SharesAt t names b) true
    at_children' q = holds (children (rw (← ends_at, ← starts_at) (it_holds o q)))

    at_else : r ≡ false → {u : Bool} → Decides (DefaultShares t names x.from x.to b) u → Decides (SharesAt t names b) u
    at_else q (holds y) = holds (below (rw (← ends_at, ← starts_at) y))
    at_else q (fails y) = fails go
      where
        go : SharesAt t names b → ⊥
        go (children z) = it_fails o q (rw (ends_at, starts_at) z)
        go (below z) = y (rw (ends_at, starts_at) z)

    module _ (q : r ≡ false) (v : Option ℕ) (y : DefaultBranch t x.from x.to v) where
      pub at_none' : v ≡ None → Decides (SharesAt t names b) false
      at_none' e = at_else q (no_below v y x.from x.to e)

      pub at_below' : (d : ℕ) → v ≡ Some d → (u : Bool) → Decides (NearShares t names x.from x.to d) u → Decides (SharesAt t names b) u
      at_below' d e u z = at_else q (by_inner v y x.from x.to d e u z)

pub ruleset down_laws = (rules, goes_down', deeper')

pub ruleset near_laws = (rules, its_block', one_default', near_block', near_none', near_down')

pub ruleset at_laws = (rules, its_block', one_default', goes_down', at_children', at_none', at_below')
