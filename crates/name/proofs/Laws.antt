-- Laws of the tests for names and shared spellings, as the code meets them.
use Prim.Native.Nat.{ℕ, ◌+◌, ◌-◌, ◌≤◌, ◌<◌}
use mathlib.Core.Path.{◌≡◌, sym, ◌∙◌}
use mathlib.Core.List.{List}
use mathlib.Core.Bool.{Bool, true, false, not, ◌&&◌, and-false, and-true}
use native.Mathlib.Omega.{arith}
use lib.Dec.{eqb}
use lib.ListN.{length, get_or, take, drop}
use lib.Seq.{take_all}
use borrow.Author.Rules.{rules}
use borrow.Author.Tests.{not-true, not-false, lt-ltb, le-ltb}
use Rattle.kind.specs.Class.{is_capital, is_small, is_digit}
use Rattle.util.specs.Run.{run, run_end, stands_at}
use Rattle.util.proofs.Every.{run_within}
use Rattle.util.proofs.Runs.{run_past, run_stop, run_more}
use Rattle.mnemonic.specs.Mnemonic.{not_small, compares, numeric_suffix_start, same_numeric_suffix}
use Rattle.mnemonic.proofs.{Compare.part_long', Compare.to_end, Split.starts_within'}
use Rattle.name.specs.{Parts.ends_from, Parts.names_from, Share.form_of, Share.shares}

-- the short form

module _ (s : List ℕ) where
  pub short_begins' : run not_small s ≡ run_end not_small s 0
  unfolding run_end
  short_begins' = omega arith

  module _ (i : ℕ) (inv : run not_small s ≡ run_end not_small s i) where
    pub short_past' : length s ≤ i → i ≡ run not_small s
    short_past' h = sym (inv ∙ run_past not_small s i h)

    module _ (r : Bool) (h : i < length s) (e : r ≡ is_small (get_or s i 0)) where
      pub short_stop' : r ≡ true → i ≡ run not_small s
      unfolding not_small
      short_stop' q = sym (inv ∙ run_stop not_small s i h (rw (← e, q)))

      pub short_more' : r ≡ false → run not_small s ≡ run_end not_small s (i + 1)
      unfolding not_small
      short_more' q = inv ∙ run_more not_small s i h (rw (← e, q))

pub ruleset short_laws = (rules, short_begins', short_past', short_stop', short_more')

-- the forms of a name

module _ (m x : List ℕ) (r : Bool) (e : r ≡ compares m x) where
  pub form_long' : r ≡ true → true ≡ form_of m x
  unfolding form_of
  form_long' q = rw (← e, q)

  pub form_whole' : r ≡ false → (c : ℕ) → c ≡ run not_small x → c ≡ length x → false ≡ form_of m x
  unfolding form_of
  form_whole' q c k h = let w : take (run not_small x) x ≡ x = take_all (run not_small x) x (omega arith) in rw (w, ← e, q)

  pub form_short' : r ≡ false → (c : ℕ) → c ≡ run not_small x → (o : Bool) → o ≡ compares m (take c x) → o ≡ form_of m x
  unfolding form_of
  form_short' q c k o f = rw (← e, q, ← k, f)

pub form_within' : (x : List ℕ) (c : ℕ) → c ≡ run not_small x → c ≤ length x
form_within' x c e = rw e (run_within not_small x)

pub ruleset form_laws = (rules, part_long', form_long', form_whole', form_short', form_within')

-- the spelling of two names

module _ (a b : List ℕ) where
  module _ (m n : ℕ) (pm : m ≡ numeric_suffix_start a) (pn : n ≡ numeric_suffix_start b)
      (o : Bool) (e : o ≡ same_numeric_suffix (take (length a - m) (drop m a)) (take (length b - n) (drop n b))) where
    parted : shares a b ≡ (form_of (take m a) (take n b) && o)
    unfolding shares
    parted = rw (e, to_end m a, to_end n b, ← pm, ← pn)

    pub other_suffix' : not o ≡ true → false ≡ shares a b
    other_suffix' q = sym (parted ∙ rw (not-true o q) (and-false (form_of (take m a) (take n b))))

    pub same_suffix' : not o ≡ false → (c : Bool) → c ≡ form_of (take m a) (take n b) → c ≡ shares a b
    same_suffix' q c k = k ∙ sym (parted ∙ rw (not-false o q) (and-true (form_of (take m a) (take n b))))

pub ruleset share_laws = (rules, part_long', starts_within', other_suffix', same_suffix')

-- a name from a place on

module _ (s : List ℕ) (at c : ℕ) (e : c ≡ run_end is_capital s at) where
  pub no_capital' : c ≤ at → false ≡ names_from s at
  unfolding names_from
  no_capital' h = rw (← e, le-ltb at c h)

  module _ (h : at < c) (l : ℕ) (k : l ≡ run_end is_small s c) (z : Bool) (q : z ≡ stands_at 48 s l) where
    ended : names_from s at ≡ (not z && eqb (run_end is_digit s l) (length s))
    unfolding names_from ends_from
    ended = rw (← e, lt-ltb at c h, ← k, ← q)

    pub zero' : z ≡ true → false ≡ names_from s at
    zero' t = sym (ended ∙ rw t)

    pub ends' : z ≡ false → (d : ℕ) → d ≡ run_end is_digit s l → eqb d (length s) ≡ names_from s at
    ends' f d p = sym (ended ∙ rw (f, p))

pub ruleset name_laws = (rules, no_capital', zero', ends')
