-- Laws of runs, over any class p, as a loop that passes over one meets them.
use Prim.Native.Nat.{ℕ, suc, ◌+◌, ◌≤◌, ◌<◌, max}
use mathlib.Core.Path.{◌≡◌, refl, sym, ◌∙◌}
use mathlib.Core.Logic.{◌⊎◌, inl, inr}
use mathlib.Core.List.{List, [], ◌∷◌}
use mathlib.Core.Bool.{Bool, true, false, cond, not}
use native.Mathlib.Omega.{arith}
use native.Mathlib.Numerals.{add-one}
use lib.ListN.{length, get_or, drop, drop_of_length-le, get_or-eq_default}
use lib.Seq.{drop-cons, drop-drop}
use borrow.Author.Rules.{rules}
use lib.Dec.{eqb, ltb}
use borrow.Author.Tests.{not-true, not-false, ltb-true, ltb-false, lt-ltb, le-ltb}
use Rattle.kind.specs.Class.{is_sign}
use Rattle.kind.proofs.Tests.{less_or_not}
use Rattle.util.specs.Run.{run, run_end, sign_end, stands_at, least}

run_behind : (p : ℕ → Bool) (s : List ℕ) (i : ℕ) → length s ≤ i → run_end p s i ≡ i
unfolding run_end run
run_behind p s i h = rw (drop_of_length-le s) (omega arith)

module _ (p : ℕ → Bool) (s : List ℕ) (i : ℕ) where
  pub run_past : length s ≤ i → run_end p s i ≡ i
  unfolding run_end run
  run_past h = rw (drop_of_length-le s) (omega arith)

  pub run_stop : i < length s → p (get_or s i 0) ≡ false → run_end p s i ≡ i
  unfolding run_end run
  run_stop h e = rw (drop-cons s i 0, e) (omega arith)

  pub run_more : i < length s → p (get_or s i 0) ≡ true → run_end p s i ≡ run_end p s (i + 1)
  unfolding run_end run
  run_more h e = rw (drop-cons s i 0, e, add-one) (omega arith)

  -- a loop over the places from `at` on that is not left before the end of the text, or begins behind it, ends at the later of the two
  pub ends_at : (at m : ℕ) → m ≡ max at (length s) → (at ≤ length s → i ≤ length s) → length s ≤ i → run_end p s at ≡ run_end p s i → m ≡ i
  ends_at at m e f h inv = go (less_or_not (length s) at)
    where
      go : (length s < at) ⊎ (at ≤ length s) → m ≡ i
      go (inl k) = let z : run_end p s at ≡ at = run_behind p s at (omega arith) in omega (arith, z, run_past h)
      go (inr k) = omega (arith, f k)

-- behind a run there is none of its class
none_left : (p : ℕ → Bool) (t : List ℕ) → run p (drop (run p t) t) ≡ 0
unfolding run
none_left p [] = refl
none_left p (b ∷ t) = go (p b) refl (none_left p t)
  where
    go : (c : Bool) → p b ≡ c → run p (drop (run p t) t) ≡ 0 → run p (drop (cond c (suc (run p t)) 0) (b ∷ t)) ≡ 0
    go true e ih = ih
    go false e ih = rw e

module _ (p : ℕ → Bool) (s : List ℕ) (i : ℕ) where
  pub run_again : run_end p s (run_end p s i) ≡ run_end p s i
  unfolding run_end
  run_again = rw (← drop-drop (run p (drop i s)) i s, none_left p (drop i s)) (omega arith)

  -- a run ends no sooner than it begins
  pub run_from : i ≤ run_end p s i
  unfolding run_end
  run_from = omega arith

module _ (p : ℕ → Bool) (s : List ℕ) (at i : ℕ) (inv : run_end p s at ≡ run_end p s i) where
  pub stop' : (r : Bool) → i < length s → r ≡ p (get_or s i 0) → not r ≡ true → i ≡ run_end p s at
  stop' r h e q = sym (inv ∙ run_stop p s i h (sym e ∙ not-true r q))

  pub more' : (r : Bool) → i < length s → r ≡ p (get_or s i 0) → not r ≡ false → run_end p s at ≡ run_end p s (i + 1)
  more' r h e q = inv ∙ run_more p s i h (sym e ∙ not-false r q)

  pub past' : length s ≤ i → i ≡ run_end p s at
  past' h = sym (inv ∙ run_past p s i h)

module _ (s : List ℕ) (at : ℕ) where
  pub sign_past' : length s ≤ at → at ≡ sign_end s at
  unfolding sign_end is_sign
  sign_past' h = rw (get_or-eq_default s 0 h)

  pub sign_there' : (r : Bool) → r ≡ is_sign (get_or s at 0) → r ≡ true → at + 1 ≡ sign_end s at
  unfolding sign_end
  sign_there' r e q = rw (← e, q)

  pub sign_none' : (r : Bool) → r ≡ is_sign (get_or s at 0) → r ≡ false → at ≡ sign_end s at
  unfolding sign_end
  sign_none' r e q = rw (← e, q)

  pub stands_past' : (b : ℕ) → length s ≤ at → false ≡ stands_at b s at
  unfolding stands_at
  stands_past' b h = rw (le-ltb at (length s) h)

  pub stands_inside' : (b : ℕ) → at < length s → eqb (get_or s at 0) b ≡ stands_at b s at
  unfolding stands_at
  stands_inside' b h = rw (lt-ltb at (length s) h)

pub ruleset laws = (rules, stop', more', past', sign_past', sign_there', sign_none', stands_past', stands_inside')

-- the smaller of two numbers

pub least_left' : (a b : ℕ) → a < b → a ≡ least a b
unfolding least
least_left' a b h = rw (lt-ltb a b h)

pub least_right' : (a b : ℕ) → b ≤ a → b ≡ least a b
unfolding least
least_right' a b h = rw (le-ltb a b h)

pub least_le : (a b : ℕ) → (least a b ≤ a) × (least a b ≤ b)
unfolding least
least_le a b = go (ltb a b) refl
  where
    go : (c : Bool) → ltb a b ≡ c → (cond c a b ≤ a) × (cond c a b ≤ b)
    go true e = (omega arith, omega (arith, ltb-true a b e))
    go false e = (omega (arith, ltb-false a b e), omega arith)

-- what is not before the smaller of two is not before one of them
pub not_least : (a b i : ℕ) → least a b ≤ i → (a ≤ i) ⊎ (b ≤ i)
unfolding least
not_least a b i = go (ltb a b)
  where
    go : (c : Bool) → cond c a b ≤ i → (a ≤ i) ⊎ (b ≤ i)
    go true h = inl h
    go false h = inr h

pub ruleset least_laws = (rules, least_left', least_right')
