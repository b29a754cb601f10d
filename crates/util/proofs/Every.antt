-- Laws of `every`, over any class p, as a loop that tests each character meets them.
use Prim.Native.Nat.{ℕ, zero, suc, ◌+◌, ◌≤◌, ◌<◌}
use mathlib.Core.Path.{◌≡◌, refl, sym, ap, ◌∙◌}
use mathlib.Core.List.{List, [], ◌∷◌, ◌++◌}
use mathlib.Core.Bool.{Bool, true, false, cond, not, ◌&&◌}
use native.Mathlib.Numerals.{add-one}
use native.Mathlib.Omega.{arith}
use lib.ListN.{length, get_or, take, drop, drop_of_length-le}
use lib.Seq.{drop-cons}
use borrow.Author.Rules.{rules}
use borrow.Author.Tests.{not-true, not-false}
use Rattle.kind.proofs.Tests.{and_left, and_right, and_both, clash}
use Rattle.util.specs.Run.{run, every}

module _ (p : ℕ → Bool) (s : List ℕ) (i : ℕ) (inv : every p s ≡ every p (drop i s)) where
  pub stop' : (r : Bool) → i < length s → r ≡ p (get_or s i 0) → not r ≡ true → false ≡ every p s
  unfolding every
  stop' r h e q = sym (inv ∙ rw (drop-cons s i 0, ← e, not-true r q))

  pub more' : (r : Bool) → i < length s → r ≡ p (get_or s i 0) → not r ≡ false → every p s ≡ every p (drop (i + 1) s)
  unfolding every
  more' r h e q = inv ∙ rw (add-one, drop-cons s i 0, ← e, not-false r q)

  pub past' : length s ≤ i → true ≡ every p s
  unfolding every
  past' h = sym (inv ∙ rw (drop_of_length-le s h))

-- Over two texts together.

module _ (p : ℕ → Bool) where
  pub every_join : (x y : List ℕ) → every p x ≡ true → every p y ≡ true → every p (x ++ y) ≡ true
  unfolding every
  every_join [] y hx hy = hy
  every_join (b ∷ x) y hx hy = and_both (and_left (p b) (every p x) hx) (every_join x y (and_right (p b) (every p x) hx) hy)

  pub every_second : (x y : List ℕ) → every p (x ++ y) ≡ true → every p y ≡ true
  unfolding every
  every_second [] y h = h
  every_second (b ∷ x) y h = every_second x y (and_right (p b) (every p (x ++ y)) h)

  pub every_weaker : (q : ℕ → Bool) → ((b : ℕ) → p b ≡ true → q b ≡ true) → (x : List ℕ) → every p x ≡ true → every q x ≡ true
  unfolding every
  every_weaker q f [] h = refl
  every_weaker q f (b ∷ x) h = and_both (f b (and_left (p b) (every p x) h)) (every_weaker q f x (and_right (p b) (every p x) h))

  -- a text is of the class where its run goes to the end, and nowhere else
  pub every_run : (x : List ℕ) → every p x ≡ true → run p x ≡ length x
  unfolding every run
  every_run [] h = refl
  every_run (b ∷ x) h = rw (and_left (p b) (every p x) h) (ap suc (every_run x (and_right (p b) (every p x) h)))

  pub run_every : (x : List ℕ) → run p x ≡ length x → every p x ≡ true
  unfolding every run
  run_every [] h = refl
  run_every (b ∷ x) h = go (p b) (run_every x) h
    where
      go : (c : Bool) → (run p x ≡ length x → every p x ≡ true) → cond c (suc (run p x)) 0 ≡ suc (length x) → (c && every p x) ≡ true
      go true ih k = ih (omega (arith, k))
      go false ih k = absurd (omega (arith, k))

  -- a text of the class is run through whole, up to one that is not of the class
  pub run_whole : (x y : List ℕ) → every p x ≡ true → run p y ≡ 0 → run p (x ++ y) ≡ length x
  unfolding every run
  run_whole [] y hx hy = hy
  run_whole (b ∷ x) y hx hy = rw (and_left (p b) (every p x) hx) (ap suc (run_whole x y (and_right (p b) (every p x) hx) hy))

  -- a run ends within the text
  pub run_within : (x : List ℕ) → run p x ≤ length x
  unfolding run
  run_within [] = omega arith
  run_within (b ∷ x) = go (p b) (run_within x)
    where
      go : (c : Bool) → run p x ≤ length x → cond c (suc (run p x)) 0 ≤ suc (length x)
      go true ih = omega arith
      go false ih = omega arith

  -- a run is of its class
  pub every_run_front : (x : List ℕ) → every p (take (run p x) x) ≡ true
  unfolding every run
  every_run_front [] = refl
  every_run_front (b ∷ x) = go (p b) refl (every_run_front x)
    where
      go : (c : Bool) → p b ≡ c → every p (take (run p x) x) ≡ true → every p (take (cond c (suc (run p x)) 0) (b ∷ x)) ≡ true
      go true e ih = and_both e ih
      go false e ih = refl

  pub every_drop : (i : ℕ) (x : List ℕ) → every p x ≡ true → every p (drop i x) ≡ true
  unfolding every
  every_drop zero x h = h
  every_drop (suc i) [] h = h
  every_drop (suc i) (b ∷ x) h = every_drop i x (and_right (p b) (every p x) h)

  -- a text of two classes with no character in common is empty
  pub no_both : (q : ℕ → Bool) → ((b : ℕ) → p b ≡ true → q b ≡ false) → (x : List ℕ) → every p x ≡ true → every q x ≡ true → x ≡ []
  unfolding every
  no_both q f [] h k = refl
  no_both q f (b ∷ x) h k = clash (and_left (q b) (every q x) k) (f b (and_left (p b) (every p x) h))

pub ruleset laws = (rules, stop', more', past')
