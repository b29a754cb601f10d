-- What an accepted item tells of the tests on its way, and of its view.
use Rattle.std.specs.Prelude.{Result}
use Prim.Native.Nat.{ℕ, ◌+◌, ◌-◌, ◌≤◌, ◌<◌}
use mathlib.Core.Path.{◌≡◌, refl, sym, ap, ◌∙◌}
use mathlib.Core.List.{List, ◌++◌}
use mathlib.Core.Bool.{Bool, true, false, cond}
use mathlib.Core.Logic.{⊎_elim}
use native.Mathlib.Nat.{add-zero}
use native.Mathlib.Omega.{arith}
use lib.ListN.{length, take, drop, length-drop, take-append-drop}
use lib.Seq.{length-take-le, take-add, drop-drop, get_or-drop}
use borrow.Author.Tests.{le-leb, lt-leb}
use Rattle.error.specs.declared.ErrorCode.{ErrorCode}
use Rattle.kind.specs.Class.{is_white_space}
use Rattle.kind.proofs.Tests.{less_or_not}
use Rattle.util.specs.Run.{run, run_end, every}
use Rattle.util.proofs.{Every.every_run_front, Every.run_within, Runs.run_from, Runs.run_past}
use Rattle.token.specs.{View.view_of, View.part_of, declared.Token.Token}
use Rattle.item.specs.Follow.{token, refused, ends_data, followed}
use Rattle.forms.specs.ItemForm.{Ended}
use Rattle.forms.proofs.Pairs.{ok_pair}

module _ (t : Token) (next : ℕ) where
  pub only_token : (r : ErrorCode) → refused r ≡ token t next → ⊥
  only_token r h = let z : ◌≡◌ {A = ℕ} 0 1 = cc in omega arith

  pub only_then : (c : Bool) (x : Result (Token × ℕ) ErrorCode) (e : ErrorCode) → cond c x (refused e) ≡ token t next → (c ≡ true) × (x ≡ token t next)
  only_then true x e h = (refl, h)
  only_then false x e h = absurd (only_token e h)

  pub only_else : (c : Bool) (y : Result (Token × ℕ) ErrorCode) (e : ErrorCode) → cond c (refused e) y ≡ token t next → (c ≡ false) × (y ≡ token t next)
  only_else true y e h = absurd (only_token e h)
  only_else false y e h = (refl, h)

  pub only_followed : (u : Token) (e : ErrorCode) (s : List ℕ) (end : ℕ) → followed u e s end ≡ token t next → u ≡ t
  unfolding followed
  only_followed u e s end h = (ok_pair (only_then (ends_data s (run_end is_white_space s end)) (token u (run_end is_white_space s end)) e h).1).0

-- the part of a text from one place up to another
abbrev pub part : List ℕ → ℕ → ℕ → List ℕ
part s a b = take (b - a) (drop a s)

module _ (s : List ℕ) where
  pub part_shown : (a b : ℕ) → a ≤ b → b ≤ length s → part_of s (view_of a b) ≡ part s a b
  unfolding part_of
  part_shown a b h k = rw (le-leb b (length s) k, le-leb a b h)

  pub part_joined : (a b c : ℕ) → a ≤ b → b ≤ c → part s a c ≡ part s a b ++ part s b c
  part_joined a b c h k =
      let e : c - a ≡ (b - a) + (c - b) = omega arith in
      let f : a + (b - a) ≡ b = omega arith in
      rw e (take-add (b - a) (c - b) (drop a s) ∙ ap (λ (x : List ℕ). part s a b ++ take (c - b) x) (drop-drop (b - a) a s ∙ rw f))

  -- the part that a run goes through is of its class
  pub part_run : (p : ℕ → Bool) (a : ℕ) → every p (part s a (run_end p s a)) ≡ true
  unfolding run_end
  part_run p a = let e : a + run p (drop a s) - a ≡ run p (drop a s) = omega arith in rw e (every_run_front p (drop a s))

  pub part_length : (p : ℕ → Bool) (a : ℕ) → length (part s a (run_end p s a)) ≡ run_end p s a - a
  unfolding run_end
  part_length p a =
      let e : a + run p (drop a s) - a ≡ run p (drop a s) = omega arith in
      rw e (length-take-le (run p (drop a s)) (drop a s) (run_within p (drop a s)))

  -- a run that moves begins inside the text, and ends there
  pub run_inside : (p : ℕ → Bool) (a : ℕ) → a < run_end p s a → a < length s
  run_inside p a h = ⊎_elim (λ k. k) (λ k. absurd (omega (arith, run_past p s a k))) (less_or_not a (length s))

  pub run_most : (p : ℕ → Bool) (a : ℕ) → a ≤ length s → run_end p s a ≤ length s
  unfolding run_end
  run_most p a h = omega (arith, run_within p (drop a s), length-drop a s)

-- what follows an item that was accepted
ends_there : (s : List ℕ) (i : ℕ) → ends_data s i ≡ true → ends_data (drop i s) 0 ≡ true
unfolding ends_data
ends_there s i h =
    ⊎_elim
    (λ k. rw (lt-leb (length (drop i s)) 0 (omega (arith, k, length-drop i s)), get_or-drop i s 0 0, add-zero i) (rw (lt-leb (length s) i k) at h))
    (λ k. rw (le-leb (length (drop i s)) 0 (omega (arith, k, length-drop i s)))) (less_or_not i (length s))

pub ended : (t u : Token) (e : ErrorCode) (s : List ℕ) (end next : ℕ) → followed u e s end ≡ token t next → Ended s end next
unfolding followed
ended t u e s end next h =
    let w : ℕ = run_end is_white_space s end in
    let c = only_then t next (ends_data s w) (token u w) e h in
    let n : w ≡ next = (ok_pair c.1).1 in
    let k : end ≤ w = run_from is_white_space s end in
    let f : end + (w - end) ≡ w = omega (arith, k) in
    record {
      follows =
          record {
            white = part s end w;
            rest = drop w s;
            parts = sym (take-append-drop (w - end) (drop end s)) ∙ ap (λ (x : List ℕ). part s end w ++ x) (drop-drop (w - end) end s ∙ rw f);
            all_white = part_run s is_white_space end;
            ends = ends_there s w c.0;
          };
      behind = omega (arith, sym n, k, part_length s is_white_space end);
    }
