-- What is written of a part of a line, for each way out of the code.
use Rattle.std.specs.Prelude.{Option, Some, None}
use Prim.Native.Nat.{ℕ, ◌+◌, ◌-◌, ◌/◌, ◌≤◌, ◌<◌}
use mathlib.Core.Path.{◌≡◌, refl, ap, ◌∙◌}
use mathlib.Core.Logic.{◌⊎◌}
use mathlib.Core.List.{List, ◌++◌, append-nil}
use mathlib.Core.Bool.{Bool, true, false, cond, not}
use native.Mathlib.Omega.{arith}
use lib.Dec.{leb}
use lib.ListN.{length, take, drop, length-append, length-take, length-drop, take-append-drop}
use borrow.Author.Rules.{rules}
use borrow.Author.Tests.{le-leb, lt-leb, leb-true, not-true, not-false}
use Rattle.request.specs.Hex.{are_pairs, bytes_of, is_dash, text_of}
use Rattle.request.specs.Unhex.{Outcome, refused, written, put, unhexed}
use Rattle.request.proofs.{Pairs.bytes_length, Parts.part, Parts.inside, Parts.outside}

module _ (s : List ℕ) (from to : ℕ) (o : List ℕ) (at : ℕ) where
  pub no_part' : (x : Option ℕ) → x ≡ None → (to < from) ⊎ (length s < to) → record { says = x; slots = o } ≡ unhexed s from to o at
  unfolding unhexed put
  no_part' x e h = rw (e, outside s from to h)

  no_room : (x : Option (List ℕ)) → length o < at → refused o ≡ put o at x
  unfolding put
  no_room None h = refl
  no_room (Some t) h = let k : length o < at + length t = omega arith in rw (lt-leb (at + length t) (length o) k)

  pub no_room' : (x : Option ℕ) → x ≡ None → length o < at → record { says = x; slots = o } ≡ unhexed s from to o at
  unfolding unhexed
  no_room' x e h = rw e (no_room _ h)

  module _ (h : from ≤ to) (l : to ≤ length s) (t : List ℕ) (e : t ≡ take (to - from) (drop from s)) where
    whole : put o at (text_of t) ≡ unhexed s from to o at
    unfolding unhexed
    whole = rw (inside s from to h l, ← part s from to h l, e)

    module _ (d : Bool) (ed : d ≡ is_dash t) where
      pub empty' : at ≤ length o → d ≡ true → record { says = Some at; slots = o } ≡ unhexed s from to o at
      unfolding put text_of
      empty' k q =
          let z : at + 0 ≡ at = omega arith in
          rw (← ed, q, z, le-leb at (length o) k, append-nil, take-append-drop) at whole

      module _ (qd : d ≡ false) (p : Bool) (ep : p ≡ are_pairs t) where
        pub no_pairs' : not p ≡ true → refused o ≡ unhexed s from to o at
        unfolding put text_of
        no_pairs' q = rw (← ed, qd, ← ep, not-true p q) at whole

        pub too_long' : not p ≡ false → at ≤ length o → length o - at < length t / 2 → refused o ≡ unhexed s from to o at
        unfolding put text_of
        too_long' q k m =
            let w : length o < at + length (bytes_of t) = omega (arith, bytes_length t) in
            rw (← ed, qd, ← ep, not-false p q, lt-leb (at + length (bytes_of t)) (length o) w) at whole

        pub text' : not p ≡ false → at ≤ length o → length t / 2 ≤ length o - at → (x : Outcome) → x ≡ written o at (bytes_of t) → x ≡ unhexed s from to o at
        unfolding put text_of
        text' q k m x f =
            let w : at + length (bytes_of t) ≤ length o = omega (arith, bytes_length t) in
            f ∙ (rw (← ed, qd, ← ep, not-false p q, le-leb (at + length (bytes_of t)) (length o) w) at whole)

-- a text that was written ends in the buffer, no sooner than it starts
module _ (o : List ℕ) (at n : ℕ) (o' : List ℕ) where
  in_room : (t : List ℕ) (b : Bool) → leb (at + length t) (length o) ≡ b → record { says = Some n; slots = o' } ≡ cond b (written o at t) (refused o)
      → (at ≤ n) × (n ≤ length o')
  in_room t true h q =
      let k : at + length t ≤ length o = leb-true (at + length t) (length o) h in
      let m : n ≡ at + length t = cc (ap (λ (w : Outcome). w.says) q) in
      let l : length o' ≡ length (take at o ++ t ++ drop (at + length t) o) = ap (λ (w : Outcome). length w.slots) q in
      omega (arith, simp (length-append, length-take, length-drop) at l)
  in_room t false h q = absurd (let z : ◌≡◌ {A = ℕ} 0 1 = cc (ap (λ (w : Outcome). w.says) q) in omega arith)

  in_buffer : (x : Option (List ℕ)) → record { says = Some n; slots = o' } ≡ put o at x → (at ≤ n) × (n ≤ length o')
  unfolding put
  in_buffer None q = absurd (let z : ◌≡◌ {A = ℕ} 0 1 = cc (ap (λ (w : Outcome). w.says) q) in omega arith)
  in_buffer (Some t) q = in_room t _ refl q

  pub until : (s : List ℕ) (from to : ℕ) → record { says = Some n; slots = o' } ≡ unhexed s from to o at → (at ≤ n) × (n ≤ length o')
  unfolding unhexed
  until s from to e = in_buffer _ e

pub ruleset laws = (rules, no_part', no_room', empty', no_pairs', too_long', text')
