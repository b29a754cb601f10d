-- Laws of where a spec ends, of its dimension, and of the walk through its items, as the code meets them.
use Rattle.std.specs.Prelude.{Result, Ok, Err}
use Prim.Native.Nat.{ℕ, suc, ◌+◌, ◌-◌, ◌*◌, ◌^◌, ◌≤◌, ◌<◌, max}
use mathlib.Core.Path.{◌≡◌, refl, sym, ap, ◌∙◌}
use mathlib.Core.List.{List, []}
use mathlib.Core.Bool.{Bool, true, false, not, ◌&&◌}
use mathlib.Core.Logic.{⊎_elim}
use native.Mathlib.Omega.{arith}
use lib.Dec.{eqb, leb}
use lib.ListN.{length, get_or, take, drop, drop_of_length-le}
use lib.Seq.{drop-cons, take-nil}
use borrow.Author.Rules.{rules}
use borrow.Author.Tests.{eq-eqb, ne_eqb, not-true, not-false, le-leb, lt-leb, lt-ltb}
use mir.Syntax.{w64}
use mir.Val.{Fits}
use Rattle.kind.specs.Class.{is_digit, is_sign}
use Rattle.kind.proofs.Tests.{by_test, less_or_not}
use Rattle.util.specs.Run.{run, run_end, stands_at}
use Rattle.util.proofs.Runs.{ends_at, run_past, run_stop, run_more, run_from}
use Rattle.token.specs.View.{view_of, part_of}
use Rattle.forms.proofs.ItemAccepted.{part_shown, run_most}
use Rattle.channel_spec.specs.Spec.{in_spec, bang, bangs, dimension_of, spec_to, spec_at}
use lib.IntN.{ℤ}
use Rattle.error.specs.declared.ErrorCode.TheVariants.{ExpressionError}
use Rattle.integer.specs.{Number.signed_at}
use Rattle.channel_spec.specs.Item.{refusal, bang_end, item_step, item_of, item_at}
use Rattle.channel_spec.specs.declared.Item.TheVariants as item
use Rattle.channel_spec.specs.declared.Step.{Step}
use Rattle.integer.specs.declared.NumberError.{NumberError}

-- what may stand in a spec
module _ (b : ℕ) (d : Bool) (ed : d ≡ is_digit b) where
  pub digit_in' : d ≡ true → true ≡ in_spec b
  unfolding in_spec
  digit_in' q = rw (← ed, q)

  module _ (n : d ≡ false) (g : Bool) (eg : g ≡ is_sign b) where
    pub sign_in' : g ≡ true → true ≡ in_spec b
    unfolding in_spec
    sign_in' q = rw (← ed, n, ← eg, q)

    pub bang_in' : g ≡ false → eqb b 33 ≡ in_spec b
    unfolding in_spec
    bang_in' q = rw (← ed, n, ← eg, q)

module _ (b : ℕ) where
  pub bang_there' : b ≡ 33 → 1 ≡ bang b
  unfolding bang
  bang_there' e = rw (eq-eqb b 33 e)

  pub bang_none' : (b ≡ 33 → ⊥) → 0 ≡ bang b
  unfolding bang
  bang_none' n = rw (ne_eqb b 33 n)

-- the characters of a spec at the front of a text
abbrev pub front : List ℕ → List ℕ
front t = take (run in_spec t) t

width : (s : List ℕ) (i : ℕ) → run_end in_spec s i - i ≡ run in_spec (drop i s)
unfolding run_end
width s i = omega arith

no_part : (s : List ℕ) (i end : ℕ) → length s ≤ i → part_of s (view_of i end) ≡ []
unfolding part_of
no_part s i end h = by_test (λ (t : List ℕ). t ≡ []) (leb end (length s) && leb i end) (λ _. rw (drop_of_length-le s h) (take-nil (end - i))) (λ _. refl)

module _ (s : List ℕ) (i : ℕ) where
  front_stop : i < length s → in_spec (get_or s i 0) ≡ false → bangs (front (drop i s)) ≡ 0
  unfolding run bangs
  front_stop h e = rw (drop-cons s i 0 h, e)

  front_past : length s ≤ i → bangs (front (drop i s)) ≡ 0
  unfolding run bangs
  front_past h = rw (drop_of_length-le s h)

  front_more : i < length s → in_spec (get_or s i 0) ≡ true → bangs (front (drop i s)) ≡ bang (get_or s i 0) + bangs (front (drop (suc i) s))
  unfolding run bangs
  front_more h e = rw (drop-cons s i 0 h, e)

  -- the spec at a place is the front of the text from there on
  part_front : part_of s (view_of i (run_end in_spec s i)) ≡ front (drop i s)
  part_front = ⊎_elim inside beyond (less_or_not i (length s))
    where
      inside : i < length s → part_of s (view_of i (run_end in_spec s i)) ≡ front (drop i s)
      inside h =
          part_shown s i (run_end in_spec s i) (run_from in_spec s i) (run_most s in_spec i (omega (arith, h)))
          ∙ ap (λ (n : ℕ). take n (drop i s)) (width s i)

      beyond : length s ≤ i → part_of s (view_of i (run_end in_spec s i)) ≡ front (drop i s)
      beyond h = no_part s i (run_end in_spec s i) h ∙ sym (ap (λ (t : List ℕ). front t) (drop_of_length-le s h) ∙ take-nil (run in_spec []))

-- As the loop meets them: the dimension so far, and the place behind its last character.
module _ (s : List ℕ) (at end dimension : ℕ)
    (runs : run_end in_spec s at ≡ run_end in_spec s end)
    (counts : dimension + bangs (front (drop end s)) ≡ suc (bangs (front (drop at s)))) where
  found : run_end in_spec s at ≡ end → bangs (front (drop end s)) ≡ 0 → record { view = view_of at end; dimension = dimension } ≡ spec_at s at
  unfolding spec_at spec_to dimension_of
  found e z = let d : dimension ≡ suc (bangs (front (drop at s))) = omega (arith, counts, z) in rw (part_front s at, e, d)

  pub spec_stop' : (r : Bool) → end < length s → r ≡ in_spec (get_or s end 0) → not r ≡ true → record { view = view_of at end; dimension = dimension } ≡ spec_at s at
  spec_stop' r h er q =
      let f : in_spec (get_or s end 0) ≡ false = sym er ∙ not-true r q in
      found (runs ∙ run_stop in_spec s end h f) (front_stop s end h f)

  pub spec_past' : (m : ℕ) → m ≡ max at (length s) → (at ≤ length s → end ≤ length s) → length s ≤ end
      → record { view = view_of at m; dimension = dimension } ≡ spec_at s at
  spec_past' m em f h =
      let e : m ≡ end = ends_at in_spec s end at m em f h runs in
      rw e (found (runs ∙ run_past in_spec s end h) (front_past s end h))

  module _ (r : Bool) (h : end < length s) (er : r ≡ in_spec (get_or s end 0)) (q : not r ≡ false) where
    more : in_spec (get_or s end 0) ≡ true
    more = sym er ∙ not-false r q

    pub runs_on' : (j : ℕ) → j ≡ end + 1 → run_end in_spec s at ≡ run_end in_spec s j
    runs_on' j e = runs ∙ run_more in_spec s end h more ∙ rw e

    pub counts_on' : (j k : ℕ) → j ≡ end + 1 → k ≡ bang (get_or s end 0) → dimension + k + bangs (front (drop j s)) ≡ suc (bangs (front (drop at s)))
    counts_on' j k e ek =
        let f : suc end ≡ j = omega (arith, e) in
        let g : bangs (front (drop end s)) ≡ k + bangs (front (drop j s)) = rw (← f, ek) (front_more s end h more) in
        omega (arith, counts, g)

-- a spec of so many characters has no higher a dimension, so that it never grows too large
bang_most : (b : ℕ) → bang b ≤ 1
unfolding bang
bang_most b = by_test (λ (n : ℕ). n ≤ 1) (eqb b 33) (λ _. omega arith) (λ _. omega arith)

module _ (end dimension k b : ℕ) (most : dimension ≤ end + 1) (ek : k ≡ bang b) where
  pub dimension_fits' : (n : ℕ) → end < n → n * 1 < 2 ^ 63 → Fits w64 (dimension + k)
  dimension_fits' n h l = record { fits = omega (arith, ek, bang_most b) }

  pub dimension_on' : (j : ℕ) → j ≡ end + 1 → dimension + k ≤ j + 1
  dimension_on' j e = omega (arith, ek, bang_most b)

pub ruleset laws = (rules, digit_in', sign_in', bang_in', bang_there', bang_none', spec_stop', spec_past', runs_on', counts_on', dimension_fits', dimension_on')

module _ (s : List ℕ) (at : ℕ) (r : Result (ℤ × ℕ) NumberError) (er : r ≡ signed_at s at) where
  pub value' : (v : ℤ) (end : ℕ) → r ≡ Ok (v, end) → record { item = item.Value v; place = end } ≡ item_of s at
  unfolding item_of item_step
  value' v end q = rw (← er, q)

  pub no_value' : (e : NumberError) → r ≡ Err e → (x : Step) → x ≡ refusal s → x ≡ item_of s at
  unfolding item_of item_step
  no_value' NumberError.NoDigit q x ex = ex ∙ rw (← er, q)
  no_value' NumberError.TooLarge q x ex = ex ∙ rw (← er, q)

pub refusal_is' : (s : List ℕ) → record { item = item.Refused ExpressionError; place = length s } ≡ refusal s
unfolding refusal
refusal_is' s = refl

module _ (s : List ℕ) (at : ℕ) where
  pub end' : length s ≤ at → record { item = item.End; place = at } ≡ item_at s at
  unfolding item_at
  end' h = rw (le-leb (length s) at h)

  module _ (h : at < length s) (x : Step) where
    pub behind_bang' : get_or s at 0 ≡ 33 → x ≡ item_of s (at + 1) → x ≡ item_at s at
    unfolding item_at bang_end stands_at
    behind_bang' e ex = ex ∙ rw (lt-leb (length s) at h, lt-ltb at (length s) h, eq-eqb (get_or s at 0) 33 e)

    pub plain' : (get_or s at 0 ≡ 33 → ⊥) → x ≡ item_of s at → x ≡ item_at s at
    unfolding item_at bang_end stands_at
    plain' n ex = ex ∙ rw (lt-leb (length s) at h, lt-ltb at (length s) h, ne_eqb (get_or s at 0) 33 n)

pub ruleset walks = (rules, refusal_is', value', no_value', end', behind_bang', plain')
