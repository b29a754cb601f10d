-- Laws of coordinates, and of the loop that looks for a `!`, as the code meets them.
use Rattle.std.specs.Prelude.{Result, Ok, Err, Some, None, Option}
use Rattle.std.specs.Result.{result_ok}
use Prim.Native.Nat.{ℕ, suc, ◌+◌, ◌*◌, ◌^◌, ◌≤◌, ◌<◌}
use mathlib.Core.Path.{◌≡◌, refl, sym, ap, ◌∙◌}
use mathlib.Core.List.{List, [], ◌∷◌, ◌++◌}
use mathlib.Core.Logic.{⊎_elim}
use mathlib.Core.Bool.{Bool, true, false, cond, true≢false}
use native.Mathlib.Omega.{arith}
use lib.Dec.{eqb, ltb}
use lib.IntN.{ℤ}
use lib.ListN.{length, get_or, drop, length-append, drop_of_length-le}
use lib.Seq.{drop-append_seam, drop-cons}
use borrow.Author.Rules.{rules}
use borrow.Author.Tests.{eq-eqb, ne_eqb, eqb-true, eqb-false, lt-ltb, le-ltb, ltb-true, ltb-false, le-leb, lt-leb, not-true}
use mir.Syntax.{w64}
use mir.Val.{Fits}
use Rattle.error.specs.declared.ErrorCode.{ErrorCode}
use Rattle.error.specs.declared.ErrorCode.TheVariants.{ExpressionError, InvalidExpression}
use Rattle.kind.proofs.Tests.{and_left, and_right, less_or_not}
use Rattle.util.specs.Run.{stands_at, every}
use Rattle.integer.specs.{Number.signed_at}
use Rattle.channel_spec.specs.Spec.{bang, bangs, dimension_of}
use Rattle.channel_spec.specs.Item.{refusal, bang_end, item_step, item_of, item_at}
use Rattle.coordinate.specs.Coordinate.{integer, both, integers, written, pair_of, triple_of, first_of, coordinate_of}
use Rattle.coordinate.specs.Reading.{last_of, joined_by, joined_at, no_coordinate}
use Rattle.channel_spec.specs.declared.Item.TheVariants as item
use Rattle.coordinate.proofs.Parts.{Read, is_value, some_byte, integer_form, Front, front_of, plain, whole_plain, then_last, then_bang, then_other, then_none}
use native.Mathlib.Numerals.{add-one}
use Rattle.channel_spec.proofs.Specs.{bang_there', bang_none'}
use Rattle.integer.specs.declared.NumberError.{NumberError}

-- coordinates behind another are one more at least
two : (v : ℤ) (t : List ℕ) → None ≡ last_of (both (Some v) (written t))
unfolding written integers both last_of
two v t = rw f.split (go (integer f.first) (integers f.others))
  where
    f : Front t
    f = front_of t

    go : (o : Option ℤ) (m : Option (List ℤ)) → None ≡ last_of (both (Some v) (both o m))
    go None m = refl
    go (Some w) None = refl
    go (Some w) (Some ws) = refl

-- no integer was read, or this one, by what `ok` leaves of it
unread : (r : Result (ℤ × ℕ) NumberError) → None ≡ result_ok r → is_value r ≡ false
unread (Ok (v, end)) q = absurd (true≢false (cc))
unread (Err NumberError.NoDigit) q = refl
unread (Err NumberError.TooLarge) q = refl

was_read : (r : Result (ℤ × ℕ) NumberError) (p : ℤ × ℕ) → Some p ≡ result_ok r → r ≡ Ok p
was_read (Ok w) p q = cc
was_read (Err e) p q = absurd (true≢false (cc))

-- an integer that a `!` follows
module _ (s : List ℕ) (at : ℕ) (r : Result (ℤ × ℕ) NumberError) (er : r ≡ signed_at s at) where
  pub unjoined_none' : None ≡ result_ok r → None ≡ joined_at s at
  unfolding joined_at joined_by
  unjoined_none' q = rw (← er) (go r (unread r q))
    where
      go : (r : Result (ℤ × ℕ) NumberError) → is_value r ≡ false → None ≡ joined_by s r
      go (Ok (v, end)) k = absurd (true≢false k)
      go (Err NumberError.NoDigit) k = refl
      go (Err NumberError.TooLarge) k = refl

  pub not_last_none' : None ≡ result_ok r → None ≡ last_of (written (drop at s))
  unfolding last_of
  not_last_none' q = rw (then_none s at (rw er at (unread r q)))

  module _ (v : ℤ) (end : ℕ) (w : Some (v, end) ≡ result_ok r) where
    q : r ≡ Ok (v, end)
    q = was_read r (v, end) w

    module _ (b : Bool) (eb : b ≡ stands_at 33 s end) where
      pub next_fits' : b ≡ true → length s * 1 < 2 ^ 63 → Fits w64 (end + 1)
      unfolding stands_at
      next_fits' k l =
          let h : end < length s = ltb-true end (length s) (and_left (ltb end (length s)) (eqb (get_or s end 0) 33) (sym eb ∙ k)) in
          record { fits = omega (arith, h, l) }

      pub joined' : b ≡ true → Some (v, end + 1) ≡ joined_at s at
      unfolding joined_at joined_by
      joined' k = rw (← er, q, ← eb, k)

      pub unjoined_other' : b ≡ false → None ≡ joined_at s at
      unfolding joined_at joined_by
      unjoined_other' k = rw (← er, q, ← eb, k)

    pub last' : length s ≤ end → Some v ≡ last_of (written (drop at s))
    unfolding last_of
    last' h = rw (then_last s at v end (sym er ∙ q) h)

    pub not_last' : end < length s → None ≡ last_of (written (drop at s))
    unfolding last_of
    not_last' h = by_byte (eqb (get_or s end 0) 33) refl
      where
        by_byte : (c : Bool) → eqb (get_or s end 0) 33 ≡ c → None ≡ last_of (written (drop at s))
        by_byte true e = rw (then_bang s at v end (sym er ∙ q) h (eqb-true (get_or s end 0) 33 e)) (two v (drop (end + 1) s))
        by_byte false e = rw (then_other s at v end (sym er ∙ q) h (eqb-false (get_or s end 0) 33 e))

pub ruleset reads = (rules, unjoined_none', unjoined_other', next_fits', joined', not_last_none', last', not_last')

-- the coordinates of a spec from a joined integer on; there are fewer than two where there is none
abbrev from : List ℕ → Option (ℤ × ℕ) → Option (List ℤ)
from s (Some (v, next)) = both (Some v) (written (drop next s))
from s None = None

joined_written : {A : Type 0} (f : Option (List ℤ) → A) → ((v : ℤ) → f (Some (v ∷ [])) ≡ f None) → (s : List ℕ) (at : ℕ)
    → f (written (drop at s)) ≡ f (from s (joined_at s at))
unfolding joined_at joined_by stands_at
joined_written f alone s at = go (signed_at s at) refl
  where
    inside : (v : ℤ) (end : ℕ) → signed_at s at ≡ Ok (v, end) → end < length s → (c : Bool) → eqb (get_or s end 0) 33 ≡ c
        → f (written (drop at s)) ≡ f (from s (joined_by s (Ok (v, end))))
    inside v end e h true k = rw (lt-ltb end (length s) h, k, then_bang s at v end e h (eqb-true (get_or s end 0) 33 k))
    inside v end e h false k = rw (lt-ltb end (length s) h, k, then_other s at v end e h (eqb-false (get_or s end 0) 33 k))

    go : (r : Result (ℤ × ℕ) NumberError) → signed_at s at ≡ r → f (written (drop at s)) ≡ f (from s (joined_by s r))
    go (Ok (v, end)) e =
        ⊎_elim (λ h. inside v end e h (eqb (get_or s end 0) 33) refl)
        (λ h. rw (le-ltb end (length s) h, then_last s at v end e h) (alone v)) (less_or_not end (length s))
    go (Err NumberError.NoDigit) e = rw (then_none s at (ap is_value e))
    go (Err NumberError.TooLarge) e = rw (then_none s at (ap is_value e))

-- a value before what stands from the next place on
abbrev pair_with : ℤ → Option ℤ → Result (ℤ × ℤ) ErrorCode
pair_with v (Some w) = Ok (v, w)
pair_with v None = Err ExpressionError

pair_both : (v : ℤ) (m : Option (List ℤ)) → pair_of (both (Some v) m) ≡ pair_with v (last_of m)
unfolding pair_of both last_of
pair_both v None = refl
pair_both v (Some []) = refl
pair_both v (Some (a ∷ [])) = refl
pair_both v (Some (a ∷ b ∷ vs)) = refl

abbrev triple_with : ℤ → Result (ℤ × ℤ) ErrorCode → Result (ℤ × ℤ × ℤ) ErrorCode
triple_with v (Ok (a, b)) = Ok (v, a, b)
triple_with v (Err e) = Err e

triple_both : (v : ℤ) (m : Option (List ℤ)) → triple_of (both (Some v) m) ≡ triple_with v (pair_of m)
unfolding triple_of both pair_of
triple_both v None = refl
triple_both v (Some []) = refl
triple_both v (Some (a ∷ [])) = refl
triple_both v (Some (a ∷ b ∷ [])) = refl
triple_both v (Some (a ∷ b ∷ c ∷ vs)) = refl

module _ (s : List ℕ) (at : ℕ) (j : Option (ℤ × ℕ)) (ej : j ≡ joined_at s at) where
  pair_from : pair_of (written (drop at s)) ≡ pair_of (from s j)
  unfolding pair_of
  pair_from = rw ej (joined_written pair_of (λ v. refl) s at)

  pub pair_none' : j ≡ None → Err ExpressionError ≡ pair_of (written (drop at s))
  unfolding pair_of
  pair_none' q = sym (pair_from ∙ rw q)

  module _ (v : ℤ) (next : ℕ) (q : j ≡ Some (v, next)) (l : Option ℤ) (el : l ≡ last_of (written (drop next s))) where
    ends : pair_of (written (drop at s)) ≡ pair_with v l
    ends = pair_from ∙ rw (q, el) (pair_both v (written (drop next s)))

    pub pair' : (w : ℤ) → l ≡ Some w → Ok (v, w) ≡ pair_of (written (drop at s))
    pair' w k = sym (ends ∙ rw k)

    pub pair_one' : l ≡ None → Err ExpressionError ≡ pair_of (written (drop at s))
    pair_one' k = sym (ends ∙ rw k)

module _ (s : List ℕ) (j : Option (ℤ × ℕ)) (ej : j ≡ joined_at s 0) where
  triple_from : triple_of (written s) ≡ triple_of (from s j)
  unfolding triple_of
  triple_from = rw ej (joined_written triple_of (λ v. refl) s 0)

  pub triple_none' : j ≡ None → Err ExpressionError ≡ triple_of (written s)
  unfolding triple_of
  triple_none' q = sym (triple_from ∙ rw q)

  module _ (v : ℤ) (next : ℕ) (q : j ≡ Some (v, next)) (p : Result (ℤ × ℤ) ErrorCode) (ep : p ≡ pair_of (written (drop next s))) where
    goes_on : triple_of (written s) ≡ triple_with v p
    goes_on = triple_from ∙ rw (q, ep) (triple_both v (written (drop next s)))

    pub triple' : (a b : ℤ) → p ≡ Ok (a, b) → Ok (v, a, b) ≡ triple_of (written s)
    triple' a b k = sym (goes_on ∙ rw k)

    pub triple_fewer' : (e : ErrorCode) → p ≡ Err e → (x : Result (ℤ × ℤ × ℤ) ErrorCode) → x ≡ Err e → x ≡ triple_of (written s)
    triple_fewer' e k x ex = ex ∙ sym (goes_on ∙ rw k)

pub ruleset laws = (rules, pair_none', pair', pair_one', triple_none', triple', triple_fewer')

-- One coordinate: how many `!` the spec has.
pub bangs_joined : (x y : List ℕ) → bangs (x ++ y) ≡ bangs x + bangs y
unfolding bangs
bangs_joined [] y = omega arith
bangs_joined (b ∷ x) y = omega (arith, bangs_joined x y)

pub bangs_plain : (x : List ℕ) → every plain x ≡ true → bangs x ≡ 0
unfolding bangs bang every
bangs_plain [] a = refl
bangs_plain (b ∷ x) a =
    rw (not-true (eqb b 33) (and_left (plain b) (every plain x) a), bangs_plain x (and_right (plain b) (every plain x) a))

none_first : (s : List ℕ) → bangs s ≡ 0 → stands_at 33 s 0 ≡ false
unfolding bangs bang stands_at
none_first [] z = refl
none_first (b ∷ s) z = rw (lt-ltb 0 (suc (length s)) (omega arith)) (go (eqb b 33) z)
  where
    go : (c : Bool) → cond c 1 0 + bangs s ≡ 0 → c ≡ false
    go true k = absurd (omega (arith, k))
    go false k = refl

only_one : (s : List ℕ) → eqb (dimension_of s) 1 ≡ true → bangs s ≡ 0
unfolding dimension_of
only_one s e = omega (arith, eqb-true (suc (bangs s)) 1 e)

module _ (s : List ℕ) where
  more_than_one : 0 < bangs s → eqb (dimension_of s) 1 ≡ false
  unfolding dimension_of
  more_than_one h = ne_eqb (suc (bangs s)) 1 (λ e. omega (arith, h, e))

  just_one : bangs s ≡ 0 → eqb (dimension_of s) 1 ≡ true
  unfolding dimension_of
  just_one z = eq-eqb (suc (bangs s)) 1 (omega (arith, z))

  -- the walk then begins with the integer at the front
  first_item : bangs s ≡ 0 → 0 < length s → item_at s 0 ≡ item_of s 0
  unfolding item_at bang_end
  first_item z h = rw (lt-leb (length s) 0 h, none_first s z)

  module _ (b : Bool) (eb : b ≡ ltb 0 (bangs (drop 0 s))) where
    some_bang : b ≡ true → 0 < bangs s
    some_bang q = ltb-true 0 (bangs s) (sym eb ∙ q)

    no_bang : b ≡ false → bangs s ≡ 0
    no_bang q = omega (arith, ltb-false 0 (bangs s) (sym eb ∙ q))

    pub no_one_more' : b ≡ true → Err InvalidExpression ≡ no_coordinate s
    unfolding no_coordinate
    no_one_more' q = rw (more_than_one (some_bang q))

    pub no_one_first' : b ≡ false → Err ExpressionError ≡ no_coordinate s
    unfolding no_coordinate
    no_one_first' q = rw (just_one (no_bang q))

  -- no integer begins the spec
  module _ (r : Result (ℤ × ℕ) NumberError) (er : r ≡ signed_at s 0) where
    refused_item : is_value r ≡ false → (item_of s 0).item ≡ item.Refused ExpressionError
    unfolding item_of item_step refusal
    refused_item q = rw (← er) (go r q)
      where
        go : (r : Result (ℤ × ℕ) NumberError) → is_value r ≡ false → (item_step s r).item ≡ item.Refused ExpressionError
        go (Ok (v, end)) q = absurd (true≢false q)
        go (Err NumberError.NoDigit) q = refl
        go (Err NumberError.TooLarge) q = refl

    no_first : is_value r ≡ false → bangs s ≡ 0 → first_of (item_at s 0).item ≡ Err ExpressionError
    unfolding first_of item_at
    no_first q z = ⊎_elim (λ h. rw (first_item z h, refused_item q)) (λ h. rw (le-leb (length s) 0 h)) (less_or_not 0 (length s))

    same_refusal : is_value r ≡ false → no_coordinate s ≡ coordinate_of s
    unfolding no_coordinate coordinate_of
    same_refusal q = go (eqb (dimension_of s) 1) refl
      where
        go : (c : Bool) → eqb (dimension_of s) 1 ≡ c
            → cond c (Err ExpressionError) (Err InvalidExpression) ≡ cond c (first_of (item_at s 0).item) (Err InvalidExpression)
        go true e = sym (no_first q (only_one s e))
        go false e = refl

    pub one_none' : (e : NumberError) → r ≡ Err e → (x : Result ℤ ErrorCode) → x ≡ no_coordinate s → x ≡ coordinate_of s
    one_none' NumberError.NoDigit q x ex = ex ∙ same_refusal (ap is_value q)
    one_none' NumberError.TooLarge q x ex = ex ∙ same_refusal (ap is_value q)

    -- an integer begins it, in which there is no `!`
    module _ (v : ℤ) (end : ℕ) (q : r ≡ Ok (v, end)) (b : Bool) (eb : b ≡ ltb 0 (bangs (drop end s))) where
      word : Read s 0 v end
      word = integer_form s 0 v end (sym er ∙ q)

      counted : bangs s ≡ bangs (drop end s)
      counted =
          let e : end ≡ length word.word = omega (arith, word.behind) in
          let d : drop end s ≡ word.rest = ap (λ (i : ℕ). drop i s) e ∙ ap (drop (length word.word)) word.parts ∙ drop-append_seam word.word word.rest in
          ap bangs word.parts ∙ bangs_joined word.word word.rest ∙ rw (bangs_plain word.word (whole_plain word.word word.decimal.form), d) (omega arith)

      not_empty : 0 < length s
      not_empty =
          omega (arith, ap length word.parts, length-append word.word word.rest, some_byte word.word v word.decimal)

      pub one_more' : b ≡ true → Err InvalidExpression ≡ coordinate_of s
      unfolding coordinate_of
      one_more' k = rw (more_than_one (omega (arith, counted, ltb-true 0 (bangs (drop end s)) (sym eb ∙ k))))

      pub one' : b ≡ false → Ok v ≡ coordinate_of s
      unfolding coordinate_of first_of item_of item_step
      one' k =
          let z : bangs s ≡ 0 = omega (arith, counted, ltb-false 0 (bangs (drop end s)) (sym eb ∙ k)) in
          rw (just_one z, first_item z not_empty, ← er, q)

pub ruleset ones = (rules, no_one_more', no_one_first', one_none', one_more', one')

-- a `!` from a place on, as the loop that looks for one meets it
module _ (s : List ℕ) (at i : ℕ) (inv : bangs (drop at s) ≡ bangs (drop i s)) where
  pub bang_found' : i < length s → get_or s i 0 ≡ 33 → true ≡ ltb 0 (bangs (drop at s))
  unfolding bangs
  bang_found' h e =
      let n : bangs (drop at s) ≡ 1 + bangs (drop (suc i) s) = inv ∙ rw (drop-cons s i 0 h, ← bang_there' (get_or s i 0) e) in
      sym (lt-ltb 0 (bangs (drop at s)) (omega (arith, n)))

  pub bang_passed' : (j : ℕ) → i < length s → (get_or s i 0 ≡ 33 → ⊥) → j ≡ i + 1 → bangs (drop at s) ≡ bangs (drop j s)
  unfolding bangs
  bang_passed' j h n e = inv ∙ rw (e, add-one, drop-cons s i 0 h, ← bang_none' (get_or s i 0) n) (omega arith)

  pub bang_nowhere' : length s ≤ i → false ≡ ltb 0 (bangs (drop at s))
  unfolding bangs
  bang_nowhere' h = rw (inv, drop_of_length-le s h)

pub ruleset looks = (rules, bang_found', bang_passed', bang_nowhere')
