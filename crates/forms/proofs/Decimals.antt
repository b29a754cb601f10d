-- Decimal numbers: what has the form is accepted.
use Rattle.std.specs.Prelude.{Some}
use Prim.Native.Nat.{ℕ, ◌+◌, ◌-◌, ◌≤◌, ◌<◌}
use mathlib.Core.Path.{◌≡◌, refl, ap, ◌∙◌}
use mathlib.Core.List.{List, [], ◌∷◌, ◌++◌, append_assoc}
use mathlib.Core.Bool.{Bool, true, false, ◌||◌, and-false}
use mathlib.Core.Logic.{◌⊎◌, ⊎_elim}
use native.Mathlib.Omega.{arith}
use lib.Dec.{eqb, leb, ltb}
use lib.ListN.{length, get_or, drop, length-append}
use borrow.Author.Tests.{ne_eqb, eqb-true, leb-true, lt-ltb, le-ltb}
use Rattle.error.specs.declared.ErrorCode.TheVariants.{InvalidSuffix}
use Rattle.kind.specs.Text.{ascii}
use Rattle.kind.specs.Class.{is_sign, is_digit, is_letter, is_capital, is_small}
use Rattle.kind.proofs.Tests.{either, and_left, less_or_not}
use Rattle.util.specs.Run.{sign_end, every, stands_at}
use Rattle.token.specs.{View.view_of, declared.Token.TheVariants.DecimalNumericProgramData}
use Rattle.item.specs.Follow.{token}
use Rattle.forms.specs.ItemForm.{Follows}
use Rattle.forms.proofs.ItemSeams.{here_get, here_stands, here_next, here_run, after_none, end_none, white_none, white_run, well_followed}
use Rattle.decimal.specs.Decimal.{whole_end, has_whole, fraction_end, has_fraction, mantissa, begins_exponent, exponent, with_exponent, number, number_to, nrf, begins_suffix, suffix_data, numeric_to, numeric_data}
use Rattle.forms.specs.DecimalForm.{Whole, Fraction, Exponent, Number, Stops}

digit_no_sign : (b : ℕ) → is_digit b ≡ true → is_sign b ≡ false
unfolding is_digit is_sign
digit_no_sign b h =
    let k : 48 ≤ b = leb-true 48 b (and_left (leb 48 b) (leb b 57) h) in
    rw (ne_eqb b 43 (λ e. omega (arith, k)), ne_eqb b 45 (λ e. omega (arith, k)))

-- no sign begins a row of digits
no_sign : (ds y : List ℕ) → every is_digit ds ≡ true → (length ds ≡ 0 → is_sign (get_or y 0 0) ≡ false) → is_sign (get_or (ds ++ y) 0 0) ≡ false
unfolding every
no_sign [] y a n = n refl
no_sign (d ∷ ds) y a n = digit_no_sign d (and_left (is_digit d) (every is_digit ds) a)

-- an optional sign is passed
sign_read : (s : List ℕ) (i : ℕ) (x y : List ℕ) → drop i s ≡ x ++ y → length x ≤ 1 → every is_sign x ≡ true → is_sign (get_or y 0 0) ≡ false → sign_end s i ≡ i + length x
unfolding sign_end every
sign_read s i [] y h k a n = rw (here_get s i y h, n) (omega arith)
sign_read s i (c ∷ []) y h k a n = rw (here_get s i (c ∷ y) h, and_left (is_sign c) true a) (omega arith)
sign_read s i (c ∷ d ∷ x) y h k a n = absurd (omega (arith, k))

module _ (s : List ℕ) (i : ℕ) (w y : List ℕ) (h : drop i s ≡ w ++ y) (f : Whole w)
    (stops : is_digit (get_or y 0 0) ≡ false) (bare : length f.digits ≡ 0 → is_sign (get_or y 0 0) ≡ false) where
  from_sign : drop i s ≡ f.sign ++ (f.digits ++ y)
  from_sign = h ∙ ap (λ (x : List ℕ). x ++ y) f.parts ∙ append_assoc f.sign f.digits y

  pub whole_sign : sign_end s i ≡ i + length f.sign
  whole_sign = sign_read s i f.sign (f.digits ++ y) from_sign f.one_sign f.all_sign (no_sign f.digits y f.all_digit bare)

  long : length w ≡ length f.sign + length f.digits
  long = ap length f.parts ∙ length-append f.sign f.digits

  pub whole_read : whole_end s i ≡ i + length w
  unfolding whole_end
  whole_read =
      rw whole_sign
      (here_run s (i + length f.sign) f.digits y (here_next s i f.sign (f.digits ++ y) from_sign) is_digit f.all_digit stops ∙ omega (arith, long))

  pub whole_some : 0 < length f.digits → has_whole s i ≡ true
  unfolding has_whole
  whole_some k = rw (whole_sign, whole_read) (lt-ltb (i + length f.sign) (i + length w) (omega (arith, long)))

  pub whole_none : length f.digits ≡ 0 → has_whole s i ≡ false
  unfolding has_whole
  whole_none k = rw (whole_sign, whole_read) (le-ltb (i + length f.sign) (i + length w) (omega (arith, long)))

-- a fraction is nothing, or begins with a point
module _ (w : List ℕ) (f : Fraction w) where
  no_back : (f.point ≡ []) × (f.digits ≡ []) → w ≡ []
  no_back e = f.parts ∙ ap (λ (x : List ℕ). x ++ f.digits) e.0 ∙ e.1

  dot_back : f.point ≡ ascii "." → w ≡ 46 ∷ f.digits
  dot_back e = f.parts ∙ ap (λ (x : List ℕ). x ++ f.digits) e

module _ (s : List ℕ) (i : ℕ) (w y : List ℕ) (h : drop i s ≡ w ++ y) (f : Fraction w)
    (stops : is_digit (get_or y 0 0) ≡ false) (no_point : eqb (get_or y 0 0) 46 ≡ false) where
  unpointed : w ≡ [] → fraction_end s i ≡ i + length w
  unfolding fraction_end stands_at
  unpointed e = rw (here_get s i y (h ∙ ap (λ (x : List ℕ). x ++ y) e), no_point, and-false (ltb i (length s)), e) (omega arith)

  pointed : w ≡ 46 ∷ f.digits → fraction_end s i ≡ i + length w
  unfolding fraction_end
  pointed e =
      let g : drop i s ≡ 46 ∷ (f.digits ++ y) = h ∙ ap (λ (x : List ℕ). x ++ y) e in
      rw (here_stands s i 46 (f.digits ++ y) g, e)
      (here_run s (i + 1) f.digits y (here_next s i (46 ∷ []) (f.digits ++ y) g) is_digit f.all_digit stops ∙ omega arith)

  pub fraction_read : fraction_end s i ≡ i + length w
  fraction_read = ⊎_elim (λ e. unpointed (no_back w f e)) (λ e. pointed (dot_back w f e)) f.point_or_none

  pub fraction_some : 0 < length f.digits → has_fraction s i ≡ true
  unfolding has_fraction
  fraction_some k =
      ⊎_elim (λ e. absurd (omega (arith, k, ap length e.1)))
      (λ e. rw fraction_read (lt-ltb 1 (i + length w - i) (omega (arith, k, ap length (dot_back w f e))))) f.point_or_none

-- what begins behind a mantissa: an E, or what may follow an item
module _ (p : ℕ → Bool) (capital-e : p 69 ≡ false) (small-e : p 101 ≡ false) (y : List ℕ) (after : p (get_or y 0 0) ≡ false) where
  of_e : (b : ℕ) → begins_exponent b ≡ true → p b ≡ false
  unfolding begins_exponent
  of_e b e = ⊎_elim (λ k. rw (eqb-true b 69 k) capital-e) (λ k. rw (eqb-true b 101 k) small-e) (either (eqb b 69) (eqb b 101) e)

  pub power_none : (w : List ℕ) → (w ≡ []) ⊎ Exponent w → p (get_or (w ++ y) 0 0) ≡ false
  power_none w c = ⊎_elim (λ e. rw e after) (λ x. rw x.parts (of_e x.letter x.is_e)) c

  pub back_none : p 46 ≡ false → (b w : List ℕ) → Fraction b → (w ≡ []) ⊎ Exponent w → p (get_or (b ++ (w ++ y)) 0 0) ≡ false
  back_none q b w f c =
      ⊎_elim (λ e. ap (λ (x : List ℕ). p (get_or (x ++ (w ++ y)) 0 0)) (no_back b f e) ∙ power_none w c)
      (λ e. ap (λ (x : List ℕ). p (get_or (x ++ (w ++ y)) 0 0)) (dot_back b f e) ∙ q) f.point_or_none

module _ (y : List ℕ) (z : Stops y) where
  exponent_read : (s : List ℕ) (i : ℕ) (w : List ℕ) → drop i s ≡ w ++ y → (w ≡ []) ⊎ Exponent w → exponent s i ≡ Some (i + length w)
  unfolding exponent
  exponent_read s i w h c =
      ⊎_elim (λ (e : w ≡ []).
      let g : drop i s ≡ y = h ∙ ap (λ (x : List ℕ). x ++ y) e in
      let m : i ≡ i + length w = omega (arith, ap length e) in
      rw (here_get s i y g, z.no_exponent) (ap Some m)) (λ (x : Exponent w).
      let g : drop i s ≡ x.letter ∷ (x.power ++ y) = h ∙ ap (λ (z : List ℕ). z ++ y) x.parts in
      let n : drop (i + 1) s ≡ x.power ++ y = here_next s i (x.letter ∷ []) (x.power ++ y) g in
      let bare : length x.whole.digits ≡ 0 → is_sign (get_or y 0 0) ≡ false = λ k. absurd (omega (arith, k, x.some_digit)) in
      let m : i + 1 + length x.power ≡ i + length w = omega (arith, ap length x.parts) in
      rw (here_get s i (x.letter ∷ (x.power ++ y)) g, x.is_e, whole_some s (i + 1) x.power y n x.whole z.no_digit bare x.some_digit, whole_read s (i + 1) x.power y n x.whole z.no_digit bare)
      (ap Some m))
      c

-- a number, and what does not go on with it
module _ (s : List ℕ) (at : ℕ) (t y : List ℕ) (h : drop at s ≡ t ++ y) (n : Number t) (z : Stops y) where
  front : drop at s ≡ n.front ++ (n.back ++ (n.power ++ y))
  front =
      h ∙ ap (λ (x : List ℕ). x ++ y) n.parts ∙ append_assoc n.front (n.back ++ n.power) y
      ∙ ap (λ (x : List ℕ). n.front ++ x) (append_assoc n.back n.power y)

  back : drop (at + length n.front) s ≡ n.back ++ (n.power ++ y)
  back = here_next s at n.front (n.back ++ (n.power ++ y)) front

  power : drop (at + length n.front + length n.back) s ≡ n.power ++ y
  power = here_next s (at + length n.front) n.back (n.power ++ y) back

  stops : is_digit (get_or (n.back ++ (n.power ++ y)) 0 0) ≡ false
  unfolding is_digit
  stops = back_none is_digit refl refl y z.no_digit refl n.back n.power n.fraction n.exponent

  -- with no digit before the point, a point comes first
  bare : length n.whole.digits ≡ 0 → is_sign (get_or (n.back ++ (n.power ++ y)) 0 0) ≡ false
  unfolding is_sign
  bare k =
      ⊎_elim (λ e. absurd (omega (arith, k, n.some_digit, ap length e.1)))
      (λ e. ap (λ (x : List ℕ). is_sign (get_or (x ++ (n.power ++ y)) 0 0)) (dot_back n.back n.fraction e))
      n.fraction.point_or_none

  fraction_stops : is_digit (get_or (n.power ++ y) 0 0) ≡ false
  unfolding is_digit
  fraction_stops = power_none is_digit refl refl y z.no_digit n.power n.exponent

  fraction_dot : eqb (get_or (n.power ++ y) 0 0) 46 ≡ false
  fraction_dot = power_none (λ b. eqb b 46) refl refl y z.no_point n.power n.exponent

  some : (has_whole s at || has_fraction s (at + length n.front)) ≡ true
  some =
      ⊎_elim (λ k. rw (whole_some s at n.front (n.back ++ (n.power ++ y)) front n.whole stops bare k)) (λ k.
      rw (whole_none s at n.front (n.back ++ (n.power ++ y)) front n.whole stops bare (omega (arith, k)))
      (fraction_some s (at + length n.front) n.back (n.power ++ y) back n.fraction fraction_stops fraction_dot (omega (arith, k, n.some_digit))))
      (less_or_not 0 (length n.whole.digits))

  mantissa_read : mantissa s at ≡ Some (at + length n.front + length n.back)
  unfolding mantissa
  mantissa_read =
      rw (whole_read s at n.front (n.back ++ (n.power ++ y)) front n.whole stops bare, some, fraction_read s (at + length n.front) n.back (n.power ++ y) back n.fraction fraction_stops fraction_dot)

  long' : length t ≡ length n.front + (length n.back + length n.power)
  long' = ap length n.parts ∙ length-append n.front (n.back ++ n.power) ∙ ap (λ (k : ℕ). length n.front + k) (length-append n.back n.power)

  number_is : number s at ≡ Some (at + length t)
  unfolding number with_exponent
  number_is =
      rw mantissa_read
      (exponent_read y z s (at + length n.front + length n.back) n.power power n.exponent ∙ ap Some (omega (arith, long')))

  pub nrf_read : nrf s at ≡ token (DecimalNumericProgramData (view_of at (at + length t))) (at + length t)
  unfolding nrf number_to
  nrf_read = rw number_is

-- what may follow an item does not go on with a number
follow_stops : (y : List ℕ) → Follows y → Stops y
unfolding is_digit begins_exponent
follow_stops y f =
    record {
      no_digit = after_none is_digit (white_none is_digit refl refl refl refl refl) refl refl refl y f;
      no_point = after_none (λ b. eqb b 46) (white_none (λ b. eqb b 46) refl refl refl refl refl) refl refl refl y f;
      no_exponent = after_none begins_exponent (white_none begins_exponent refl refl refl refl refl) refl refl refl y f;
    }

module _ (s : List ℕ) (at : ℕ) (t y : List ℕ) (h : drop at s ≡ t ++ y) (n : Number t) (f : Follows y) where
  -- no suffix begins before the end, `,` or `;`
  no_suffix : begins_suffix s (at + length t + length f.white) ≡ false
  unfolding begins_suffix is_letter is_capital is_small
  no_suffix =
      rw (here_get s (at + length t + length f.white) f.rest (here_next s (at + length t) f.white f.rest (here_next s at t y h ∙ f.parts)), end_none (λ b. eqb b 47 || is_letter b) refl refl refl f.rest f.ends)
      (and-false (ltb (at + length t + length f.white) (length s)))

  pub number_read : numeric_data s at ≡ token (DecimalNumericProgramData (view_of at (at + length t))) (at + length t + length f.white)
  unfolding numeric_data numeric_to suffix_data
  number_read =
      let z = here_next s at t y h in
      rw (number_is s at t y h n (follow_stops y f), white_run (DecimalNumericProgramData (view_of at (at + length t))) InvalidSuffix s (at + length t) y z f, no_suffix)
      (well_followed (DecimalNumericProgramData (view_of at (at + length t))) InvalidSuffix s (at + length t) y z f)
