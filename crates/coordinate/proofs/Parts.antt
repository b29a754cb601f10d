-- A signed integer in a text, and the parts of a text that its `!` join.
use Rattle.std.specs.Prelude.{Result, Ok, Err, Option, Some, None}
use Prim.Native.Nat.{ℕ, zero, suc, ◌+◌, ◌-◌, ◌^◌, ◌≤◌, ◌<◌}
use mathlib.Core.Path.{◌≡◌, refl, sym, ap, ◌∙◌, fun_ext}
use mathlib.Core.List.{List, [], ◌∷◌, ◌++◌, append_assoc, append-nil}
use mathlib.Core.Bool.{Bool, true, false, cond, true≢false, and-false, not}
use mathlib.Core.Logic.{⊎_elim, ◌⊎◌, inl, inr}
use native.Mathlib.Omega.{arith}
use lib.Dec.{eqb, ltb, leb}
use lib.IntN.{ℤ, pos, neg_ℤ}
use lib.Signed.{mag}
use lib.ListN.{length, get_or, drop, take-append-drop, length-append, drop_of_length-le}
use lib.Seq.{drop-drop, take-append_seam, drop-cons}
use borrow.Author.Tests.{eq-eqb, ne_eqb, le-leb, leb-true, lt-ltb, ltb-true, eqb-true, not-true}
use Rattle.kind.specs.Class.{is_digit, is_sign}
use Rattle.kind.proofs.Tests.{and_left, less_or_not, and_right, either}
use Rattle.util.specs.Run.{run, run_end, sign_end, stands_at, every}
use Rattle.util.proofs.{Runs.run_again, Every.run_whole}
use Rattle.integer.specs.{Digit.is_digit_of, Digit.value_of, Number.signed_at}
use Rattle.integer.specs.Number.{digits, found_at, unsigned_of, unsigned_at, signed_of}
use Rattle.integer.proofs.Digits.{decimal}
use Rattle.decimal.specs.Decimal.{whole_end}
use Rattle.forms.specs.DecimalForm.{Whole}
use Rattle.coordinate.specs.Form.{signed_by, Decimal}
use Rattle.forms.proofs.{ItemAccepted.part, Decimals.whole_sign}
use Rattle.forms.proofs.DecimalClaims.{whole_form, whole_count}
use Rattle.forms.proofs.ItemProgress.{whole_from}
use Rattle.forms.proofs.Pairs.{ok_pair}
use Rattle.forms.proofs.ItemSeams.{none_first, here_get, here_inside, here_next}
use native.Mathlib.Numerals.{add-one}
use Rattle.util.proofs.Every.{every_join, every_weaker}
use Rattle.coordinate.specs.Coordinate.{onto, parts, whole, integer, both, integers, written}
use Rattle.integer.specs.declared.NumberError.{NumberError}

-- the value of a sign and a number, where it is one of 64 bits
abbrev worth : Bool → ℕ → Option ℤ
worth true n = cond (leb n (2 ^ 63)) (Some (neg_ℤ (pos n))) None
worth false n = cond (ltb n (2 ^ 63)) (Some (pos n)) None

abbrev bounded : Bool → ℕ → Option ℤ
bounded minus n = cond (ltb n (2 ^ 64)) (worth minus n) None

-- that value, with the place after it
abbrev as_signed : Option ℤ → ℕ → Result (ℤ × ℕ) NumberError
as_signed None end = Err NumberError.TooLarge
as_signed (Some v) end = Ok (v, end)

decimal_digits : is_digit_of 10 ≡ is_digit
decimal_digits = fun_ext decimal

mag_negative : (n : ℕ) → n ≤ 2 ^ 63 → mag (neg_ℤ (pos n)) < 2 ^ 63
mag_negative zero h = omega arith
mag_negative (suc n) h = omega (arith, h)

-- the value is one of 64 bits exactly where it is within their bounds
abbrev signed_with : Bool → ℕ → ℤ
signed_with minus n = cond minus (neg_ℤ (pos n)) (pos n)

bounds : (minus : Bool) (n : ℕ) → mag (signed_with minus n) < 2 ^ 63 → bounded minus n ≡ Some (signed_with minus n)
bounds true zero h = refl
bounds true (suc n) h =
    let k : suc n ≤ 2 ^ 63 = omega (arith, h) in
    let l : suc n < 2 ^ 64 = omega (arith, h) in
    rw (lt-ltb (suc n) (2 ^ 64) l, le-leb (suc n) (2 ^ 63) k)
bounds false n h = let l : n < 2 ^ 64 = omega (arith, h) in rw (lt-ltb n (2 ^ 64) l, lt-ltb n (2 ^ 63) h)

within : (minus : Bool) (n : ℕ) (v : ℤ) → bounded minus n ≡ Some v → (v ≡ signed_with minus n) × (mag v < 2 ^ 63)
within minus n v e = go minus (ltb n (2 ^ 64)) e
  where
    there : (w : ℤ) (c : Bool) → (c ≡ true → mag w < 2 ^ 63) → cond c (Some w) None ≡ Some v → (v ≡ w) × (mag v < 2 ^ 63)
    there w true f q = let e : v ≡ w = cc in (e, rw e (f refl))
    there w false f q = absurd (true≢false (cc))

    go : (m c : Bool) → cond c (worth m n) None ≡ Some v → (v ≡ signed_with m n) × (mag v < 2 ^ 63)
    go true true q = there (neg_ℤ (pos n)) (leb n (2 ^ 63)) (λ f. mag_negative n (leb-true n (2 ^ 63) f)) q
    go false true q = there (pos n) (ltb n (2 ^ 63)) (ltb-true n (2 ^ 63)) q
    go true false q = absurd (true≢false (cc))
    go false false q = absurd (true≢false (cc))

-- digits, one at least, with a sign before them
module _ (minus : Bool) (at : ℕ) (ds : List ℕ) (h : 0 < length ds) where
  some_digits : signed_of minus (unsigned_of 10 at ds) ≡ as_signed (bounded minus (value_of 10 ds)) (at + length ds)
  unfolding unsigned_of found_at signed_of
  some_digits =
      let e : eqb (at + length ds) at ≡ false = ne_eqb (at + length ds) at (λ q. omega (arith, h, q)) in
      rw e (go minus (ltb (value_of 10 ds) (2 ^ 64)))
    where
      n : ℕ
      n = value_of 10 ds

      end : ℕ
      end = at + length ds

      there : (w : ℤ) (d : Bool) → cond d (Ok (w, end)) (Err NumberError.TooLarge) ≡ as_signed (cond d (Some w) None) end
      there w true = refl
      there w false = refl

      go : (m c : Bool) → signed_of m (cond c (Ok (n, end)) (Err NumberError.TooLarge)) ≡ as_signed (cond c (worth m n) None) end
      go true true = there (neg_ℤ (pos n)) (leb n (2 ^ 63))
      go false true = there (pos n) (ltb n (2 ^ 63))
      go true false = refl
      go false false = refl

no_minus : (b : ℕ) → is_digit b ≡ true → eqb b 45 ≡ false
unfolding is_digit
no_minus b d = ne_eqb b 45 (λ e. omega (arith, leb-true 48 b (and_left (leb 48 b) (leb b 57) d), e))

-- the sign of an integer, from the text that it begins
sign_here : (s : List ℕ) (at : ℕ) (x y : List ℕ) → drop at s ≡ x ++ y → length x ≤ 1 → is_digit (get_or y 0 0) ≡ true → stands_at 45 s at ≡ stands_at 45 x 0
unfolding stands_at
sign_here s at [] y h k d = rw (here_get s at y h, no_minus (get_or y 0 0) d, and-false (ltb at (length s)))
sign_here s at (c ∷ []) y h k d = rw (lt-ltb at (length s) (here_inside s at c y h), here_get s at (c ∷ y) h)
sign_here s at (c ∷ e ∷ x) y h k d = absurd (omega (arith, k))

first_digit : (ds y : List ℕ) → 0 < length ds → every is_digit ds ≡ true → is_digit (get_or (ds ++ y) 0 0) ≡ true
unfolding every
first_digit [] y h a = absurd (omega (arith, h))
first_digit (d ∷ ds) y h a = and_left (is_digit d) (every is_digit ds) a

-- An integer that begins at a place, with no digit after it.
module _ (s : List ℕ) (at : ℕ) (w y : List ℕ) (h : drop at s ≡ w ++ y) (f : Whole w)
    (some_digit : 0 < length f.digits) (stops : is_digit (get_or y 0 0) ≡ false) where
  apart : drop at s ≡ f.sign ++ (f.digits ++ y)
  apart = h ∙ ap (λ (x : List ℕ). x ++ y) f.parts ∙ append_assoc f.sign f.digits y

  behind_sign : sign_end s at ≡ at + length f.sign
  behind_sign = whole_sign s at w y h f stops (λ z. absurd (omega (arith, some_digit, z)))

  all_digits : digits 10 (drop (sign_end s at) s) ≡ f.digits
  unfolding digits
  all_digits =
      let e : drop (sign_end s at) s ≡ f.digits ++ y = rw behind_sign (here_next s at f.sign (f.digits ++ y) apart) in
      rw (e, decimal_digits, run_whole is_digit f.digits y f.all_digit (none_first is_digit y stops)) (take-append_seam f.digits y)

  integer_read : signed_at s at ≡ as_signed (bounded (stands_at 45 f.sign 0) (value_of 10 f.digits)) (at + length w)
  unfolding signed_at unsigned_at
  integer_read =
      let k : at + length f.sign + length f.digits ≡ at + length w = omega (arith, ap length f.parts, length-append f.sign f.digits) in
      rw (sign_here s at f.sign (f.digits ++ y) apart f.one_sign (first_digit f.digits y some_digit f.all_digit), all_digits, behind_sign)
      (some_digits (stands_at 45 f.sign 0) (at + length f.sign) f.digits some_digit ∙ rw k)

-- An integer that was read at a place, and what the text is from there on.
pub record Read (s : List ℕ) (at : ℕ) (v : ℤ) (end : ℕ) : Type 0 where
  pub word : List ℕ
  pub rest : List ℕ
  pub parts : drop at s ≡ word ++ rest
  pub decimal : Decimal word v
  pub stops : is_digit (get_or rest 0 0) ≡ false
  pub behind : end ≡ at + length word

-- what was read is an integer in decimal, and the other way round
written_decimal : {t : List ℕ} {v : ℤ} (f : Whole t) → 0 < length f.digits → bounded (stands_at 45 f.sign 0) (value_of 10 f.digits) ≡ Some v → Decimal t v
unfolding signed_by
written_decimal {v = v} f h e =
    let k = within (stands_at 45 f.sign 0) (value_of 10 f.digits) v e in
    record { form = f; some_digit = h; value = k.0; fits = k.1 }

decimal_worth : {t : List ℕ} {v : ℤ} (d : Decimal t v) → bounded (stands_at 45 d.form.sign 0) (value_of 10 d.form.digits) ≡ Some v
unfolding signed_by
decimal_worth {v = v} d =
    bounds (stands_at 45 d.form.sign 0) (value_of 10 d.form.digits) (rw d.value at d.fits) ∙ ap Some (sym d.value)

-- it has a byte at least
pub some_byte : (t : List ℕ) (v : ℤ) → Decimal t v → 0 < length t
some_byte t v d = omega (arith, ap length d.form.parts, length-append d.form.sign d.form.digits, d.some_digit)

pub decimal_read : (s : List ℕ) (at : ℕ) (w y : List ℕ) → drop at s ≡ w ++ y → (v : ℤ) → Decimal w v → is_digit (get_or y 0 0) ≡ false → signed_at s at ≡ Ok (v, at + length w)
decimal_read s at w y h v d stops =
    integer_read s at w y h d.form d.some_digit stops ∙ ap (λ (o : Option ℤ). as_signed o (at + length w)) (decimal_worth d)

abbrev pub is_value : Result (ℤ × ℕ) NumberError → Bool
is_value (Ok (v, end)) = true
is_value (Err NumberError.NoDigit) = false
is_value (Err NumberError.TooLarge) = false

value_same : (o : Option ℤ) (i : ℕ) (v : ℤ) (end : ℕ) → as_signed o i ≡ Ok (v, end) → (o ≡ Some v) × (i ≡ end)
value_same None i v end e = absurd (true≢false (cc))
value_same (Some w) i v end e = let k = ok_pair e in (ap Some k.0, k.1)

none_there : (p : ℕ → Bool) → p 0 ≡ false → (t : List ℕ) → run p t ≡ 0 → p (get_or t 0 0) ≡ false
unfolding run
none_there p z [] e = z
none_there p z (b ∷ t) e = go (p b) e
  where
    go : (c : Bool) → cond c (suc (run p t)) 0 ≡ 0 → c ≡ false
    go true q = absurd (omega (arith, q))
    go false q = refl

run_none : (p : ℕ → Bool) (s : List ℕ) (i : ℕ) → run_end p s i ≡ i → run p (drop i s) ≡ 0
unfolding run_end
run_none p s i e = omega (arith, e)

module _ (s : List ℕ) (at : ℕ) where
  width : whole_end s at - sign_end s at ≡ 0 → run is_digit (drop (sign_end s at) s) ≡ 0
  unfolding whole_end run_end
  width k = omega (arith, k)

  no_digits : length (whole_form s at).digits ≡ 0 → signed_at s at ≡ Err NumberError.NoDigit
  unfolding signed_at unsigned_at unsigned_of found_at signed_of digits value_of
  no_digits e =
      let z : run is_digit (drop (sign_end s at) s) ≡ 0 = width (sym (whole_count s at) ∙ e) in
      rw (decimal_digits, z, eq-eqb (sign_end s at + 0) (sign_end s at) (omega arith))

  behind_whole : drop at s ≡ part s at (whole_end s at) ++ drop (whole_end s at) s
  behind_whole =
      let f : at + (whole_end s at - at) ≡ whole_end s at = omega (arith, whole_from s at) in
      sym (take-append-drop (whole_end s at - at) (drop at s)) ∙ ap (λ (x : List ℕ). part s at (whole_end s at) ++ x) (drop-drop (whole_end s at - at) at s ∙ rw f)

  whole_ends : run_end is_digit s (whole_end s at) ≡ whole_end s at
  unfolding whole_end
  whole_ends = run_again is_digit s (sign_end s at)

  stopped : is_digit (get_or (drop (whole_end s at) s) 0 0) ≡ false
  unfolding is_digit
  stopped = none_there is_digit refl (drop (whole_end s at) s) (run_none is_digit s (whole_end s at) whole_ends)

  pub integer_form : (v : ℤ) (end : ℕ) → signed_at s at ≡ Ok (v, end) → Read s at v end
  integer_form v end e = ⊎_elim found none_found (less_or_not 0 (length (whole_form s at).digits))
    where
      found : 0 < length (whole_form s at).digits → Read s at v end
      found h =
          let k = value_same _ _ v end (sym (integer_read s at (part s at (whole_end s at)) (drop (whole_end s at) s) behind_whole (whole_form s at) h stopped) ∙ e) in
          record {
            word = part s at (whole_end s at);
            rest = drop (whole_end s at) s;
            parts = behind_whole;
            decimal = written_decimal (whole_form s at) h k.0;
            stops = stopped;
            behind = sym k.1;
          }

      none_found : length (whole_form s at).digits ≤ 0 → Read s at v end
      none_found h = absurd (true≢false (cc (no_digits (omega arith))))

-- no `!` stands in an integer
abbrev pub plain : ℕ → Bool
plain b = not (eqb b 33)

digit_plain : (b : ℕ) → is_digit b ≡ true → plain b ≡ true
unfolding is_digit
digit_plain b d = rw (ne_eqb b 33 (λ e. omega (arith, leb-true 48 b (and_left (leb 48 b) (leb b 57) d), e)))

sign_plain : (b : ℕ) → is_sign b ≡ true → plain b ≡ true
unfolding is_sign
sign_plain b h = ⊎_elim (λ k. rw (eqb-true b 43 k)) (λ k. rw (eqb-true b 45 k)) (either (eqb b 43) (eqb b 45) h)

pub whole_plain : (w : List ℕ) → Whole w → every plain w ≡ true
whole_plain w f =
    rw f.parts (every_join plain f.sign f.digits (every_weaker is_sign plain sign_plain f.sign f.all_sign)
    (every_weaker is_digit plain digit_plain f.digits f.all_digit))

-- a text without `!` in front of another lengthens its first part
pub parts_before : (w u p : List ℕ) (ps : List (List ℕ)) → parts u ≡ p ∷ ps → every plain w ≡ true → parts (w ++ u) ≡ (w ++ p) ∷ ps
unfolding parts onto every
parts_before [] u p ps e a = e
parts_before (b ∷ w) u p ps e a =
    rw (not-true (eqb b 33) (and_left (plain b) (every plain w) a), parts_before w u p ps e (and_right (plain b) (every plain w) a))

-- The first part of a text, up to a `!` or the end.
pub record Front (t : List ℕ) : Type 0 where
  pub first : List ℕ
  pub others : List (List ℕ)
  pub back : List ℕ
  pub split : parts t ≡ first ∷ others
  pub joint : t ≡ first ++ back
  pub stops : is_digit (get_or back 0 0) ≡ false
  pub ends : ((others ≡ []) × (back ≡ [])) ⊎ ((u : List ℕ) × (back ≡ 33 ∷ u) × (parts u ≡ others))

pub front_of : (t : List ℕ) → Front t
unfolding parts onto is_digit
front_of [] = record { first = []; others = []; back = []; split = refl; joint = refl; stops = refl; ends = inl (refl, refl) }
front_of (b ∷ t) = go (eqb b 33) refl (front_of t)
  where
    go : (c : Bool) → eqb b 33 ≡ c → Front t → Front (b ∷ t)
    go true e f =
        record { first = []; others = parts t; back = b ∷ t; split = rw e; joint = refl; stops = rw (eqb-true b 33 e); ends = inr (t, ap (λ (x : ℕ). x ∷ t) (eqb-true b 33 e), refl) }
    go false e f =
        record {
          first = b ∷ f.first;
          others = f.others;
          back = f.back;
          split = rw (e, f.split);
          joint = ap (λ (x : List ℕ). b ∷ x) f.joint;
          stops = f.stops;
          ends = f.ends;
        }

-- a text is one integer exactly where it is one in decimal
pub integer_of : (t : List ℕ) (v : ℤ) → Decimal t v → integer t ≡ Some v
unfolding integer whole is_digit
integer_of t v d = rw (decimal_read t 0 t [] (sym (append-nil t)) v d refl, eq-eqb (0 + length t) (length t) (omega arith))

integer_behind : (w : List ℕ) (b : ℕ) (p : List ℕ) (v : ℤ) → Decimal w v → is_digit b ≡ false → integer (w ++ (b ∷ p)) ≡ None
unfolding integer whole
integer_behind w b p v d stops =
    let n : 0 + length w ≡ length (w ++ (b ∷ p)) → ⊥ = λ e. omega (arith, e, length-append w (b ∷ p)) in
    rw (decimal_read (w ++ (b ∷ p)) 0 w (b ∷ p) refl v d stops, ne_eqb (0 + length w) (length (w ++ (b ∷ p))) n)

empty : (l : List ℕ) → length l ≡ 0 → l ≡ []
empty [] e = refl
empty (b ∷ l) e = absurd (omega (arith, e))

all_of : (t : List ℕ) (v : ℤ) (r : Result (ℤ × ℕ) NumberError) → whole (length t) r ≡ Some v → r ≡ Ok (v, length t)
unfolding whole
all_of t v (Ok (w, end)) e = go (eqb end (length t)) refl e
  where
    go : (c : Bool) → eqb end (length t) ≡ c → cond c (Some w) None ≡ Some v → ◌≡◌ {A = Result (ℤ × ℕ) NumberError} (Ok (w, end)) (Ok (v, length t))
    go true f q =
        let k : w ≡ v = cc in
        rw (k, eqb-true end (length t) f)
    go false f q = absurd (true≢false (cc))
all_of t v (Err NumberError.NoDigit) e = absurd (true≢false (cc))
all_of t v (Err NumberError.TooLarge) e = absurd (true≢false (cc))

pub integer_is : (t : List ℕ) (v : ℤ) → integer t ≡ Some v → Decimal t v
unfolding integer
integer_is t v e =
    let r : Read t 0 v (length t) = integer_form t 0 v (length t) (all_of t v (signed_at t 0) e) in
    let l : length t ≡ length r.word + length r.rest = ap length r.parts ∙ length-append r.word r.rest in
    let z : r.rest ≡ [] = empty r.rest (omega (arith, l, r.behind)) in
    let w : t ≡ r.word = r.parts ∙ ap (λ (x : List ℕ). r.word ++ x) z ∙ append-nil r.word in
    rw w r.decimal

-- The coordinates of a text from a place on, by the integer that was read there.
module _ (s : List ℕ) (at : ℕ) (v : ℤ) (end : ℕ) (e : signed_at s at ≡ Ok (v, end)) where
  r : Read s at v end
  r = integer_form s at v end e

  abbrev w : List ℕ
  w = r.word

  clear : every plain w ≡ true
  clear = whole_plain w r.decimal.form

  behind : drop end s ≡ r.rest
  behind = ap (λ (i : ℕ). drop i s) r.behind ∙ here_next s at w r.rest r.parts

  pub then_last : length s ≤ end → written (drop at s) ≡ Some (v ∷ [])
  unfolding written integers both parts
  then_last h =
      let z : r.rest ≡ [] = sym behind ∙ drop_of_length-le s h in
      let q : drop at s ≡ w ++ [] = r.parts ∙ ap (λ (x : List ℕ). w ++ x) z in
      rw (q, parts_before w [] [] [] refl clear, append-nil w, integer_of w v r.decimal)

  module _ (h : end < length s) where
    next_byte : drop at s ≡ w ++ (get_or s end 0 ∷ drop (end + 1) s)
    next_byte = r.parts ∙ ap (λ (x : List ℕ). w ++ x) (sym behind ∙ drop-cons s end 0 h ∙ rw (add-one end))

    pub then_bang : get_or s end 0 ≡ 33 → written (drop at s) ≡ both (Some v) (written (drop (end + 1) s))
    unfolding written integers parts
    then_bang b =
        let q : drop at s ≡ w ++ (33 ∷ drop (end + 1) s) = rw b at next_byte in
        rw (q, parts_before w (33 ∷ drop (end + 1) s) [] (parts (drop (end + 1) s)) refl clear, append-nil w, integer_of w v r.decimal)

    pub then_other : (get_or s end 0 ≡ 33 → ⊥) → written (drop at s) ≡ None
    unfolding written integers both parts onto
    then_other n =
        let f : Front (drop (end + 1) s) = front_of (drop (end + 1) s) in
        let b : ℕ = get_or s end 0 in
        let p : parts (b ∷ drop (end + 1) s) ≡ (b ∷ f.first) ∷ f.others = rw (ne_eqb b 33 n, f.split) in
        rw (next_byte, parts_before w (b ∷ drop (end + 1) s) (b ∷ f.first) f.others p clear, integer_behind w b f.first v r.decimal digit_stops)
      where
        digit_stops : is_digit (get_or s end 0) ≡ false
        digit_stops = rw (sym behind ∙ drop-cons s end 0 h) at r.stops

-- where no integer begins there are no coordinates
pub then_none : (s : List ℕ) (at : ℕ) → is_value (signed_at s at) ≡ false → written (drop at s) ≡ None
unfolding written integers both
then_none s at e = rw f.split (go (integer f.first) refl)
  where
    f : Front (drop at s)
    f = front_of (drop at s)

    go : (o : Option ℤ) → integer f.first ≡ o → both o (integers f.others) ≡ None
    go None q = refl
    go (Some v) q = absurd (true≢false (sym (ap is_value (decimal_read s at f.first f.back f.joint v (integer_is f.first v q) f.stops)) ∙ e))
