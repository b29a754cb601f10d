-- The claims.
use Rattle.std.specs.Prelude.{Result, Ok, Err, Option, Some, None}
use Prim.Native.Nat.{ℕ, zero, suc, ◌+◌, ◌/◌, ◌%◌, ◌^◌, ◌≤◌, ◌<◌}
use mathlib.Core.Path.{◌≡◌, refl, sym, ap, ◌∙◌}
use mathlib.Core.List.{List, [], ◌∷◌, ◌++◌, append-nil}
use mathlib.Core.Logic.{⊎_elim}
use mathlib.Core.Bool.{true, false, ◌&&◌, true≢false, and-false}
use native.Mathlib.Omega.{arith}
use native.Mathlib.Nat.{mod-lt, div-add-mod'}
use lib.Dec.{eqb, leb, ltb, lit<}
use lib.IntN.{ℤ, pos, negsuc}
use lib.Signed.{mag}
use lib.ListN.{length, get_or, drop, drop_of_length-le, length-append, length-drop}
use borrow.Author.Tests.{le-leb, lt-leb, not-true}
use Rattle.kind.specs.Class.{is_digit, is_sign}
use Rattle.kind.proofs.Tests.{and_left, and_both, by_test, less_or_not}
use Rattle.util.specs.{Run.stands_at, Run.every, Walk.after}
use Rattle.util.proofs.{Walks.arrives, Every.every_join}
use Rattle.integer.specs.{Digit.digit_of, Digit.value_of, Number.signed_at}
use Rattle.forms.proofs.IntegerClaims as number
use Rattle.forms.proofs.Pairs.{ok_pair}
use Rattle.forms.proofs.ItemSeams.{here_inside, here_stands, here_next}
use Rattle.channel_spec.specs.Spec.{bang, bangs, dimension_of}
use Rattle.channel_spec.specs.Item.{refusal, bang_end, item_step, item_of, item_at}
use Rattle.coordinate.specs.Coordinate.{parts, integer, both, integers, written, coordinate_of, pair_of, triple_of}
use Rattle.coordinate.specs.Form.{signed_by, Decimal, Coordinates, Walk}
use Rattle.coordinate.specs.{Form.Coordinates.one, Form.Coordinates.more, Form.Walk.ends, Form.Walk.gives}
use Rattle.coordinate.proofs.Parts.{Read, some_byte, decimal_read, integer_form, Front, front_of, plain, whole_plain, parts_before, integer_of, integer_is}
use Rattle.channel_spec.proofs.Specs.{end'}
use Rattle.coordinate.proofs.Coordinates.{bangs_joined, bangs_plain, one'}
use Rattle.channel_spec.specs.declared.Item.TheVariants as item
use Rattle.channel_spec.specs.declared.Step.{Step}
use Rattle.lists.specs.CoordinateClaims.{Claims}
use Rattle.integer.specs.declared.NumberError.{NumberError}

-- Every number has its digits: those of its tenth, and the last.
record Digits (n : ℕ) : Type 0 where
  pub row : List ℕ
  pub some_digit : 0 < length row
  pub all_digit : every is_digit row ≡ true
  pub value : value_of 10 row ≡ n

digit : (d : ℕ) → d < 10 → (is_digit (48 + d) ≡ true) × (digit_of (48 + d) ≡ d)
unfolding digit_of is_digit
digit d h =
    let e : (leb 48 (48 + d) && leb (48 + d) 57) ≡ true = and_both (le-leb 48 (48 + d) (omega arith)) (le-leb (48 + d) 57 (omega (arith, h))) in
    (e, rw e (omega arith))

digits_of : (most n : ℕ) → n < most → Digits n
unfolding value_of every
digits_of zero n h = absurd (omega (arith, h))
digits_of (suc most) n h = ⊎_elim small (λ k. large (digits_of most (n / 10) (omega (arith, h, k)))) (less_or_not n 10)
  where
    small : n < 10 → Digits n
    small k =
        record { row = (48 + n) ∷ []; some_digit = omega arith; all_digit = rw (digit n k).0; value = rw (digit n k).1 (omega arith) }

    large : Digits (n / 10) → Digits n
    large f =
        let l : n % 10 < 10 = mod-lt n (lit< tt) in
        record {
          row = f.row ++ ((48 + n % 10) ∷ []);
          some_digit = omega (arith, f.some_digit, length-append f.row ((48 + n % 10) ∷ []));
          all_digit = every_join is_digit f.row ((48 + n % 10) ∷ []) f.all_digit (rw (digit (n % 10) l).0);
          value = (number.claims).one_more 10 f.row (48 + n % 10) ∙ rw (f.value, (digit (n % 10) l).1) (div-add-mod' n 10);
        }

-- the digits of a number, and a minus before them where it is below zero
written_with : (sign : List ℕ) → length sign ≤ 1 → every is_sign sign ≡ true → (n : ℕ) (v : ℤ) → v ≡ signed_by sign n → mag v < 2 ^ 63 → (t : List ℕ) × Decimal t v
written_with sign k a n v e h =
    let d : Digits n = digits_of (suc n) n (omega arith) in (
      sign ++ d.row,
      record {
        form = record { sign = sign; digits = d.row; parts = refl; one_sign = k; all_sign = a; all_digit = d.all_digit };
        some_digit = d.some_digit;
        value = e ∙ ap (signed_by sign) (sym d.value);
        fits = h;
      },
    )

writable : (v : ℤ) → mag v < 2 ^ 63 → (t : List ℕ) × Decimal t v
unfolding signed_by stands_at every is_sign
writable (pos n) h = written_with [] (omega arith) refl n (pos n) refl h
writable (negsuc n) h = written_with (45 ∷ []) (omega arith) refl (suc n) (negsuc n) refl h

-- Coordinates, one after the other.
coordinates_read : (t : List ℕ) (vs : List ℤ) → Coordinates t vs → written t ≡ Some vs
unfolding written integers both parts
coordinates_read t vs (one w v d) =
    let p : parts w ≡ w ∷ [] = ap parts (sym (append-nil w)) ∙ parts_before w [] [] [] refl (whole_plain w d.form) ∙ ap (λ (x : List ℕ). x ∷ []) (append-nil w) in
    rw (p, integer_of w v d)
coordinates_read t vs (more w u v ws d c) =
    rw (parts_before w (33 ∷ u) [] (parts u) refl (whole_plain w d.form), append-nil w, integer_of w v d, coordinates_read u ws c)

-- where there are values, there is a first and there are others
values_apart : (o : Option ℤ) (m : Option (List ℤ)) (vs : List ℤ) → both o m ≡ Some vs → (v : ℤ) × (ws : List ℤ) × (o ≡ Some v) × (m ≡ Some ws) × (vs ≡ v ∷ ws)
unfolding both
values_apart None m vs e = absurd (true≢false (cc))
values_apart (Some v) None vs e = absurd (true≢false (cc))
values_apart (Some v) (Some ws) vs e = (v, ws, refl, refl, cc)

read_coordinates : (ps : List (List ℕ)) (t : List ℕ) (vs : List ℤ) → parts t ≡ ps → integers ps ≡ Some vs → Coordinates t vs
unfolding integers
read_coordinates [] t vs e q = absurd (omega (arith, ap length (sym (front_of t).split ∙ e)))
read_coordinates (p ∷ ps) t vs e q = go (values_apart (integer p) (integers ps) vs q) (read_coordinates ps)
  where
    f : Front t
    f = front_of t

    same : f.first ∷ f.others ≡ p ∷ ps
    same = sym f.split ∙ e

    whole_text : t ≡ p ++ f.back
    whole_text = cc (f.joint, same)

    go : (v : ℤ) × (ws : List ℤ) × (integer p ≡ Some v) × (integers ps ≡ Some ws) × (vs ≡ v ∷ ws)
        → ((u : List ℕ) (ws : List ℤ) → parts u ≡ ps → integers ps ≡ Some ws → Coordinates u ws) → Coordinates t vs
    go (v, ws, ei, em, ev) rest =
        ⊎_elim (λ (k : (f.others ≡ []) × (f.back ≡ [])).
        let n : ps ≡ [] = cc same in
        let z : ws ≡ [] = cc (rw n at em) in
        let w : t ≡ p = cc (whole_text, append-nil p) in
        rw (w, ev, z) (one p v (integer_is p v ei))) (λ (k : (u : List ℕ) × (f.back ≡ 33 ∷ u) × (parts u ≡ f.others)).
        let w : t ≡ p ++ (33 ∷ k.0) = cc whole_text in
        rw (w, ev) (more p k.0 v ws (integer_is p v ei) (rest k.0 ws (cc same) em))) f.ends

-- Two and three of them.
two : (m : Option (List ℤ)) (a b : ℤ) → pair_of m ≡ Ok (a, b) → m ≡ Some (a ∷ b ∷ [])
unfolding pair_of
two (Some (x ∷ y ∷ [])) a b q = let k = ok_pair q in rw (k.0, k.1)
two (Some (x ∷ y ∷ z ∷ vs)) a b q = cc
two (Some (x ∷ [])) a b q = cc
two (Some []) a b q = cc
two None a b q = cc

three : (m : Option (List ℤ)) (a b c : ℤ) → triple_of m ≡ Ok (a, b, c) → m ≡ Some (a ∷ b ∷ c ∷ [])
unfolding triple_of
three (Some (x ∷ y ∷ z ∷ [])) a b c q =
    let e : ◌≡◌ {A = ℤ × ℤ × ℤ} (x, y, z) (a, b, c) = cc in
    rw (ap (λ (p : ℤ × ℤ × ℤ). p.0) e, ap (λ (p : ℤ × ℤ × ℤ). p.1) e, ap (λ (p : ℤ × ℤ × ℤ). p.2) e)
three (Some (x ∷ y ∷ z ∷ w ∷ vs)) a b c q = cc
three (Some (x ∷ y ∷ [])) a b c q = cc
three (Some (x ∷ [])) a b c q = cc
three (Some []) a b c q = cc
three None a b c q = cc

one_read : (t : List ℕ) (a : ℤ) → Decimal t a → coordinate_of t ≡ Ok a
unfolding bangs is_digit
one_read t a d =
    let k : length t ≤ 0 + length t = omega arith in
    let z : ltb 0 (bangs (drop (0 + length t) t)) ≡ false = rw (drop_of_length-le t k) in
    sym (one' t (signed_at t 0) refl a (0 + length t) (decimal_read t 0 t [] (sym (append-nil t)) a d refl) false (sym z) refl)

dimension : (t : List ℕ) (vs : List ℤ) → Coordinates t vs → dimension_of t ≡ length vs
unfolding dimension_of bangs bang
dimension t vs (one w v d) = rw (bangs_plain w (whole_plain w d.form))
dimension t vs (more w u v ws d c) =
    rw (bangs_joined w (33 ∷ u), bangs_plain w (whole_plain w d.form)) (omega (arith, dimension u ws c))

-- The walk.
module _ (s : List ℕ) (at : ℕ) where
  rests : length s ≤ at → item_at s at ≡ record { item = item.End; place = at }
  rests h = sym (end' s at h)

  item_moves : (i : ℕ) → at ≤ i → at < length s → (r : Result (ℤ × ℕ) NumberError) → signed_at s i ≡ r → at < (item_step s r).place
  unfolding item_step refusal
  item_moves i k h (Ok (v, end)) e =
      let r : Read s i v end = integer_form s i v end e in
      omega (arith, k, r.behind, some_byte r.word v r.decimal)
  item_moves i k h (Err NumberError.NoDigit) e = h
  item_moves i k h (Err NumberError.TooLarge) e = h

  bang_from : at ≤ bang_end s at
  unfolding bang_end
  bang_from = by_test (λ (i : ℕ). at ≤ i) (stands_at 33 s at) (λ _. omega arith) (λ _. omega arith)

  moves : at < length s → at < (item_at s at).place
  unfolding item_at item_of
  moves h = rw (lt-leb (length s) at h) (item_moves (bang_end s at) bang_from h (signed_at s (bang_end s at)) refl)

-- an integer in decimal begins with no `!`
no_bang : (w y : List ℕ) → 0 < length w → every plain w ≡ true → stands_at 33 (w ++ y) 0 ≡ false
unfolding stands_at every
no_bang [] y h a = absurd (omega (arith, h))
no_bang (b ∷ w) y h a = rw (not-true (eqb b 33) (and_left (plain b) (every plain w) a)) (and-false (ltb 0 (suc (length (w ++ y)))))

-- a step over an integer, which begins at the place or behind a `!` there
item_read : (s : List ℕ) (at i : ℕ) (w y : List ℕ) (v : ℤ) → at < length s → bang_end s at ≡ i → drop i s ≡ w ++ y → Decimal w v → is_digit (get_or y 0 0) ≡ false
    → item_at s at ≡ record { item = item.Value v; place = i + length w }
unfolding item_at item_of item_step
item_read s at i w y v h b e d z = rw (lt-leb (length s) at h, b, decimal_read s i w y e v d z)

walk_from : (s : List ℕ) (at i : ℕ) (t : List ℕ) (vs : List ℤ) → at < length s → bang_end s at ≡ i → drop i s ≡ t → Coordinates t vs → Walk s at vs
unfolding is_digit bang_end
walk_from s at i t vs h b e (one w v d) =
    let q : item_at s at ≡ record { item = item.Value v; place = i + length w } = item_read s at i w [] v h b (e ∙ sym (append-nil w)) d refl in
    let k : length s ≤ i + length w = omega (arith, ap length e, length-drop i s) in
    gives at v [] (ap (λ (x : Step). x.item) q) (rw q (ends (i + length w) (ap (λ (x : Step). x.item) (rests s (i + length w) k))))
walk_from s at i t vs h b e (more w u v ws d c) =
    let q : item_at s at ≡ record { item = item.Value v; place = i + length w } = item_read s at i w (33 ∷ u) v h b e d refl in
    let n : drop (i + length w) s ≡ 33 ∷ u = here_next s i w (33 ∷ u) e in
    let k : bang_end s (i + length w) ≡ i + length w + 1 = rw (here_stands s (i + length w) 33 u n) in
    gives at v ws (ap (λ (x : Step). x.item) q)
    (rw q (walk_from s (i + length w) (i + length w + 1) u ws (here_inside s (i + length w) 33 u n) k (here_next s (i + length w) (33 ∷ []) u n) c))

begins : (t : List ℕ) (vs : List ℤ) → Coordinates t vs → (0 < length t) × (stands_at 33 t 0 ≡ false)
begins t vs (one w v d) =
    let h : 0 < length w = some_byte w v d in
    (h, ap (λ (x : List ℕ). stands_at 33 x 0) (sym (append-nil w)) ∙ no_bang w [] h (whole_plain w d.form))
begins t vs (more w u v ws d c) =
    let h : 0 < length w = some_byte w v d in
    (omega (arith, h, length-append w (33 ∷ u)), no_bang w (33 ∷ u) h (whole_plain w d.form))

pub claims : Claims
unfolding written pair_of triple_of bang_end
claims =
    record {
      writable = writable;
      pair_read = λ t a b c. ap pair_of (coordinates_read t (a ∷ b ∷ []) c);
      pair_written = λ t a b q. read_coordinates (parts t) t (a ∷ b ∷ []) refl (two (written t) a b q);
      triple_read = λ t a b c k. ap triple_of (coordinates_read t (a ∷ b ∷ c ∷ []) k);
      triple_written = λ t a b c q. read_coordinates (parts t) t (a ∷ b ∷ c ∷ []) refl (three (written t) a b c q);
      one_read = one_read;
      dimension = dimension;
      walk = λ t vs c. walk_from t 0 0 t vs (begins t vs c).0 (rw (begins t vs c).1) refl c;
      moves = moves;
      rests = rests;
      at_most =
          λ s at.
          rw (rests s (after (λ (i : ℕ). (item_at s i).place) (length s) at)
          (arrives (λ (i : ℕ). i) (λ (i : ℕ). (item_at s i).place) (length s) (moves s) (λ i h. rw (rests s i h) h) (length s) at (omega arith)));
    }
