-- What a match means for a table name: the word spells it.
use Prim.Native.Nat.{ℕ, suc, ◌+◌, ◌-◌, ◌≤◌, ◌<◌}
use mathlib.Core.Path.{◌≡◌, refl, sym, ap, ◌∙◌}
use mathlib.Core.Logic.{◌⊎◌, inl, inr, ⊎_elim}
use mathlib.Core.List.{List, [], ◌∷◌, ◌++◌, append_assoc, append-nil}
use mathlib.Core.Bool.{true, ◌&&◌, ◌||◌}
use native.Mathlib.Omega.{arith}
use lib.ListN.{length, take, drop, length-append, length-take, length-drop}
use lib.Seq.{take_all, take-length, drop-length, take-append_seam, drop-append_seam, drop-append-le, take-append-add, drop-append-add}
use Rattle.kind.specs.Class.{is_capital, is_small, is_digit}
use Rattle.kind.proofs.Tests.{both_ways, either, or_left, or_right, and_left, and_right, and_both, clash, less_or_not}
use Rattle.kind.proofs.Classes.{capital_no_digit}
use Rattle.util.specs.Run.{run, every}
use Rattle.mnemonic.specs.Mnemonic.{pairs, either_case, alike, not_small, may_leave_out, compares, numeric_suffix_start, stem, numeric_suffix, same_numeric_suffix, matches}
use Rattle.mnemonic.specs.Spelling.{Name, long, short, spells}
use Rattle.names.specs.MnemonicClaims.{Forms}
use Rattle.mnemonic.proofs.Bytes.{small_left_out, capital_needed, digit_needed, capital_not_small, small_is_small}
use Rattle.util.proofs.Every.{every_join, every_second, every_weaker, run_whole, every_drop, no_both}
use Rattle.mnemonic.proofs.Pairs as Pairs
use Rattle.names.proofs.Alike.{Ends, alike_start, alike_equal, alike_take, alike_drop, suffix_itself, start_behind, ends_behind}

-- the comparison taken apart

record Short (m v : List ℕ) : Type 0 where
  fits : alike (take (length v) m) v ≡ true
  plain : every not_small (take (length v) m) ≡ true
  left : every may_leave_out (drop (length v) m) ≡ true

compared : (m v : List ℕ) → compares m v ≡ true → (alike m v ≡ true) ⊎ Short m v
unfolding compares
compared m v h =
    ⊎_elim inl
    (λ k.
    let po = and_right (alike (take (length v) m) v) _ k in
    inr (record { fits = and_left (alike (take (length v) m) v) _ k; plain = and_left (every not_small (take (length v) m)) _ po; left = and_right (every not_small (take (length v) m)) _ po }))
    (either (alike m v) _ h)

by_long : (m v : List ℕ) → alike m v ≡ true → compares m v ≡ true
unfolding compares
by_long m v h = or_left {a = alike m v} _ h

by_short : (m v : List ℕ) → Short m v → compares m v ≡ true
unfolding compares
by_short m v h = or_right (alike m v) (and_both h.fits (and_both h.plain h.left))

-- a name's letters: capitals that end in k, and small letters

module _ (c : List ℕ) (k : ℕ) (l : List ℕ) (plain : every not_small c ≡ true) (cap : is_capital k ≡ true) (smalls : every is_small l ≡ true) where
  caps : List ℕ
  caps = c ++ (k ∷ [])

  caps_plain : every not_small caps ≡ true
  unfolding caps every
  caps_plain = every_join not_small c (k ∷ []) plain (and_both (capital_not_small k cap) refl)

  caps_end : Ends caps
  unfolding caps
  caps_end = record { front = c; last = k; whole = refl; plain = capital_no_digit k cap }

  -- a word alike the capitals is a short form
  caps_short : (v : List ℕ) → alike caps v ≡ true → Short (caps ++ l) v
  caps_short v h =
      let size : length v ≡ length caps = sym (Pairs.long either_case caps v h) in
      record {
        fits = rw (size, take-append_seam caps l) h;
        plain = rw (size, take-append_seam caps l) caps_plain;
        left = rw (size, drop-append_seam caps l) (every_weaker is_small may_leave_out small_left_out l smalls);
      }

  -- a short form has all capitals, since none may be left out
  not_before : (v : List ℕ) → Short (caps ++ l) v → length v < length caps → ⊥
  unfolding caps every
  not_before v s h =
      let le : length v ≤ length c = omega (arith, simp length-append at h) in
      let e : drop (length v) (caps ++ l) ≡ drop (length v) c ++ (k ∷ l) = rw append_assoc (drop-append-le (length v) c (k ∷ l) le) in
      let o = every_second may_leave_out (drop (length v) c) (k ∷ l) (rw e at s.left) in
      clash (and_left (may_leave_out k) (every may_leave_out l) o) (capital_needed k cap)

  -- and no small letter
  not_behind : (v : List ℕ) → Short (caps ++ l) v → length caps < length v → ⊥
  unfolding every
  not_behind v s h = go l (length v - suc (length caps)) (omega arith) smalls s
    where
      go : (l : List ℕ) (j : ℕ) → length v ≡ length caps + suc j → every is_small l ≡ true → Short (caps ++ l) v → ⊥
      go [] j size m s = omega (arith, simp (length-take, length-append) at (Pairs.long either_case (take (length v) (caps ++ [])) v s.fits))
      go (b ∷ l) j size m s =
          let t : take (length v) (caps ++ (b ∷ l)) ≡ caps ++ (b ∷ take j l) = rw size (take-append-add caps (b ∷ l) (suc j)) in
          let o = every_second not_small caps (b ∷ take j l) (rw t at s.plain) in
          clash (and_left (not_small b) (every not_small (take j l)) o) (small_is_small b (and_left (is_small b) (every is_small l) m))

  short_caps : (v : List ℕ) → Short (caps ++ l) v → alike caps v ≡ true
  short_caps v s = go (less_or_not (length v) (length caps)) (less_or_not (length caps) (length v))
    where
      go : (length v < length caps) ⊎ (length caps ≤ length v) → (length caps < length v) ⊎ (length v ≤ length caps) → alike caps v ≡ true
      go (inl h) y = absurd (not_before v s h)
      go (inr h) (inl g) = absurd (not_behind v s g)
      go (inr h) (inr g) = let size : length v ≡ length caps = omega arith in rw (size, take-append_seam caps l) at s.fits

  -- so the forms of the letters are all of them and the capitals
  forms : (v : List ℕ) → compares (caps ++ l) v ≡ true → (alike (caps ++ l) v ≡ true) ⊎ (alike caps v ≡ true)
  forms v h = ⊎_elim inl (λ s. inr (short_caps v s)) (compared (caps ++ l) v h)

  letters_end : Ends (caps ++ l)
  letters_end = ends_behind caps l caps_end smalls

  -- what stands before the small letters
  run_caps : run not_small (caps ++ l) ≡ length caps
  unfolding run every
  run_caps = run_whole not_small caps l caps_plain (none l smalls)
    where
      none : (l : List ℕ) → every is_small l ≡ true → run not_small l ≡ 0
      none [] m = refl
      none (b ∷ l) m = rw (small_is_small b (and_left (is_small b) (every is_small l) m))

  module _ (d : List ℕ) (digits : every is_digit d ≡ true) (w : List ℕ) where
    letters : List ℕ
    letters = caps ++ l

    start : numeric_suffix_start (letters ++ d) ≡ length letters
    unfolding letters
    start = start_behind (caps ++ l) d letters_end digits

    stem_is : stem (letters ++ d) ≡ letters
    stem_is = rw start (take-append_seam letters d)

    suffix_is : numeric_suffix (letters ++ d) ≡ d
    suffix_is = rw start (drop-append_seam letters d)

    caps_are : take (run not_small letters) letters ≡ caps
    unfolding letters
    caps_are = rw run_caps (take-append_seam caps l)

    -- the word's stem is one of the two forms, and its numeric_suffix the same
    Spelt : Type 0
    Spelt = ((alike letters (stem w) ≡ true) ⊎ (alike caps (stem w) ≡ true)) × (same_numeric_suffix d (numeric_suffix w) ≡ true)

    spells_spelt : spells (letters ++ d) w ≡ true → Spelt
    unfolding Spelt spells
    spells_spelt h =
        let z = rw (stem_is, suffix_is, caps_are) at h in
        (either (alike letters (stem w)) _ (and_left _ (same_numeric_suffix d (numeric_suffix w)) z), and_right (alike letters (stem w) || alike caps (stem w)) _ z)

    spelt_spells : Spelt → spells (letters ++ d) w ≡ true
    unfolding Spelt spells
    spelt_spells h =
        rw (stem_is, suffix_is, caps_are)
        (and_both (⊎_elim (λ a. or_left {a = alike letters (stem w)} _ a) (λ a. or_right (alike letters (stem w)) a) h.0) h.1)

    spelt_matches : Spelt → matches (letters ++ d) w ≡ true
    unfolding Spelt matches letters
    spelt_matches h =
        rw (stem_is, suffix_is)
        (or_right (compares (letters ++ d) w)
        (and_both (⊎_elim (by_long letters (stem w)) (λ a. by_short letters (stem w) (caps_short (stem w) a)) h.0) h.1))

    -- a word alike the whole name
    whole_spelt : alike (letters ++ d) w ≡ true → Spelt
    unfolding Spelt
    whole_spelt e =
        let at : numeric_suffix_start w ≡ length letters = sym (alike_start (letters ++ d) w e) ∙ start in
        let a = alike_take (length letters) (letters ++ d) w e in
        let b = alike_drop (length letters) (letters ++ d) w e in (
          inl (rw at (rw (take-append_seam letters d) at a)),
          suffix_itself d (numeric_suffix w) (rw at (alike_equal d (drop (length letters) w) (rw (drop-append_seam letters d) at b) digits)),
        )

    -- a word alike the capitals of a name without suffix
    caps_spelt : d ≡ [] → alike caps w ≡ true → Spelt
    unfolding Spelt same_numeric_suffix pairs every
    caps_spelt none e =
        let from : numeric_suffix_start caps ≡ length caps = rw append-nil at (start_behind caps [] caps_end refl) in
        let at : numeric_suffix_start w ≡ length w = sym (alike_start caps w e) ∙ from ∙ Pairs.long either_case caps w e in
        (inr (rw (at, take-length w) e), rw (at, drop-length w, none))

    not_inside : Short (letters ++ d) w → length letters < length w → length w < length (letters ++ d) → ⊥
    not_inside s g h = go (length w - length letters) (omega arith)
      where
        go : (j : ℕ) → length w ≡ length letters + j → ⊥
        go j size =
            let o : every may_leave_out (drop j d) ≡ true = rw (size, drop-append-add letters d j) at s.left in
            let none = no_both is_digit may_leave_out digit_needed (drop j d) (every_drop is_digit j d digits) o in
            omega (arith, simp length-drop at (ap length none), simp length-append at h)

    -- a short form of the whole name: nothing of its suffix may be left out
    short_spelt : Short (letters ++ d) w → Spelt
    unfolding letters
    short_spelt s = go (less_or_not (length w) (length (letters ++ d))) (less_or_not (length letters) (length w))
      where
        go : (length w < length (letters ++ d)) ⊎ (length (letters ++ d) ≤ length w) → (length letters < length w) ⊎ (length w ≤ length letters) → Spelt
        go (inr h) y = whole_spelt (rw (take_all (length w) (letters ++ d) h) at s.fits)
        go (inl h) (inl g) = absurd (not_inside s g h)
        go (inl h) (inr g) =
            let o = every_second may_leave_out (drop (length w) letters) d (rw (drop-append-le (length w) letters d g) at s.left) in
            let none = no_both is_digit may_leave_out digit_needed d digits o in
            caps_spelt none (short_caps w (rw (none, append-nil) at s))

    matches_spelt : matches (letters ++ d) w ≡ true → Spelt
    unfolding Spelt matches letters
    matches_spelt h = ⊎_elim at_once parted (either (compares (letters ++ d) w) _ h)
      where
        at_once : compares (letters ++ d) w ≡ true → Spelt
        at_once e = ⊎_elim whole_spelt short_spelt (compared (letters ++ d) w e)

        parted : (compares (stem (letters ++ d)) (stem w) && same_numeric_suffix (numeric_suffix (letters ++ d)) (numeric_suffix w)) ≡ true → Spelt
        parted e =
            let z = rw (stem_is, suffix_is) at e in
            (forms (stem w) (and_left (compares letters (stem w)) _ z), and_right (compares letters (stem w)) _ z)

    agree : matches (letters ++ d) w ≡ spells (letters ++ d) w
    agree =
        both_ways (matches (letters ++ d) w) (spells (letters ++ d) w) (λ h. spelt_spells (matches_spelt h)) (λ h. spelt_matches (spells_spelt h))

-- the capitals of a name end in one of them

snoc : (x : List ℕ) → (x ≡ [] → ⊥) → every is_capital x ≡ true → (y : List ℕ) × (k : ℕ) × (x ≡ y ++ (k ∷ [])) × (is_capital k ≡ true) × (every is_capital y ≡ true)
unfolding every
snoc [] h e = absurd (h refl)
snoc (b ∷ []) h e = ([], b, refl, and_left (is_capital b) true e, refl)
snoc (b ∷ c ∷ x) h e =
    let z = snoc (c ∷ x) (λ q. omega (arith, ap length q)) (and_right (is_capital b) _ e) in
    (b ∷ z.0, z.1, ap (λ (t : List ℕ). b ∷ t) z.2, z.3, and_both (and_left (is_capital b) _ e) z.4)

star_plain : {x : List ℕ} → (x ≡ []) ⊎ (x ≡ 42 ∷ []) → every not_small x ≡ true
unfolding every not_small is_small
star_plain (inl e) = rw e
star_plain (inr e) = rw e

-- The letters of a name and its number, as the section above has them.
module _ (n : List ℕ) (name : Name n) where
  ending : (y : List ℕ) × (k : ℕ) × (name.capitals ≡ y ++ (k ∷ [])) × (is_capital k ≡ true) × (every is_capital y ≡ true)
  ending = snoc name.capitals name.some_capital name.all_capital

  before : List ℕ
  before = name.star ++ ending.0

  before_plain : every not_small before ≡ true
  unfolding before
  before_plain =
      every_join not_small name.star ending.0 (star_plain name.star_or_none)
      (every_weaker is_capital not_small capital_not_small ending.0 ending.4)

  capitals_are : before ++ (ending.1 ∷ []) ≡ name.star ++ name.capitals
  unfolding before
  capitals_are = append_assoc name.star ending.0 (ending.1 ∷ []) ∙ ap (λ (t : List ℕ). name.star ++ t) (sym ending.2)

  whole : n ≡ ((before ++ (ending.1 ∷ [])) ++ name.smalls) ++ name.digits
  whole = rw capitals_are (name.parts ∙ simp append_assoc)

  pub match_spells : (w : List ℕ) → matches n w ≡ spells n w
  unfolding letters caps
  match_spells w =
      rw whole (agree before ending.1 name.smalls before_plain ending.3 name.all_small name.digits name.all_digit w)

  abbrev upper : List ℕ
  upper = caps before ending.1 name.smalls before_plain ending.3 name.all_small

  -- a text compares with what stands before the numeric suffix where it is one of the two forms
  pub form_compares : (v : List ℕ) → compares (stem n) v ≡ (alike (long n) v || alike (short n) v)
  unfolding letters caps
  form_compares v =
      rw whole
      (rw (stem_is before ending.1 name.smalls before_plain ending.3 name.all_small name.digits name.all_digit [], caps_are before ending.1 name.smalls before_plain ending.3 name.all_small name.digits name.all_digit [])
      (both_ways (compares (upper ++ name.smalls) v) (alike (upper ++ name.smalls) v || alike upper v)
      (λ h. ⊎_elim (λ a. or_left {a = alike (upper ++ name.smalls) v} _ a) (λ a. or_right (alike (upper ++ name.smalls) v) a) (forms before ending.1 name.smalls before_plain ending.3 name.all_small v h))
      (λ h. ⊎_elim (by_long (upper ++ name.smalls) v) (λ a. by_short (upper ++ name.smalls) v (caps_short before ending.1 name.smalls before_plain ending.3 name.all_small v a)) (either (alike (upper ++ name.smalls) v) _ h))))

  -- the short form ends in no digit
  pub short_ends : Ends (short n)
  unfolding letters caps
  short_ends =
      rw whole
      (rw (stem_is before ending.1 name.smalls before_plain ending.3 name.all_small name.digits name.all_digit [], caps_are before ending.1 name.smalls before_plain ending.3 name.all_small name.digits name.all_digit [])
      (caps_end before ending.1 name.smalls before_plain ending.3 name.all_small))

  pub forms_of : Forms n name
  unfolding letters caps
  forms_of =
      record {
        long_form =
            ap (λ (t : List ℕ). stem t) whole ∙ stem_is before ending.1 name.smalls before_plain ending.3 name.all_small name.digits name.all_digit []
            ∙ ap (λ (t : List ℕ). t ++ name.smalls) capitals_are ∙ append_assoc name.star name.capitals name.smalls;
        short_form =
            ap short whole
            ∙ rw (stem_is before ending.1 name.smalls before_plain ending.3 name.all_small name.digits name.all_digit []) (caps_are before ending.1 name.smalls before_plain ending.3 name.all_small name.digits name.all_digit [])
            ∙ capitals_are;
        number = ap (λ (t : List ℕ). numeric_suffix t) whole ∙ suffix_is before ending.1 name.smalls before_plain ending.3 name.all_small name.digits name.all_digit [];
      }
