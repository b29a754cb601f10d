-- Decimal numbers: what is accepted has the form; the claims.
use Rattle.std.specs.Prelude.{Option, Some, None}
use Prim.Native.Nat.{ℕ, ◌+◌, ◌-◌, ◌≤◌, ◌<◌}
use mathlib.Core.Path.{◌≡◌, refl, sym, ap, ◌∙◌}
use mathlib.Core.List.{List, [], ◌∷◌, ◌++◌}
use mathlib.Core.Bool.{Bool, true, false, cond, ◌||◌, true≢false, false≢true, and-true}
use mathlib.Core.Logic.{◌⊎◌, inl, inr, ⊎_elim}
use native.Mathlib.Omega.{arith}
use lib.Dec.{eqb, leb, ltb}
use lib.ListN.{length, get_or, take, drop, get_or-eq_default}
use native.Mathlib.Nat.{add-zero}
use lib.Seq.{drop-cons, get_or-take, get_or-drop}
use borrow.Author.Tests.{eqb-true, lt-ltb, ltb-true, leb-true}
use Rattle.error.specs.declared.ErrorCode.TheVariants.{NumericDataError, InvalidSuffix, SuffixTooLong}
use Rattle.kind.specs.Class.{is_white_space, is_sign, is_digit, is_letter, is_capital, is_small}
use Rattle.kind.proofs.Tests.{by_test, either, or_left, and_left, and_right, less_or_not}
use Rattle.util.specs.Run.{run_end, sign_end, every, stands_at}
use Rattle.util.proofs.Runs.{run_from}
use Rattle.token.specs.{Token.view_in, View.view_of, View.part_of, declared.View.View, declared.Token.Token}
use Rattle.token.specs.declared.Token.TheVariants.{HeaderMnemonicSeparator, HeaderQuerySuffix, ProgramMessageUnitSeparator, ProgramHeaderSeparator, ProgramDataSeparator, ProgramMnemonic, CharacterProgramData, DecimalNumericProgramData, DecimalNumericSuffixProgramData, NonDecimalNumericProgramData, StringProgramData, ArbitraryBlockData, ExpressionProgramData}
use Rattle.item.specs.Follow.{token, followed}
use Rattle.forms.specs.ItemForm.{Ended}
use Rattle.forms.proofs.ItemAccepted.{only_then, only_token, only_followed, ended, part, part_shown, part_joined, part_run, part_length, run_inside, run_most}
use Rattle.forms.proofs.ItemProgress.{run_moves, sign_from, whole_from}
use Rattle.decimal.specs.Decimal.{whole_end, has_whole, fraction_end, has_fraction, mantissa, begins_exponent, exponent, with_exponent, number, number_to, nrf, in_suffix, begins_suffix, suffixed, suffix_data, numeric_to, numeric_data}
use Rattle.forms.specs.DecimalForm.{Whole, Fraction, Exponent, Number, Suffix}
use Rattle.decimal.proofs.Decimals.{fraction_from}
use Rattle.forms.specs.DecimalClaims.{Claims}
use Rattle.forms.proofs.Decimals.{nrf_read, number_read}
use Rattle.forms.proofs.Pairs.{ok_pair}

-- what numeric data is: a number alone, or with a suffix
data Numeric (s : List ℕ) (at next : ℕ) : Token → Type 0 where
  alone : {v : View} → v.start ≡ at → Number (part_of s v) → Ended s v.end next → Numeric s at next (DecimalNumericProgramData v)
  with_suffix : {v u : View} → v.start ≡ at → Number (part_of s v) → u.start ≡ run_end is_white_space s v.end → Suffix (part_of s u) → Ended s u.end next
      → Numeric s at next (DecimalNumericSuffixProgramData v u)

-- a place with a byte of a class that 0 is not of is inside the text
inside : (p : ℕ → Bool) → p 0 ≡ false → (s : List ℕ) (i : ℕ) → p (get_or s i 0) ≡ true → i < length s
inside p z s i h =
    ⊎_elim (λ k. k) (λ k. let e : get_or s i 0 ≡ 0 = get_or-eq_default s 0 k in absurd (true≢false (sym h ∙ ap p e ∙ z)))
    (less_or_not i (length s))

module _ (s : List ℕ) (i : ℕ) where
  part_none : part s i i ≡ []
  part_none = let e : i - i ≡ 0 = omega arith in rw e

  part_one : i < length s → part s i (i + 1) ≡ get_or s i 0 ∷ []
  part_one h = let e : i + 1 - i ≡ 1 = omega arith in rw (e, drop-cons s i 0 h)

  sign_most : i ≤ length s → sign_end s i ≤ length s
  unfolding sign_end is_sign
  sign_most h = by_test (λ (k : ℕ). k ≤ length s) (is_sign (get_or s i 0)) (λ e. omega (arith, inside is_sign refl s i e)) (λ _. h)

  sign_part : (every is_sign (part s i (sign_end s i)) ≡ true) × (length (part s i (sign_end s i)) ≤ 1)
  unfolding sign_end is_sign every
  sign_part =
      by_test (λ (k : ℕ). (every is_sign (part s i k) ≡ true) × (length (part s i k) ≤ 1)) (is_sign (get_or s i 0))
      (λ e. let f = part_one (inside is_sign refl s i e) in (ap (every is_sign) f ∙ rw e, omega (arith, ap length f)))
      (λ e. (ap (every is_sign) part_none, omega (arith, ap length part_none)))

  pub whole_form : Whole (part s i (whole_end s i))
  unfolding whole_end
  whole_form =
      record {
        sign = part s i (sign_end s i);
        digits = part s (sign_end s i) (run_end is_digit s (sign_end s i));
        parts = part_joined s i (sign_end s i) (run_end is_digit s (sign_end s i)) (sign_from s i) (run_from is_digit s (sign_end s i));
        one_sign = sign_part.1;
        all_sign = sign_part.0;
        all_digit = part_run s is_digit (sign_end s i);
      }

  pub whole_count : length whole_form.digits ≡ whole_end s i - sign_end s i
  unfolding whole_form whole_end
  whole_count = part_length s is_digit (sign_end s i)

  whole_most : i ≤ length s → whole_end s i ≤ length s
  unfolding whole_end
  whole_most h = run_most s is_digit (sign_end s i) (sign_most h)

  -- with a digit it lies inside the text
  whole_inside : has_whole s i ≡ true → whole_end s i ≤ length s
  unfolding has_whole whole_end
  whole_inside h =
      let k : sign_end s i < length s = run_inside s is_digit (sign_end s i) (ltb-true (sign_end s i) (run_end is_digit s (sign_end s i)) h) in
      run_most s is_digit (sign_end s i) (omega (arith, k))

  whole_digits : has_whole s i ≡ true → 0 < length whole_form.digits
  unfolding has_whole
  whole_digits h = omega (arith, whole_count, ltb-true (sign_end s i) (whole_end s i) h)

-- a fraction, and how many digits it has
record Back (s : List ℕ) (i : ℕ) : Type 0 where
  pub form : Fraction (part s i (fraction_end s i))
  pub count : length form.digits ≡ fraction_end s i - i - 1

module _ (s : List ℕ) (i : ℕ) where
  dot_inside : stands_at 46 s i ≡ true → i < length s
  unfolding stands_at
  dot_inside h = ltb-true i (length s) (and_left (ltb i (length s)) (eqb (get_or s i 0) 46) h)

  dot_there : stands_at 46 s i ≡ true → get_or s i 0 ≡ 46
  unfolding stands_at
  dot_there h = eqb-true (get_or s i 0) 46 (and_right (ltb i (length s)) (eqb (get_or s i 0) 46) h)

  pointed : stands_at 46 s i ≡ true → part s i (run_end is_digit s (i + 1)) ≡ 46 ∷ part s (i + 1) (run_end is_digit s (i + 1))
  pointed h =
      part_joined s i (i + 1) (run_end is_digit s (i + 1)) (omega arith) (run_from is_digit s (i + 1))
      ∙ ap (λ (x : List ℕ). x ++ part s (i + 1) (run_end is_digit s (i + 1))) (part_one s i (dot_inside h) ∙ ap (λ (b : ℕ). b ∷ []) (dot_there h))

  fraction_form : Back s i
  unfolding fraction_end every
  fraction_form = go (stands_at 46 s i) refl
    where
      go : (c : Bool) → stands_at 46 s i ≡ c → Back s i
      go true e =
          record {
            form = record { point = 46 ∷ []; digits = part s (i + 1) (run_end is_digit s (i + 1)); parts = rw e (pointed e); point_or_none = inr refl; all_digit = part_run s is_digit (i + 1) };
            count = rw e (part_length s is_digit (i + 1) ∙ omega arith);
          }
      go false e =
          record {
            form = record { point = []; digits = []; parts = rw e (part_none s i); point_or_none = inl (refl, refl); all_digit = refl };
            count = rw e (omega arith);
          }

  -- a digit after the point makes it end inside the text, and so does a place that is inside
  fraction_most : i ≤ length s → fraction_end s i ≤ length s
  unfolding fraction_end
  fraction_most h =
      by_test (λ (k : ℕ). k ≤ length s) (stands_at 46 s i) (λ e. run_most s is_digit (i + 1) (omega (arith, dot_inside e))) (λ _. h)

  fraction_inside : has_fraction s i ≡ true → i ≤ length s
  unfolding has_fraction fraction_end
  fraction_inside h =
      by_test (λ (k : ℕ). 1 < k - i → i ≤ length s) (stands_at 46 s i)
      (λ e _. omega (arith, dot_inside e)) (λ _ k. absurd (omega arith)) (ltb-true 1 (fraction_end s i - i) h)

  fraction_digits : has_fraction s i ≡ true → 0 < length fraction_form.form.digits
  unfolding has_fraction
  fraction_digits h = omega (arith, fraction_form.count, ltb-true 1 (fraction_end s i - i) h)

  -- after a mantissa that ends inside the text
  exponent_form : (end : ℕ) → i ≤ length s → exponent s i ≡ Some end → (i ≤ end) × (end ≤ length s) × ((part s i end ≡ []) ⊎ Exponent (part s i end))
  unfolding exponent begins_exponent
  exponent_form end h = go (begins_exponent (get_or s i 0)) (has_whole s (i + 1)) refl refl
    where
      go : (c d : Bool) → begins_exponent (get_or s i 0) ≡ c → has_whole s (i + 1) ≡ d
          → cond c (cond d (Some (whole_end s (i + 1))) None) (Some i) ≡ Some end
          → (i ≤ end) × (end ≤ length s) × ((part s i end ≡ []) ⊎ Exponent (part s i end))
      go false d b w e =
          let m : i ≡ end = cc in
          (omega (arith, m), omega (arith, m, h), inl (ap (λ (k : ℕ). part s i k) (sym m) ∙ part_none s i))
      go true false b w e = let z : ◌≡◌ {A = ℕ} 0 1 = cc in absurd (omega arith)
      go true true b w e =
          let m : whole_end s (i + 1) ≡ end = cc in
          let k : i < length s = inside begins_exponent refl s i b in
          let f : part s i end ≡ get_or s i 0 ∷ part s (i + 1) (whole_end s (i + 1)) =
          rw (← m) (part_joined s i (i + 1) (whole_end s (i + 1)) (omega arith) (whole_from s (i + 1))
          ∙ ap (λ (x : List ℕ). x ++ part s (i + 1) (whole_end s (i + 1))) (part_one s i k)) in (
            omega (arith, m, whole_from s (i + 1)),
            omega (arith, m, whole_most s (i + 1) (omega (arith, k))),
            inr (record { letter = get_or s i 0; power = part s (i + 1) (whole_end s (i + 1)); parts = f; is_e = b; whole = whole_form s (i + 1); some_digit = whole_digits s (i + 1) w }),
          )

slash : (b : ℕ) → eqb b 47 ≡ true → in_suffix b ≡ true
unfolding in_suffix is_letter is_capital is_small is_digit
slash b h = rw (eqb-true b 47 h)

-- a number that was found, inside the text
record Found (s : List ℕ) (at end : ℕ) : Type 0 where
  pub forward : at ≤ end
  pub inside_text : end ≤ length s
  pub form : Number (part s at end)

module _ (s : List ℕ) (at : ℕ) where
  found : (end : ℕ) → number s at ≡ Some end → Found s at end
  unfolding number with_exponent mantissa
  found end = go (has_whole s at) (has_fraction s (whole_end s at)) refl refl
    where
      with_digit : whole_end s at ≤ length s → 0 < length (whole_form s at).digits + length (fraction_form s (whole_end s at)).form.digits
          → exponent s (fraction_end s (whole_end s at)) ≡ Some end → Found s at end
      with_digit k some e =
          let x = exponent_form s (fraction_end s (whole_end s at)) end (fraction_most s (whole_end s at) k) e in
          let l : fraction_end s (whole_end s at) ≤ end = x.0 in
          let b : whole_end s at ≤ fraction_end s (whole_end s at) = fraction_from s (whole_end s at) in
          record {
            forward = omega (arith, l, b, whole_from s at);
            inside_text = x.1;
            form =
                record {
                  front = part s at (whole_end s at);
                  back = part s (whole_end s at) (fraction_end s (whole_end s at));
                  power = part s (fraction_end s (whole_end s at)) end;
                  parts =
                      part_joined s at (whole_end s at) end (whole_from s at) (omega (arith, l, b))
                      ∙ ap (λ (y : List ℕ). part s at (whole_end s at) ++ y) (part_joined s (whole_end s at) (fraction_end s (whole_end s at)) end b l);
                  whole = whole_form s at;
                  fraction = (fraction_form s (whole_end s at)).form;
                  some_digit = some;
                  exponent = x.2;
                };
          }

      go : (c d : Bool) → has_whole s at ≡ c → has_fraction s (whole_end s at) ≡ d
          → with_exponent s (cond (c || d) (Some (fraction_end s (whole_end s at))) None) ≡ Some end → Found s at end
      go true d hc hd e = with_digit (whole_inside s at hc) (omega (arith, whole_digits s at hc)) e
      go false true hc hd e = with_digit (fraction_inside s (whole_end s at) hd) (omega (arith, fraction_digits s (whole_end s at) hd)) e
      go false false hc hd e = let z : ◌≡◌ {A = ℕ} 0 1 = cc in absurd (omega arith)

  shown : (end : ℕ) → number s at ≡ Some end → Number (part_of s (view_of at end))
  shown end e = let f : Found s at end = found end e in rw (part_shown s at end f.forward f.inside_text) f.form

  pub nrf_form : (t : Token) (next : ℕ) → nrf s at ≡ token t next → (t ≡ DecimalNumericProgramData (view_of at next)) × Number (part_of s (view_of at next))
  unfolding nrf number_to
  nrf_form t next = go (number s at) refl
    where
      go : (m : Option ℕ) → number s at ≡ m → number_to at m ≡ token t next → (t ≡ DecimalNumericProgramData (view_of at next)) × Number (part_of s (view_of at next))
      go None e h = absurd (only_token t next NumericDataError h)
      go (Some end) e h = let z = ok_pair h in (sym z.0 ∙ rw z.1, rw (← z.1) (shown end e))

  -- a letter or `/` is first
  suffix_first : (j : ℕ) → begins_suffix s j ≡ true → begins_suffix (part s j (run_end in_suffix s j)) 0 ≡ true
  unfolding begins_suffix in_suffix
  suffix_first j h =
      let b : ℕ = get_or s j 0 in
      let l : j < length s = ltb-true j (length s) (and_left (ltb j (length s)) (eqb b 47 || is_letter b) h) in
      let f : (eqb b 47 || is_letter b) ≡ true = and_right (ltb j (length s)) (eqb b 47 || is_letter b) h in
      let m : j < run_end in_suffix s j = run_moves in_suffix s j l (⊎_elim (λ k. slash b k) (λ k. or_left (is_digit b || (eqb b 45 || (eqb b 47 || eqb b 46))) k) (either (eqb b 47) (is_letter b) f)) in
      let n : 0 < length (part s j (run_end in_suffix s j)) = omega (arith, m, part_length s in_suffix j) in
      let g : get_or (part s j (run_end in_suffix s j)) 0 0 ≡ b = get_or-take (run_end in_suffix s j - j) (drop j s) 0 0 (omega (arith, m)) ∙ get_or-drop j s 0 0 ∙ ap (λ (k : ℕ). get_or s k 0) (add-zero j) in
      rw (lt-ltb 0 (length (part s j (run_end in_suffix s j))) n, g) f

  suffix_shown : (j : ℕ) → begins_suffix s j ≡ true → leb (run_end in_suffix s j - j) 12 ≡ true → Suffix (part_of s (view_of j (run_end in_suffix s j)))
  unfolding begins_suffix
  suffix_shown j h k =
      let l : j < length s = ltb-true j (length s) (and_left (ltb j (length s)) _ h) in
      rw (part_shown s j (run_end in_suffix s j) (run_from in_suffix s j) (run_most s in_suffix j (omega (arith, l))))
      (record { first = suffix_first j h; all_suffix = part_run s in_suffix j; at_most = omega (arith, part_length s in_suffix j, leb-true (run_end in_suffix s j - j) 12 k) })

  accepted : (t : Token) (next : ℕ) → numeric_data s at ≡ token t next → Numeric s at next t
  unfolding numeric_data numeric_to suffix_data suffixed
  accepted t next = go (number s at) refl
    where
      after : (end : ℕ) → number s at ≡ Some end → (c : Bool) → begins_suffix s (run_end is_white_space s end) ≡ c
          → cond c (suffixed s (view_of at end) (run_end is_white_space s end)) (followed (DecimalNumericProgramData (view_of at end)) InvalidSuffix s end) ≡ token t next
          → Numeric s at next t
      after end e true b h =
          let c = only_then t next _ _ _ h in
          let q = only_followed t next _ _ _ _ c.1 in
          rw (← q) (with_suffix refl (shown end e) refl (suffix_shown _ b c.0) (ended t _ _ _ _ next c.1))
      after end e false b h = let q = only_followed t next _ _ _ _ h in rw (← q) (alone refl (shown end e) (ended t _ _ _ _ next h))

      go : (m : Option ℕ) → number s at ≡ m → numeric_to s at m ≡ token t next → Numeric s at next t
      go None e h = absurd (only_token t next NumericDataError h)
      go (Some end) e h = after end e _ refl h

  pub number_form : (v : View) (next : ℕ) → numeric_data s at ≡ token (DecimalNumericProgramData v) next → (v.start ≡ at) × Number (part_of s v) × Ended s v.end next
  number_form v next h = go (accepted _ next h)
    where
      go : Numeric s at next (DecimalNumericProgramData v) → (v.start ≡ at) × Number (part_of s v) × Ended s v.end next
      go (alone a n e) = (a, n, e)

  pub suffix_form : (v u : View) (next : ℕ) → numeric_data s at ≡ token (DecimalNumericSuffixProgramData v u) next
      → (v.start ≡ at) × Number (part_of s v) × (u.start ≡ run_end is_white_space s v.end) × Suffix (part_of s u) × Ended s u.end next
  suffix_form v u next h = go (accepted _ next h)
    where
      go : Numeric s at next (DecimalNumericSuffixProgramData v u)
          → (v.start ≡ at) × Number (part_of s v) × (u.start ≡ run_end is_white_space s v.end) × Suffix (part_of s u) × Ended s u.end next
      go (with_suffix a n b x e) = (a, n, b, x, e)

pub claims : Claims
claims =
    record {
      nrf_read = nrf_read;
      nrf_form = nrf_form;
      number_form = number_form;
      suffix_form = suffix_form;
      number_read = number_read;
    }
