-- Laws of what follows the letters of a name and of a mnemonic, as the code meets them.
use Rattle.std.specs.Prelude.{Option, Some, None}
use Prim.Native.Nat.{ℕ, suc, ◌+◌, ◌-◌, ◌*◌, ◌^◌, ◌≤◌, ◌<◌}
use mathlib.Core.Path.{◌≡◌, refl, sym, ap, ◌∙◌}
use mathlib.Core.List.{List, [], ◌∷◌, ◌++◌, append_assoc, append-nil}
use mathlib.Core.Logic.{⊎_elim}
use mathlib.Core.Bool.{Bool, true, false, not, cond, ◌&&◌}
use native.Mathlib.Omega.{arith}
use native.Mathlib.Numerals.{add-one}
use lib.Dec.{eqb, leb, ltb}
use lib.ListN.{length, get_or, drop, length-append, length-drop, drop_of_length-le, get_or-eq_default}
use lib.Seq.{drop-cons}
use mir.Syntax.{w64}
use mir.Val.{Fits}
use borrow.Author.Rules.{rules}
use borrow.Author.Tests.{not-true, not-false, leb-true, leb-false, lt-ltb, eq-eqb, eqb-true, ltb-true}
use Rattle.kind.specs.Class.{is_capital, is_small, is_digit, is_letter, in_mnemonic}
use Rattle.kind.proofs.Tests.{and_left, and_right, and_both, clash, less_or_not}
use Rattle.util.specs.Run.{every, stands_at}
use Rattle.util.proofs.Every.{every_join, every_weaker}
use Rattle.mnemonic.specs.Mnemonic.{either_case, matches}
use Rattle.mnemonic.proofs.Pairs.{long}
use Rattle.spoken.specs.{Spoken.spelled_at}
use Rattle.spoken.specs.Internal.{goes_on_at, one_added, Reached, Counted, Missing}
use Rattle.spoken.proofs.Bytes.{by_bool, digit_in}
use Rattle.spoken.proofs.Matching.{letter_left, same_digits, more_digits, other_digit, one_left, digits_left, one_added_lem, more_added}
use Rattle.spoken.proofs.Mnemonics.{remainder, goes_in, remainder_none, remainder_some, remainder_after, no_match, over_long, match}

none_long : (x : List ℕ) → length x ≡ 0 → x ≡ []
none_long [] h = refl
none_long (c ∷ x) h = absurd (omega arith)

-- a byte that is not at a place
not_there : (c : ℕ) (s : List ℕ) (p : ℕ) → is_digit c ≡ true → stands_at c s p ≡ false → get_or s p 0 ≡ c → ⊥
unfolding stands_at is_digit
not_there c s p d h e =
    ⊎_elim (λ l. clash (and_both (lt-ltb p (length s) l) (eq-eqb (get_or s p 0) c e)) h)
    (λ l. omega (arith, leb-true 48 c (and_left (leb 48 c) (leb c 57) d), e, get_or-eq_default s 0 l)) (less_or_not p (length s))

-- the first byte of what is left of a mnemonic
first_left : (s : List ℕ) (p : ℕ) (e : ℕ) (b : List ℕ) → remainder s p ≡ e ∷ b → get_or s p 0 ≡ e
first_left s p e b h =
    by_bool (goes_on_at s p) (λ q. ap (λ (l : List ℕ). get_or l 0 0) (sym (remainder_some s p q) ∙ h))
    (λ q. absurd (omega (arith, ap length (sym (remainder_none s p q) ∙ h))))

no_letter_first : (s : List ℕ) (p : ℕ) → is_letter (get_or s p 0) ≡ false → is_letter (get_or (remainder s p) 0 0) ≡ false
unfolding is_letter is_capital is_small
no_letter_first s p h = by_bool (goes_on_at s p) (λ q. rw (remainder_some s p q) h) (λ q. rw (remainder_none s p q))

not_first : (s : List ℕ) (p c : ℕ) → is_digit c ≡ true → (get_or s p 0 ≡ c → ⊥) → get_or (remainder s p) 0 0 ≡ c → ⊥
unfolding is_digit
not_first s p c d n h =
    by_bool (goes_on_at s p) (λ q. n (rw (remainder_some s p q) at h))
    (λ q. omega (arith, leb-true 48 c (and_left (leb 48 c) (leb c 57) d), rw (remainder_none s p q) at h))

module _ (x s : List ℕ) (at from i next : ℕ) (k : Counted x s at from i next) where
  abbrev r : Reached x s at from k.place
  r = k.reached

  name_is : x ≡ (r.said ++ r.left) ++ (k.digits ++ drop i x)
  name_is = r.name ∙ ap (λ (t : List ℕ). (r.said ++ r.left) ++ t) k.name

  left_is : remainder s k.place ≡ k.digits ++ remainder s next
  left_is = remainder_after s k.place next k.digits k.text (every_weaker is_digit in_mnemonic digit_in k.digits k.all_digits)

  name_long : length x ≡ (length r.letters + length r.left) + (length k.digits + length (drop i x))
  name_long =
      ap length name_is
      ∙ rw (length-append (r.said ++ r.left) (k.digits ++ drop i x), length-append r.said r.left, length-append k.digits (drop i x), long either_case r.said r.letters r.same)

  -- what follows the letters in the name and in the mnemonic settles it
  by_not : (z w : List ℕ) → k.digits ++ drop i x ≡ z → k.digits ++ remainder s next ≡ w → matches ((r.said ++ r.left) ++ z) (r.letters ++ w) ≡ false → None ≡ spelled_at x s at
  by_not z w ez ew = no_match s at r.letters k.place r.text r.letters_open x ((r.said ++ r.left) ++ z) w (name_is ∙ ap (λ (t : List ℕ). (r.said ++ r.left) ++ t) ez) (left_is ∙ ew)

  by_to : (z w : List ℕ) → k.digits ++ drop i x ≡ z → k.digits ++ remainder s next ≡ w → matches ((r.said ++ r.left) ++ z) (r.letters ++ w) ≡ true → length r.letters + length w ≤ 12
      → (e : ℕ) → e ≡ k.place + length w → Some e ≡ spelled_at x s at
  by_to z w ez ew h l e q =
      match s at r.letters k.place r.text r.letters_open x ((r.said ++ r.left) ++ z) w (name_is ∙ ap (λ (t : List ℕ). (r.said ++ r.left) ++ t) ez) (left_is ∙ ew) h l e
      (omega (arith, q, r.place_is))

  -- what is left of the mnemonic begins with no letter
  not_letter : (e : ℕ) (b : List ℕ) → k.digits ++ remainder s next ≡ e ∷ b → is_letter e ≡ false
  not_letter e b h = sym (ap is_letter (first_left s k.place e b (left_is ∙ h))) ∙ r.no_letter

  pub no_digits : from ≡ i → k.digits ≡ []
  no_digits h = none_long k.digits (omega (arith, h, k.index_is))

  pub place_is : from ≡ i → next ≡ k.place
  place_is h = omega (arith, h, k.index_is, k.next_is)

  module _ (h : i < length x) where
    pub letter_left' : from ≡ i → (q : Bool) → q ≡ is_letter (get_or x i 0) → q ≡ true → None ≡ spelled_at x s at
    letter_left' f q eq kq =
        by_not (get_or x i 0 ∷ drop (suc i) x) (remainder s k.place) (rw (no_digits f, drop-cons x i 0 h)) (sym left_is)
        (letter_left r.said r.left r.letters r.same r.said_opens r.letters_open (drop from x) r.form (get_or x i 0) (drop (suc i) x)
        (k.name ∙ rw (no_digits f, drop-cons x i 0 h)) (sym eq ∙ kq) (remainder s k.place) (no_letter_first s k.place r.no_letter))

    module _ (d : is_digit (get_or x i 0) ≡ true) where
      at_digit : k.digits ++ drop i x ≡ k.digits ++ (get_or x i 0 ∷ drop (suc i) x)
      at_digit = rw (drop-cons x i 0 h)

      module _ (n : stands_at (get_or x i 0) s next ≡ false) where
        other : (k.digits ++ remainder s next ≡ [] → ⊥) → None ≡ spelled_at x s at
        other some = go (k.digits ++ remainder s next) refl some
          where
            go : (w : List ℕ) → k.digits ++ remainder s next ≡ w → (w ≡ [] → ⊥) → None ≡ spelled_at x s at
            go [] q z = absurd (z refl)
            go (e ∷ b) q z =
                by_not (k.digits ++ (get_or x i 0 ∷ drop (suc i) x)) (k.digits ++ remainder s next) at_digit refl
                (other_digit r.said r.left r.letters r.same r.said_opens r.letters_open (drop from x) r.form k.digits (get_or x i 0) (drop (suc i) x) (remainder s next) k.all_digits d
                (not_first s next (get_or x i 0) d (not_there (get_or x i 0) s next d n)) e b q (not_letter e b q))

        pub some_digits' : from < i → None ≡ spelled_at x s at
        some_digits' l = other (λ e. omega (arith, l, k.index_is, ap length e, length-append k.digits (remainder s next)))

        module _ (l : i ≤ from) (g : Bool) (eg : g ≡ goes_on_at s next) where
          level : from ≡ i
          level = omega (arith, l, k.index_is)

          pub goes_on' : g ≡ true → None ≡ spelled_at x s at
          goes_on' q =
              other (λ e. omega (arith, ap length e, length-append k.digits (remainder s next), ap length (remainder_some s next (sym eg ∙ q))))

          module _ (q : g ≡ false) where
            none : k.digits ++ remainder s next ≡ []
            none = rw (no_digits level, remainder_none s next (sym eg ∙ q))

            digits : k.digits ++ drop i x ≡ get_or x i 0 ∷ drop (suc i) x
            digits = at_digit ∙ rw (no_digits level)

            wrong : (get_or x i 0 ∷ drop (suc i) x ≡ 49 ∷ [] → ⊥) → None ≡ spelled_at x s at
            wrong w =
                by_not (get_or x i 0 ∷ drop (suc i) x) [] digits none
                (digits_left r.said r.left r.letters r.same r.said_opens r.letters_open (drop from x) r.form (get_or x i 0) (drop (suc i) x) d w)

            pub more_left' : (length x ≡ i + 1 → ⊥) → None ≡ spelled_at x s at
            more_left' w = wrong (λ e. w (omega (arith, h, ap length e, length-drop (suc i) x)))

            pub other_left' : (get_or x i 0 ≡ 49 → ⊥) → None ≡ spelled_at x s at
            other_left' w = wrong (λ e. w (ap (λ (t : List ℕ). get_or t 0 0) e))

            pub one_left' : length x ≡ i + 1 → get_or x i 0 ≡ 49 → Some next ≡ spelled_at x s at
            one_left' w o =
                by_to (49 ∷ []) [] (digits ∙ rw (o, none_long (drop (suc i) x) (omega (arith, w, length-drop (suc i) x)))) none
                (one_left r.said r.left r.letters r.same r.said_opens r.letters_open (drop from x) r.form) (omega (arith, name_long, r.size)) next (omega (arith, place_is level))

pub ruleset left_out_laws = (rules, some_digits', goes_on', more_left', other_left', one_left')

-- the digits of a name

pub counted_begin' : (x s : List ℕ) (at from place : ℕ) → Reached x s at from place → Counted x s at from from place
unfolding every
counted_begin' x s at from place r =
    record { place = place; digits = []; reached = r; name = refl; text = refl; all_digits = refl; index_is = omega arith; next_is = omega arith }

module _ (x s : List ℕ) (at from i next : ℕ) (k : Counted x s at from i next) where
  module _ (q : Bool) (eq : q ≡ stands_at (get_or x i 0) s next) (kq : not q ≡ false) where
    stands : stands_at (get_or x i 0) s next ≡ true
    stands = sym eq ∙ not-false q kq

    inside : next < length s
    unfolding stands_at
    inside = ltb-true next (length s) (and_left (ltb next (length s)) (eqb (get_or s next 0) (get_or x i 0)) stands)

    there : get_or s next 0 ≡ get_or x i 0
    unfolding stands_at
    there = eqb-true (get_or s next 0) (get_or x i 0) (and_right (ltb next (length s)) (eqb (get_or s next 0) (get_or x i 0)) stands)

    pub next_fits' : length s * 1 < 2 ^ 63 → Fits w64 (next + 1)
    next_fits' room = record { fits = omega (arith, inside, room) }

    pub counted_more' : i < length x → (d : Bool) → d ≡ is_digit (get_or x i 0) → not d ≡ false → (j : ℕ) → j ≡ i + 1 → (m : ℕ) → m ≡ next + 1 → Counted x s at from j m
    unfolding every
    counted_more' h d ed kd j ej m em =
        let ei : j ≡ suc i = omega (arith, ej) in
        let en : m ≡ suc next = omega (arith, em) in
        rw (ei, en)
        (record {
          place = k.place;
          digits = k.digits ++ (get_or x i 0 ∷ []);
          reached = k.reached;
          name = k.name ∙ rw (drop-cons x i 0 h) (sym (append_assoc k.digits (get_or x i 0 ∷ []) (drop (suc i) x)));
          text = k.text ∙ rw (drop-cons s next 0 inside, there) (sym (append_assoc k.digits (get_or x i 0 ∷ []) (drop (suc next) s)));
          all_digits = every_join is_digit k.digits (get_or x i 0 ∷ []) k.all_digits (and_both (sym ed ∙ not-false d kd) refl);
          index_is = rw (length-append k.digits (get_or x i 0 ∷ [])) (omega (arith, k.index_is));
          next_is = rw (length-append k.digits (get_or x i 0 ∷ [])) (omega (arith, k.next_is));
        })

  pub missing' : i < length x → (d : Bool) → d ≡ is_digit (get_or x i 0) → not d ≡ false → (q : Bool) → q ≡ stands_at (get_or x i 0) s next → not q ≡ true → Missing x s at from i next
  missing' h d ed kd q eq kq = record { counted = k; inside = h; digit = sym ed ∙ not-false d kd; absent = sym eq ∙ not-true q kq }

  module _ (h : length x ≤ i) (g : Bool) (eg : g ≡ goes_on_at s next) where
    all_said : k.digits ++ drop i x ≡ k.digits
    all_said = rw (drop_of_length-le x h) (append-nil k.digits)

    pub spelled_to' : not g ≡ true → Some next ≡ spelled_at x s at
    spelled_to' kg =
        by_to x s at from i next k k.digits k.digits all_said (rw (remainder_none s next (sym eg ∙ not-true g kg)) (append-nil k.digits))
        (same_digits r.said r.left r.letters r.same r.said_opens r.letters_open (drop from x) r.form k.digits k.all_digits)
        (omega (arith, name_long x s at from i next k, r.size))
        next k.next_is
      where
        r : Reached x s at from k.place
        r = k.reached

    module _ (kg : not g ≡ false) where
      on : goes_on_at s next ≡ true
      on = sym eg ∙ not-false g kg

      pub next_in' : next < length s
      next_in' = goes_in s next on

      pub next_after' : at ≤ next
      next_after' = omega (arith, k.next_is, k.reached.place_is)

      pub digits_go_on' : from < length x → None ≡ spelled_at x s at
      digits_go_on' l = go k.digits refl
        where
          r : Reached x s at from k.place
          r = k.reached

          go : (d : List ℕ) → k.digits ≡ d → None ≡ spelled_at x s at
          go [] e = absurd (omega (arith, l, h, k.index_is, ap length e))
          go (c ∷ d) e =
              by_not x s at from i next k (c ∷ d) ((c ∷ d) ++ (get_or s next 0 ∷ remainder s (suc next))) (all_said ∙ e) (rw (e, remainder_some s next on))
              (more_digits r.said r.left r.letters r.same r.said_opens r.letters_open (drop from x) r.form c d (get_or s next 0) (remainder s (suc next)) (rw e at k.all_digits))

      module _ (l : length x ≤ from) where
        no_digit : k.digits ≡ []
        no_digit = none_long k.digits (omega (arith, l, length-append k.digits (drop i x), ap length k.name, length-drop from x))

        on_left : k.digits ++ remainder s next ≡ get_or s next 0 ∷ remainder s (suc next)
        on_left = rw (no_digit, remainder_some s next on)

        pub added' : (o : Option ℕ) → o ≡ one_added s at next → o ≡ spelled_at x s at
        unfolding one_added stands_at
        added' o e = e ∙ rw (lt-ltb next (length s) next_in') (one (eqb (get_or s next 0) 49) refl (goes_on_at s (next + 1)) refl (leb (next - at) 11) refl)
          where
            r : Reached x s at from k.place
            r = k.reached

            wrong : (get_or s next 0 ∷ remainder s (suc next) ≡ 49 ∷ [] → ⊥) → None ≡ spelled_at x s at
            wrong w =
                by_not x s at from i next k [] (get_or s next 0 ∷ remainder s (suc next)) (all_said ∙ no_digit) on_left
                (more_added r.said r.left r.letters r.same r.said_opens r.letters_open (drop from x) r.form (get_or s next 0) (remainder s (suc next)) (not_letter x s at from i next k (get_or s next 0) (remainder s (suc next)) on_left) w)

            one : (a : Bool) → eqb (get_or s next 0) 49 ≡ a → (b : Bool) → goes_on_at s (next + 1) ≡ b → (c : Bool) → leb (next - at) 11 ≡ c
                → cond (a && (not b && c)) (Some (next + 1)) None ≡ spelled_at x s at
            one false p b q c t = wrong (λ z. clash (eq-eqb (get_or s next 0) 49 (ap (λ (y : List ℕ). get_or y 0 0) z)) p)
            one true p true q c t = wrong (λ z. omega (arith, ap length z, ap length (remainder_some s (suc next) (rw add-one at q))))
            one true p false q false t =
                over_long s at r.letters k.place r.text r.letters_open x
                (omega (arith, leb-false (next - at) 11 t, k.next_is, r.place_is, ap length no_digit, ap length (left_is x s at from i next k), ap length on_left))
            one true p false q true t =
                by_to x s at from i next k [] (49 ∷ []) (all_said ∙ no_digit) (on_left ∙ rw (eqb-true (get_or s next 0) 49 p, remainder_none s (suc next) (rw add-one at q)))
                (one_added_lem r.said r.left r.letters r.same r.said_opens r.letters_open (drop from x) r.form)
                (omega (arith, leb-true (next - at) 11 t, k.next_is, r.place_is, ap length no_digit)) (next + 1)
                (omega (arith, k.next_is, ap length no_digit))

pub ruleset tail_laws = (rules, letter_left', missing', counted_begin', next_fits', counted_more', spelled_to', next_in', next_after', digits_go_on', added')
