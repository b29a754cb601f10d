-- Laws of a name and the mnemonic at a place, as the code meets them.
use Rattle.std.specs.Prelude.{None}
use Prim.Native.Nat.{ℕ, suc, ◌+◌, ◌*◌, ◌^◌, ◌≤◌, ◌<◌}
use mathlib.Core.Path.{◌≡◌, refl, sym, ap, ◌∙◌}
use mathlib.Core.Logic.{⊎_elim}
use mathlib.Core.List.{List, [], ◌∷◌, ◌++◌, append_assoc, append-nil}
use mathlib.Core.Bool.{Bool, true, false, ◌&&◌, ◌||◌}
use native.Mathlib.Omega.{arith}
use native.Mathlib.Numerals.{add-one}
use lib.Dec.{eqb, leb}
use lib.ListN.{length, get_or, take, drop, length-append, length-drop, take-append-drop, get_or-eq_default}
use lib.Seq.{drop-cons, drop-drop, get_or-drop}
use mir.Syntax.{w64}
use mir.Val.{Fits}
use borrow.Author.Rules.{rules}
use borrow.Author.Tests.{leb-true, eqb-true}
use Rattle.kind.specs.Class.{is_capital, is_small, is_letter}
use Rattle.kind.proofs.Tests.{both_ways, by_test, either, or_left, or_right, and_left, and_right, and_both, clash, less_or_not}
use Rattle.util.specs.Run.{run, run_end, every}
use Rattle.util.proofs.Every.{every_join, every_weaker, every_run_front}
use Rattle.util.proofs.Runs.{run_again, run_more, run_from}
use Rattle.mnemonic.specs.Mnemonic.{pairs, either_case, alike, not_small}
use Rattle.mnemonic.proofs.{Bytes.capital_not_small, Bytes.small_is_small, Match.apart}
use Rattle.spoken.specs.Spoken.{is_letter_at, spelled_at}
use Rattle.spoken.specs.Internal.{agrees, begin_alike, common, departs_at, opens, short_form, long_form, Reached}
use Rattle.spoken.proofs.Bytes.{letter_in, one_letter, agreed_class, agreed_case, agreed_first, agreed_letter, none_apart, letter_at, goes_on_at_lem}
use Rattle.spoken.proofs.Matching.{alike_after, not_all, departs}
use Rattle.spoken.proofs.Fronts.{Front, front}
use Rattle.spoken.proofs.Mnemonics.{remainder, remainder_some, no_match}

-- A name and a text that begin alike.
record Begun (c d : ℕ) : Type 0 where
  pub same : either_case c d ≡ true
  pub first : (is_letter c || eqb c 42) ≡ true
  pub second : (is_letter d || eqb d 42) ≡ true
  pub plain : not_small c ≡ true

begun : (c d : ℕ) → begin_alike c d ≡ true → Begun c d
unfolding begin_alike not_small is_small
begun c d h = ⊎_elim letters stars (either (agrees false c d) (eqb c 42 && eqb d 42) h)
  where
    letters : agrees false c d ≡ true → Begun c d
    letters e =
        record { same = agreed_case false c d e; first = or_left _ (agreed_first false c d e); second = or_left _ (agreed_letter false c d e); plain = capital_not_small c (agreed_class false c d e) }

    stars : (eqb c 42 && eqb d 42) ≡ true → Begun c d
    stars e =
        let p = and_left (eqb c 42) (eqb d 42) e in
        let q = and_right (eqb c 42) (eqb d 42) e in
        record { same = one_letter c d (eqb-true c 42 p ∙ sym (eqb-true d 42 q)); first = or_right (is_letter c) p; second = or_right (is_letter d) q; plain = rw (eqb-true c 42 p) }

opens_more : (u l : List ℕ) → opens u ≡ true → every is_letter l ≡ true → opens (u ++ l) ≡ true
unfolding opens
opens_more [] l o h = clash o refl
opens_more (c ∷ u) l o h =
    and_both (and_left (is_letter c || eqb c 42) _ o) (every_join is_letter u l (and_right (is_letter c || eqb c 42) _ o) h)

-- past the end of a text there is nothing to begin with
something : (s : List ℕ) (p : ℕ) → (is_letter (get_or s p 0) || eqb (get_or s p 0) 42) ≡ true → p < length s
unfolding is_letter is_capital is_small
something s p h = ⊎_elim (λ l. l) (λ l. clash (rw (get_or-eq_default s 0 l) at h) refl) (less_or_not p (length s))

pub letter_in' : (s : List ℕ) (p : ℕ) (m : Bool) → m ≡ is_letter_at s p → m ≡ true → p < length s
letter_in' s p m e k = something s p (or_left (eqb (get_or s p 0) 42) (sym (letter_at s p) ∙ sym e ∙ k))

-- The letters that a name and the mnemonic at a place have alike from their fronts, so many in each.
record Shared (x s : List ℕ) (at p : ℕ) : Type 0 where
  pub said : List ℕ
  pub letters : List ℕ
  pub name : x ≡ said ++ drop p x
  pub text : drop at s ≡ letters ++ drop (at + p) s
  pub letters_long : length letters ≡ p
  pub same : alike said letters ≡ true
  pub said_opens : opens said ≡ true
  pub letters_open : opens letters ≡ true
  pub in_text : at < length s

reach : (x s : List ℕ) (at p : ℕ) → Shared x s at p → at + p ≤ length s
reach x s at p z =
    omega (arith, z.in_text, length-drop at s, length-drop (at + p) s, ap length z.text, length-append z.letters (drop (at + p) s), z.letters_long)

-- letters that follow them
further : (small : Bool) (x s : List ℕ) (at p q : ℕ) (z : Shared x s at p) → q ≡ p + common (agrees small) (drop p x) (drop (at + p) s)
    → (f : Front small (drop p x) (drop (at + p) s) (common (agrees small) (drop p x) (drop (at + p) s))) → (t : Shared x s at q) × (t.said ≡ z.said ++ f.said)
further small x s at p q z eq f = (
  record {
    said = z.said ++ f.said;
    letters = z.letters ++ f.letters;
    name = z.name ∙ ap (λ (t : List ℕ). z.said ++ t) (f.name ∙ ap (λ (t : List ℕ). f.said ++ t) name_far) ∙ sym (append_assoc z.said f.said (drop q x));
    text = z.text ∙ ap (λ (t : List ℕ). z.letters ++ t) (f.text ∙ ap (λ (t : List ℕ). f.letters ++ t) text_far) ∙ sym (append_assoc z.letters f.letters (drop (at + q) s));
    letters_long = rw (length-append z.letters f.letters) (omega (arith, eq, z.letters_long, f.letters_long));
    same = alike_after z.said z.letters f.said f.letters z.same ∙ f.same;
    said_opens = opens_more z.said f.said z.said_opens f.said_letters;
    letters_open = opens_more z.letters f.letters z.letters_open f.all_letters;
    in_text = z.in_text;
  },
  refl,
)
  where
    n : ℕ
    n = common (agrees small) (drop p x) (drop (at + p) s)

    name_far : drop n (drop p x) ≡ drop q x
    name_far = drop-drop n p x ∙ rw eq

    text_far : drop n (drop (at + p) s) ≡ drop (at + q) s
    text_far = let e : at + q ≡ (at + p) + n = omega (arith, eq) in drop-drop n (at + p) s ∙ rw e

-- after a run there is none of its class
after_run : (x : List ℕ) (p i : ℕ) → i ≡ run_end is_small x p → is_small (get_or x i 0) ≡ false
unfolding is_small
after_run x p i e =
    let stays : run_end is_small x i ≡ i = rw e (run_again is_small x p) in
    both_ways (is_small (get_or x i 0)) false
    (λ q. ⊎_elim (λ l. absurd (omega (arith, run_more is_small x i l q, run_from is_small x (i + 1)))) (λ l. rw (get_or-eq_default x 0 l) at q) (less_or_not i (length x)))
    (λ q. clash q refl)

small_some : (l : List ℕ) → 0 < length l → every is_small l ≡ true → every not_small l ≡ false
unfolding every
small_some [] n h = absurd (omega (arith, n))
small_some (c ∷ l) n h = rw (small_is_small c (and_left (is_small c) (every is_small l) h))

module _ (x s : List ℕ) (at : ℕ) (size : length x ≤ 12) (alike' : begin_alike (get_or x 0 0) (get_or s at 0) ≡ true) where
  b : Begun (get_or x 0 0) (get_or s at 0)
  b = begun (get_or x 0 0) (get_or s at 0) alike'

  pub first_in' : at + 1 ≤ length s
  first_in' = omega (arith, something s at b.second)

  one : Shared x s at 1
  unfolding pairs opens every
  one =
      record {
        said = get_or x 0 0 ∷ [];
        letters = get_or s at 0 ∷ [];
        name = drop-cons x 0 0 (something x 0 b.first);
        text = drop-cons s at 0 (something s at b.second) ∙ rw add-one refl;
        letters_long = refl;
        same = and_both b.same refl;
        said_opens = and_both b.first refl;
        letters_open = and_both b.second refl;
        in_text = something s at b.second;
      }

  module _ (p : ℕ) (ep : p ≡ 1 + common (agrees false) (drop 1 x) (drop (at + 1) s)) where
    caps : Front false (drop 1 x) (drop (at + 1) s) (common (agrees false) (drop 1 x) (drop (at + 1) s))
    caps = front false (drop 1 x) (drop (at + 1) s)

    capitals : (t : Shared x s at p) × (t.said ≡ one.said ++ caps.said)
    capitals = further false x s at 1 p one ep caps

    abbrev z : Shared x s at p
    z = capitals.0

    said_plain : every not_small z.said ≡ true
    unfolding every one
    said_plain = rw capitals.1 (and_both b.plain (every_weaker is_capital not_small capital_not_small caps.said caps.class))

    pub capitals_in' : at + p ≤ length s
    capitals_in' = reach x s at p z

    pub capitals_fit' : length s * 1 < 2 ^ 63 → Fits w64 (at + p)
    capitals_fit' room = record { fits = omega (arith, capitals_in', room) }

    module _ (l : Bool) (el : l ≡ is_letter_at s (at + p)) where
      reached_short : l ≡ false → (i : ℕ) → i ≡ run_end is_small x p → Reached x s at i (at + p)
      unfolding run_end
      reached_short q i ei =
          record {
            said = z.said;
            left = take n (drop p x);
            letters = z.letters;
            name = z.name ∙ ap (λ (t : List ℕ). z.said ++ t) split ∙ sym (append_assoc z.said (take n (drop p x)) (drop i x));
            text = z.text;
            place_is = omega (arith, z.letters_long);
            same = z.same;
            said_opens = z.said_opens;
            letters_open = z.letters_open;
            form = short_form said_plain (every_run_front is_small (drop p x)) (rw (get_or-drop i x 0 0, e) (after_run x p i ei));
            no_letter = sym (letter_at s (at + p)) ∙ sym el ∙ q;
            size = size;
          }
        where
          n : ℕ
          n = run is_small (drop p x)

          e : i + 0 ≡ i
          e = omega arith

          split : drop p x ≡ take n (drop p x) ++ drop i x
          split = sym (take-append-drop n (drop p x)) ∙ ap (λ (t : List ℕ). take n (drop p x) ++ t) (drop-drop n p x ∙ rw ei)

      pub reached_short' : l ≡ false → (j : ℕ) → j ≡ run_end is_small x p → (i : ℕ) → i ≡ j → (place : ℕ) → place ≡ at + p → Reached x s at i place
      reached_short' q j ej i ei place e = rw (ei, e) (reached_short q j ej)

      module _ (k : l ≡ true) (q : ℕ) (eq : q ≡ p + common (agrees true) (drop p x) (drop (at + p) s)) where
        smalls : Front true (drop p x) (drop (at + p) s) (common (agrees true) (drop p x) (drop (at + p) s))
        smalls = front true (drop p x) (drop (at + p) s)

        whole : (t : Shared x s at q) × (t.said ≡ z.said ++ smalls.said)
        whole = further true x s at p q z eq smalls

        abbrev y : Shared x s at q
        y = whole.0

        pub letters_fit' : length s * 1 < 2 ^ 63 → Fits w64 (at + q)
        letters_fit' room = record { fits = omega (arith, reach x s at q y, room) }

        module _ (m : Bool) (em : m ≡ is_letter_at s (at + q)) where
          reached_long : m ≡ false → Reached x s at q (at + q)
          reached_long km =
              record {
                said = y.said;
                left = [];
                letters = y.letters;
                name = y.name ∙ rw (append-nil y.said);
                text = y.text;
                place_is = omega (arith, y.letters_long);
                same = y.same;
                said_opens = y.said_opens;
                letters_open = y.letters_open;
                form = long_form (rw whole.1 (not_all not_small z.said smalls.said (small_some smalls.said some smalls.class))) refl;
                no_letter = sym (letter_at s (at + q)) ∙ sym em ∙ km;
                size = size;
              }
            where
              differ : p ≡ q → ⊥
              differ e = clash (sym el ∙ k) (rw (← e) at (sym em ∙ km))

              some : 0 < length smalls.said
              some = ⊎_elim (λ h. h) (λ h. absurd (differ (omega (arith, h, eq, smalls.said_long)))) (less_or_not 0 (length smalls.said))

          pub reached_long' : m ≡ false → (i : ℕ) → i ≡ q → (place : ℕ) → place ≡ at + q → Reached x s at i place
          reached_long' km i ei place e = rw (ei, e) (reached_long km)

          module _ (km : m ≡ true) where
            letter : is_letter (get_or s (at + q) 0) ≡ true
            letter = sym (letter_at s (at + q)) ∙ sym em ∙ km

            other : (d : Bool) → d ≡ departs_at x q (get_or s (at + q) 0) → d ≡ true → either_case (get_or (drop q x) 0 0) (get_or s (at + q) 0) ≡ false
            unfolding departs_at
            other d ed kd =
                let e : q + 0 ≡ q = omega arith in
                rw (get_or-drop q x 0 0, e)
                (by_test (λ (r : Bool). r ≡ true → either_case (get_or x q 0) (get_or s (at + q) 0) ≡ false) (leb (length x) q)
                (λ h _. rw (get_or-eq_default x 0 (leb-true (length x) q h)) (none_apart (get_or s (at + q) 0) letter))
                (λ h. apart (get_or x q 0) (get_or s (at + q) 0)) (sym ed ∙ kd))

            pub departs' : (d : Bool) → d ≡ departs_at x q (get_or s (at + q) 0) → d ≡ true → None ≡ spelled_at x s at
            departs' d ed kd =
                no_match s at y.letters (at + q) y.text y.letters_open x (y.said ++ drop q x) (get_or s (at + q) 0 ∷ remainder s (suc (at + q))) y.name
                (remainder_some s (at + q) (goes_on_at_lem s (at + q) ∙ letter_in (get_or s (at + q) 0) letter))
                (departs y.said [] y.letters y.same y.said_opens y.letters_open (drop q x) (get_or s (at + q) 0) (remainder s (suc (at + q))) letter (other d ed kd))

pub ruleset name_laws = (rules, first_in', capitals_in', capitals_fit', letters_fit', letter_in', departs')
