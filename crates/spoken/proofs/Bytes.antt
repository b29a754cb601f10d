-- Laws of single bytes of a name and of a text, as the code meets them.
use Rattle.std.specs.Prelude.{Some, None}
use Prim.Native.Nat.{ℕ, ◌+◌, ◌-◌, ◌%◌, ◌≤◌, ◌<◌}
use mathlib.Core.Path.{◌≡◌, refl, sym, ap, ◌∙◌}
use mathlib.Core.Logic.{⊎_elim}
use mathlib.Core.List.{List}
use mathlib.Core.Bool.{Bool, true, false, not, cond, ◌||◌}
use native.Mathlib.Omega.{arith}
use lib.Dec.{eqb, leb}
use lib.ListN.{length, get_or, get_or-eq_default}
use mir.Syntax.{w8}
use mir.Val.{Fits}
use borrow.Author.Rules.{rules}
use borrow.Author.Tests.{not-true, not-false, leb-true, lt-leb, le-leb, lt-ltb, eq-eqb, ne_eqb, eqb-true}
use Rattle.kind.specs.Class.{is, is_capital, is_small, is_digit, is_letter, in_mnemonic}
use Rattle.kind.proofs.Tests.{both_ways, by_test, either, or_left, or_right, clash, and_left, and_right, and_both, less_or_not}
use Rattle.kind.proofs.Classes.{small_no_capital, small_no_digit, capital_no_digit, under}
use Rattle.util.specs.Run.{stands_at}
use Rattle.mnemonic.specs.Mnemonic.{folded, either_case}
use Rattle.spoken.specs.Spoken.{is_letter_at}
use Rattle.spoken.specs.Internal.{agrees, begin_alike, goes_on_at, departs_at, one_added}

-- what holds however a test goes
pub by_bool : {A : Type 0} (c : Bool) → (c ≡ true → A) → (c ≡ false → A) → A
by_bool true f g = f refl
by_bool false f g = g refl

-- the byte at a place

pub byte_past' : (s : List ℕ) (at : ℕ) → length s ≤ at → 0 ≡ get_or s at 0
byte_past' s at h = sym (get_or-eq_default s 0 h)

pub ruleset byte_laws = (rules, byte_past')

-- a letter and the same one in either case

module _ (c : ℕ) where
  small_span : is_small c ≡ true → (97 ≤ c) × (c ≤ 122)
  unfolding is_small
  small_span e = (leb-true 97 c (and_left (leb 97 c) _ e), leb-true c 122 (and_right (leb 97 c) _ e))

  capital_span : is_capital c ≡ true → (65 ≤ c) × (c ≤ 90)
  unfolding is_capital
  capital_span e = (leb-true 65 c (and_left (leb 65 c) _ e), leb-true c 90 (and_right (leb 65 c) _ e))

  capital_range : 65 ≤ c → c ≤ 90 → is_capital c ≡ true
  unfolding is_capital
  capital_range l u = and_both (le-leb 65 c l) (le-leb c 90 u)

  small_range : 97 ≤ c → c ≤ 122 → is_small c ≡ true
  unfolding is_small
  small_range l u = and_both (le-leb 97 c l) (le-leb c 122 u)

  pub letter_no_digit : is_letter c ≡ true → is_digit c ≡ false
  unfolding is_letter
  letter_no_digit e = ⊎_elim (capital_no_digit c) (small_no_digit c) (either (is_capital c) (is_small c) e)

  pub letter_in : is_letter c ≡ true → in_mnemonic c ≡ true
  unfolding in_mnemonic
  letter_in e = or_left (is_digit c || is "_" c) e

  pub digit_in : is_digit c ≡ true → in_mnemonic c ≡ true
  unfolding in_mnemonic
  digit_in e = or_right (is_letter c) (or_left (is "_" c) e)

  pub capital_letter : is_capital c ≡ true → is_letter c ≡ true
  unfolding is_letter
  capital_letter e = or_left (is_small c) e

  pub small_letter : is_small c ≡ true → is_letter c ≡ true
  unfolding is_letter
  small_letter e = or_right (is_capital c) e

pub one_letter : (c d : ℕ) → c ≡ d → either_case c d ≡ true
unfolding either_case
one_letter c d e = eq-eqb (folded c) (folded d) (ap folded e)

small_other : (c d : ℕ) → is_small c ≡ true → (c ≡ d → ⊥) → eqb (c - 32) d ≡ either_case c d
unfolding either_case folded
small_other c d e n =
    let span = small_span c e in
    rw (small_no_capital c e)
    (by_test (λ (k : ℕ). eqb (c - 32) d ≡ eqb c k) (is_capital d)
    (λ f. both_ways (eqb (c - 32) d) (eqb c (d + 32)) (λ h. eq-eqb c (d + 32) (omega (arith, span.0, eqb-true (c - 32) d h)))
    (λ h. eq-eqb (c - 32) d (omega (arith, span.0, eqb-true c (d + 32) h))))
    (λ f. ne_eqb (c - 32) d (λ h. clash (capital_range d (omega (arith, span.0, h)) (omega (arith, span.1, h))) f) ∙ sym (ne_eqb c d n)))

capital_other : (c d : ℕ) → is_capital c ≡ true → (c ≡ d → ⊥) → eqb (c + 32) d ≡ either_case c d
unfolding either_case folded
capital_other c d e n =
    rw e
    (by_test (λ (k : ℕ). eqb (c + 32) d ≡ eqb (c + 32) k) (is_capital d)
    (λ f. ne_eqb (c + 32) d (λ h. omega (arith, h, (capital_span c e).0, (capital_span d f).1)) ∙ sym (ne_eqb (c + 32) (d + 32) (λ h. n (omega (arith, h)))))
    (λ f. refl))

module _ (small : Bool) (c d : ℕ) (r : Bool) where
  module _ (k : small ≡ true) (e : r ≡ is_small c) where
    pub no_small' : not r ≡ true → false ≡ agrees small c d
    unfolding agrees
    no_small' q = rw (k, ← e, not-true r q)

    module _ (q : not r ≡ false) where
      pub from_small' : 32 ≤ c
      from_small' = omega (arith, (small_span c (sym e ∙ not-false r q)).0)

      pub small_same' : c ≡ d → true ≡ agrees small c d
      unfolding agrees
      small_same' h = rw (k, ← e, not-false r q) (sym (one_letter c d h))

      pub small_other' : (c ≡ d → ⊥) → eqb (c - 32) d ≡ agrees small c d
      unfolding agrees
      small_other' h = rw (k, ← e, not-false r q) (small_other c d (sym e ∙ not-false r q) h)

  module _ (k : small ≡ false) (e : r ≡ is_capital c) where
    pub no_capital' : not r ≡ true → false ≡ agrees small c d
    unfolding agrees
    no_capital' q = rw (k, ← e, not-true r q)

    module _ (q : not r ≡ false) where
      pub from_capital' : Fits w8 (c + 32)
      from_capital' = record { fits = omega (arith, (capital_span c (sym e ∙ not-false r q)).1) }

      pub capital_same' : c ≡ d → true ≡ agrees small c d
      unfolding agrees
      capital_same' h = rw (k, ← e, not-false r q) (sym (one_letter c d h))

      pub capital_other' : (c ≡ d → ⊥) → eqb (c + 32) d ≡ agrees small c d
      unfolding agrees
      capital_other' h = rw (k, ← e, not-false r q) (capital_other c d (sym e ∙ not-false r q) h)

pub ruleset said_laws = (rules, no_small', from_small', small_same', small_other', no_capital', from_capital', capital_same', capital_other')

-- two first bytes

module _ (c d : ℕ) (r : Bool) (e : r ≡ agrees false c d) where
  pub both_letter' : r ≡ true → true ≡ begin_alike c d
  unfolding begin_alike
  both_letter' q = rw (← e, q)

  module _ (q : r ≡ false) where
    pub no_star' : (c ≡ 42 → ⊥) → false ≡ begin_alike c d
    unfolding begin_alike
    no_star' h = rw (← e, q, ne_eqb c 42 h)

    pub both_star' : c ≡ 42 → eqb d 42 ≡ begin_alike c d
    unfolding begin_alike
    both_star' h = rw (← e, q, h)

pub ruleset begin_laws = (rules, both_letter', no_star', both_star')

-- what agrees with a letter of a name is a letter

letter_folds : (c : ℕ) → is_letter c ≡ true → (97 ≤ folded c) × (folded c ≤ 122)
unfolding folded is_letter
letter_folds c e =
    ⊎_elim (λ h. rw h (omega (arith, (capital_span c h).0), omega (arith, (capital_span c h).1)))
    (λ h. rw (small_no_capital c h) (small_span c h)) (either (is_capital c) (is_small c) e)

folds_letter : (d : ℕ) → 97 ≤ folded d → folded d ≤ 122 → is_letter d ≡ true
unfolding folded is_letter
folds_letter d =
    by_test (λ (k : ℕ). 97 ≤ k → k ≤ 122 → (is_capital d || is_small d) ≡ true) (is_capital d)
    (λ e l h. or_left (is_small d) e) (λ e l h. or_right (is_capital d) (small_range d l h))

pub case_letter : (c d : ℕ) → is_letter c ≡ true → either_case c d ≡ true → is_letter d ≡ true
unfolding either_case
case_letter c d l e =
    let f : folded c ≡ folded d = eqb-true (folded c) (folded d) e in
    let z = letter_folds c l in
    folds_letter d (omega (arith, f, z.0)) (omega (arith, f, z.1))

-- a letter is no other character
pub letter_apart : (c d : ℕ) → is_letter c ≡ true → is_letter d ≡ false → either_case c d ≡ false
letter_apart c d l n = both_ways (either_case c d) false (λ e. clash (case_letter c d l e) n) (λ e. clash e refl)

pub none_apart : (d : ℕ) → is_letter d ≡ true → either_case 0 d ≡ false
unfolding either_case folded is_capital
none_apart d l = ne_eqb 0 (folded d) (λ e. omega (arith, e, (letter_folds d l).0))

-- nor is a digit
pub digit_apart : (c d : ℕ) → is_digit c ≡ true → (d ≡ c → ⊥) → either_case c d ≡ false
unfolding either_case folded is_digit
digit_apart c d e n = ne_eqb (folded c) (folded d) (λ f. go (is_capital c) refl (is_capital d) refl f)
  where
    high : c ≤ 57
    high = leb-true c 57 (and_right (leb 48 c) (leb c 57) e)

    go : (a : Bool) → is_capital c ≡ a → (b : Bool) → is_capital d ≡ b → cond a (c + 32) c ≡ cond b (d + 32) d → ⊥
    go true p b q f = omega (arith, high, (capital_span c p).0)
    go false p true q f = omega (arith, high, (capital_span d q).0, f)
    go false p false q f = n (sym f)

module _ (small : Bool) (c d : ℕ) (e : agrees small c d ≡ true) where
  pub agreed_class : cond small (is_small c) (is_capital c) ≡ true
  unfolding agrees
  agreed_class = and_left (cond small (is_small c) (is_capital c)) (either_case c d) e

  pub agreed_case : either_case c d ≡ true
  unfolding agrees
  agreed_case = and_right (cond small (is_small c) (is_capital c)) (either_case c d) e

  pub agreed_first : is_letter c ≡ true
  agreed_first = by_test (λ (b : Bool). b ≡ true → is_letter c ≡ true) small (λ _. small_letter c) (λ _. capital_letter c) agreed_class

  pub agreed_letter : is_letter d ≡ true
  agreed_letter = case_letter c d agreed_first agreed_case

-- another character than that of the name

module _ (x : List ℕ) (i b : ℕ) where
  pub name_past' : length x ≤ i → true ≡ departs_at x i b
  unfolding departs_at
  name_past' h = rw (le-leb (length x) i h)

  pub other_there' : i < length x → not (eqb (get_or x i 0 % 32) (b % 32)) ≡ departs_at x i b
  unfolding departs_at
  other_there' h = rw (lt-leb (length x) i h)

pub ruleset departs_laws = (rules, name_past', other_there')

-- whether a letter is at a place, and whether a mnemonic goes on

module _ (s : List ℕ) (at : ℕ) where
  pub letter_past' : length s ≤ at → false ≡ is_letter_at s at
  unfolding is_letter_at
  letter_past' h = rw (le-leb (length s) at h)

  pub letter_there' : at < length s → (c : Bool) → c ≡ is_letter (get_or s at 0) → c ≡ is_letter_at s at
  unfolding is_letter_at
  letter_there' h c e = rw (lt-leb (length s) at h) e

  pub on_past' : length s ≤ at → false ≡ goes_on_at s at
  unfolding goes_on_at
  on_past' h = rw (le-leb (length s) at h)

  module _ (h : at < length s) where
    pub on_there' : (r : Bool) → r ≡ in_mnemonic (get_or s at 0) → r ≡ goes_on_at s at
    unfolding goes_on_at
    on_there' r e = rw (lt-leb (length s) at h) e

    pub below_digits' : get_or s at 0 < 48 → false ≡ goes_on_at s at
    unfolding in_mnemonic is_letter is_capital is_small is_digit
    below_digits' k =
        on_there' false
        (rw (under 65 90 (get_or s at 0) (omega (arith, k)), under 97 122 (get_or s at 0) (omega (arith, k)), under 48 57 (get_or s at 0) k, ne_eqb (get_or s at 0) 95 (λ e. omega (arith, k, e))))

    pub digit_on' : 48 ≤ get_or s at 0 → get_or s at 0 ≤ 57 → true ≡ goes_on_at s at
    unfolding in_mnemonic is_letter is_capital is_small is_digit
    digit_on' k l =
        on_there' true
        (rw
        (under 65 90 (get_or s at 0) (omega (arith, l)), under 97 122 (get_or s at 0) (omega (arith, l)), le-leb 48 (get_or s at 0) k, le-leb (get_or s at 0) 57 l))

    pub between' : 57 < get_or s at 0 → get_or s at 0 < 65 → false ≡ goes_on_at s at
    unfolding in_mnemonic is_letter is_capital is_small is_digit
    between' k l =
        on_there' false
        (rw
        (under 65 90 (get_or s at 0) l, under 97 122 (get_or s at 0) (omega (arith, l)), le-leb 48 (get_or s at 0) (omega (arith, k)), lt-leb (get_or s at 0) 57 k, ne_eqb (get_or s at 0) 95 (λ e. omega (arith, l, e))))

pub ruleset letter_laws = (rules, letter_past', letter_there')

pub ruleset goes_laws = (rules, on_past', on_there', below_digits', digit_on', between')

-- past the end of a text there is nothing of a mnemonic
module _ (s : List ℕ) (at : ℕ) where
  pub letter_at : is_letter_at s at ≡ is_letter (get_or s at 0)
  unfolding is_letter is_capital is_small
  letter_at = ⊎_elim (λ h. sym (letter_there' s at h (is_letter (get_or s at 0)) refl)) (λ h. rw (← byte_past' s at h) (sym (letter_past' s at h))) (less_or_not at (length s))

  pub goes_on_at_lem : goes_on_at s at ≡ in_mnemonic (get_or s at 0)
  unfolding in_mnemonic is_letter is_capital is_small is_digit
  goes_on_at_lem = ⊎_elim (λ h. sym (on_there' s at h (in_mnemonic (get_or s at 0)) refl)) (λ h. rw (← byte_past' s at h) (sym (on_past' s at h))) (less_or_not at (length s))

-- a `1` that is added

module _ (s : List ℕ) (at place : ℕ) (in_text : place < length s) where
  pub not_one' : (get_or s place 0 ≡ 49 → ⊥) → None ≡ one_added s at place
  unfolding one_added stands_at
  not_one' h = rw (lt-ltb place (length s) in_text, ne_eqb (get_or s place 0) 49 h)

  module _ (one : get_or s place 0 ≡ 49) (g : Bool) (e : g ≡ goes_on_at s (place + 1)) where
    pub one_goes_on' : g ≡ true → None ≡ one_added s at place
    unfolding one_added stands_at
    one_goes_on' q = rw (lt-ltb place (length s) in_text, one, ← e, q)

    module _ (q : g ≡ false) where
      pub one_too_long' : (n : ℕ) → n ≤ place - at → leb 12 n ≡ true → None ≡ one_added s at place
      unfolding one_added stands_at
      one_too_long' n h l = rw (lt-ltb place (length s) in_text, one, ← e, q, lt-leb (place - at) 11 (omega (arith, h, leb-true 12 n l)))

      pub one_more' : place - at < 12 → Some (place + 1) ≡ one_added s at place
      unfolding one_added stands_at
      one_more' h = rw (lt-ltb place (length s) in_text, one, ← e, q, le-leb (place - at) 11 (omega (arith, h)))

pub ruleset added_laws = (rules, not_one', one_goes_on', one_too_long', one_more')
