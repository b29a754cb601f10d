-- Laws of the places of a header, as the code meets them.
use Rattle.std.specs.Prelude.{Some, None}
use Prim.Native.Nat.{ℕ, ◌+◌, ◌≤◌, ◌<◌}
use mathlib.Core.Path.{◌≡◌, refl, sym, ap, ◌∙◌}
use mathlib.Core.List.{List}
use mathlib.Core.Bool.{Bool, true, false}
use lib.Dec.{eqb, leb, ltb}
use lib.ListN.{length, get_or}
use borrow.Author.Rules.{rules}
use borrow.Author.Tests.{le-leb, lt-leb, leb-false, lt-ltb, le-ltb, eq-eqb, ne_eqb, ltb-true, eqb-true}
use Rattle.kind.specs.Class.{is_letter}
use Rattle.kind.proofs.Tests.{by_test, clash, and_left, and_right}
use Rattle.util.specs.Run.{stands_at}
use Rattle.spoken.specs.Spoken.{is_letter_at}
use Rattle.header.specs.Internal.{after_byte, goes_on, halts, ends_at, front_of, kept_by}

module _ (s : List ℕ) (at : ℕ) (b : ℕ) where
  pub inside : stands_at b s at ≡ true → at < length s
  unfolding stands_at
  inside h = ltb-true at (length s) (and_left (ltb at (length s)) (eqb (get_or s at 0) b) h)

  pub there : stands_at b s at ≡ true → get_or s at 0 ≡ b
  unfolding stands_at
  there h = eqb-true (get_or s at 0) b (and_right (ltb at (length s)) (eqb (get_or s at 0) b) h)

  pub stands : at < length s → get_or s at 0 ≡ b → stands_at b s at ≡ true
  unfolding stands_at
  stands h e = rw (lt-ltb at (length s) h, eq-eqb (get_or s at 0) b e)

  stands_not : at < length s → (get_or s at 0 ≡ b → ⊥) → stands_at b s at ≡ false
  unfolding stands_at
  stands_not h e = rw (lt-ltb at (length s) h, ne_eqb (get_or s at 0) b e)

  pub after_past' : length s ≤ at → at ≡ after_byte b s at
  unfolding after_byte stands_at
  after_past' h = rw (le-ltb at (length s) h)

  module _ (h : at < length s) where
    pub after_it' : get_or s at 0 ≡ b → at + 1 ≡ after_byte b s at
    unfolding after_byte
    after_it' e = rw (stands h e)

    pub not_after' : (get_or s at 0 ≡ b → ⊥) → at ≡ after_byte b s at
    unfolding after_byte
    not_after' e = rw (stands_not h e)

pub ruleset after_laws = (rules, after_past', after_it', not_after')

-- a letter at a place
pub letter_there : (s : List ℕ) (p : ℕ) → is_letter_at s p ≡ true → (p < length s) × (is_letter (get_or s p 0) ≡ true)
unfolding is_letter_at
letter_there s p =
    by_test (λ (b : Bool). b ≡ true → (p < length s) × (is_letter (get_or s p 0) ≡ true)) (leb (length s) p) (λ _ f. clash f refl)
    (λ e f. (leb-false (length s) p e, f))

-- a colon and a letter

module _ (s : List ℕ) (at : ℕ) where
  pub colon_past' : length s ≤ at → false ≡ goes_on s at
  unfolding goes_on stands_at
  colon_past' h = rw (le-ltb at (length s) h)

  module _ (h : at < length s) where
    pub no_colon' : (get_or s at 0 ≡ 58 → ⊥) → false ≡ goes_on s at
    unfolding goes_on
    no_colon' e = rw (stands_not s at 58 h e)

    pub colon_letter' : get_or s at 0 ≡ 58 → (r : Bool) → r ≡ is_letter_at s (at + 1) → r ≡ goes_on s at
    unfolding goes_on
    colon_letter' e r er = rw (stands s at 58 h e) er

pub ruleset goes_on_laws = (rules, colon_past', no_colon', colon_letter')

-- the end of a header by one or two bytes

module _ (s : List ℕ) (p at : ℕ) (e : at ≡ after_byte 63 s p) where
  pub ends_text' : length s ≤ at → true ≡ ends_at s p
  unfolding ends_at halts
  ends_text' h = rw (← e, le-leb (length s) at h)

  module _ (h : at < length s) where
    pub ends_space' : get_or s at 0 ≡ 32 → true ≡ ends_at s p
    unfolding ends_at halts
    ends_space' k = rw (← e, lt-leb (length s) at h, k)

    pub ends_unit' : (get_or s at 0 ≡ 32 → ⊥) → eqb (get_or s at 0) 59 ≡ ends_at s p
    unfolding ends_at halts
    ends_unit' k = rw (← e, lt-leb (length s) at h, ne_eqb (get_or s at 0) 32 k)

pub ruleset ends_laws = (rules, ends_text', ends_space', ends_unit')

-- the place after a colon
pub after_colon : (s : List ℕ) (at : ℕ) → goes_on s at ≡ true → after_byte 58 s at ≡ at + 1
unfolding goes_on after_byte
after_colon s at g = rw (and_left (stands_at 58 s at) (is_letter_at s (at + 1)) g)

-- where a header begins

module _ (s : List ℕ) (b at : ℕ) (c : Bool) (e : c ≡ is_letter_at s at) where
  pub at_letter' : c ≡ true → Some (record { node = b; place = at; star = false }) ≡ front_of s b at
  unfolding front_of
  at_letter' q = rw (← e, q)

  module _ (q : c ≡ false) (d : Bool) (f : d ≡ goes_on s at) where
    pub at_colon' : d ≡ true → (next : ℕ) → next ≡ after_byte 58 s at → Some (record { node = 0; place = next; star = false }) ≡ front_of s b at
    unfolding front_of
    at_colon' k next n = rw (← e, q, ← f, k) (ap (λ (x : ℕ). Some (record { node = 0; place = x; star = false })) (n ∙ after_colon s at (sym f ∙ k)))

    module _ (k : d ≡ false) (g : Bool) (eg : g ≡ stands_at 42 s at) where
      pub at_star' : g ≡ true → Some (record { node = 0; place = at; star = true }) ≡ front_of s b at
      unfolding front_of
      at_star' z = rw (← e, q, ← f, k, ← eg, z)

      pub at_other' : g ≡ false → None ≡ front_of s b at
      unfolding front_of
      at_other' z = rw (← e, q, ← f, k, ← eg, z)

pub ruleset front_laws = (rules, at_letter', at_colon', at_star', at_other')

-- the branch kept

module _ (star : Bool) (b kept : ℕ) where
  pub keeps_start' : star ≡ true → b ≡ kept_by star b kept
  unfolding kept_by
  keeps_start' k = rw k

  pub keeps_last' : star ≡ false → kept ≡ kept_by star b kept
  unfolding kept_by
  keeps_last' k = rw k

pub ruleset keep_laws = (rules, keeps_start', keeps_last')
