-- Names and mnemonics that begin with the same letters: which match, by what follows the letters in each.
use Prim.Native.Nat.{ℕ, zero, suc, ◌+◌}
use mathlib.Core.Path.{◌≡◌, refl, sym, ap, ◌∙◌}
use mathlib.Core.Logic.{⊎_elim}
use mathlib.Core.List.{List, [], ◌∷◌, ◌++◌, append_assoc, append-nil}
use mathlib.Core.Bool.{Bool, true, false, cond, ◌&&◌, ◌||◌, and-false, false≢true, true≢false}
use native.Mathlib.Omega.{arith}
use lib.Dec.{eqb}
use lib.ListN.{length, get_or, take, drop, length-append}
use lib.Seq.{take-length, take-append_seam, drop-append_seam, take-append-add, drop-append-add}
use borrow.Author.Tests.{eqb-true, ne_eqb}
use Rattle.kind.specs.Class.{is_capital, is_small, is_digit, is_letter}
use Rattle.kind.proofs.Tests.{both_ways, by_test, either, or_left, or_right, and_left, and_right, and_both, clash}
use Rattle.util.specs.Run.{every}
use Rattle.util.proofs.Every.{every_join, every_second, every_weaker}
use Rattle.mnemonic.specs.Mnemonic.{pairs, either_case, alike, not_small, may_leave_out, compares, last_end, numeric_suffix_start, same_numeric_suffix, matches}
use Rattle.mnemonic.proofs.Bytes.{small_left_out, capital_needed, digit_needed}
use Rattle.mnemonic.proofs.Pairs.{long, differ}
use Rattle.mnemonic.proofs.Match.{none_some', some_none', some_some'}
use Rattle.names.proofs.Alike.{Ends, ends_behind, suffix_itself, start_behind}
use Rattle.spoken.specs.Internal.{opens, Form, short_form, long_form}
use Rattle.spoken.proofs.Bytes.{by_bool, letter_no_digit, one_letter, small_letter, letter_apart, digit_apart}

capital : (c : ℕ) → is_letter c ≡ true → is_small c ≡ false → is_capital c ≡ true
unfolding is_letter
capital c l s = ⊎_elim (λ e. e) (λ e. clash e s) (either (is_capital c) (is_small c) l)

letter_unlike : (c : ℕ) (a b : List ℕ) (k : ℕ) → is_letter c ≡ true → is_letter (get_or b 0 0) ≡ false → alike (c ∷ a) (take k b) ≡ false
unfolding pairs
letter_unlike c a b zero l n = refl
letter_unlike c a [] (suc k) l n = refl
letter_unlike c a (e ∷ b) (suc k) l n = rw (letter_apart c e l n)

-- texts alike before others

pub alike_after : (u v x y : List ℕ) → alike u v ≡ true → alike (u ++ x) (v ++ y) ≡ alike x y
unfolding pairs
alike_after [] [] x y h = refl
alike_after [] (d ∷ v) x y h = absurd (false≢true h)
alike_after (c ∷ u) [] x y h = absurd (false≢true h)
alike_after (c ∷ u) (d ∷ v) x y h = rw (and_left (either_case c d) _ h) (alike_after u v x y (and_right (either_case c d) _ h))

-- what is not of a class is not all of it
pub not_all : (p : ℕ → Bool) (u z : List ℕ) → every p z ≡ false → every p (u ++ z) ≡ false
not_all p u z h = both_ways (every p (u ++ z)) false (λ e. clash (every_second p u z e) h) (λ e. clash e refl)

not_first : (p : ℕ → Bool) (u z : List ℕ) → every p u ≡ false → every p (u ++ z) ≡ false
unfolding every
not_first p [] z h = absurd (true≢false h)
not_first p (b ∷ u) z h = by_bool (p b) (λ q. rw q (not_first p u z (rw q at h))) (λ q. rw q)

-- the numeric suffix after a text that ends in no digit

digits_none : (z : List ℕ) → every is_digit z ≡ true → last_end z ≡ 0
unfolding last_end every
digits_none [] h = refl
digits_none (b ∷ z) h = rw (and_left (is_digit b) (every is_digit z) h, and_right (is_digit b) (every is_digit z) h)

last_after : (u z : List ℕ) → every is_digit z ≡ false → last_end (u ++ z) ≡ length u + last_end z
unfolding last_end
last_after [] z h = omega arith
last_after (b ∷ u) z h = rw (not_all is_digit u z h) (omega (arith, last_after u z h))

last_some : (c : ℕ) (a : List ℕ) → is_digit c ≡ false → (m : ℕ) × (last_end (c ∷ a) ≡ suc m)
unfolding last_end
last_some c a e = rw e (by_test (λ (k : ℕ). (m : ℕ) × (k ≡ suc m)) (every is_digit a) (λ _. (0, refl)) (λ _. (last_end a, refl)))

suffix_start : (u z : List ℕ) → Ends u → numeric_suffix_start (u ++ z) ≡ length u + last_end z
unfolding numeric_suffix_start
suffix_start u z e =
    by_bool (every is_digit z) (λ h. start_behind u z e h ∙ omega (arith, digits_none z h)) (λ h. rw (not_all is_digit u z h) (last_after u z h))

letters_end : (c : ℕ) (u : List ℕ) → is_digit c ≡ false → every is_letter u ≡ true → Ends (c ∷ u)
unfolding every
letters_end c [] e h = record { front = []; last = c; whole = refl; plain = e }
letters_end c (b ∷ u) e h =
    let z = letters_end b u (letter_no_digit b (and_left (is_letter b) (every is_letter u) h)) (and_right (is_letter b) (every is_letter u) h) in
    record { front = c ∷ z.front; last = z.last; whole = ap (λ (t : List ℕ). c ∷ t) z.whole; plain = z.plain }

opens_end : (u : List ℕ) → opens u ≡ true → Ends u
unfolding opens is_digit
opens_end [] h = absurd (false≢true h)
opens_end (c ∷ u) h =
    letters_end c u (⊎_elim (letter_no_digit c) (λ e. rw (eqb-true c 42 e)) (either (is_letter c) (eqb c 42) (and_left (is_letter c || eqb c 42) (every is_letter u) h)))
    (and_right (is_letter c || eqb c 42) (every is_letter u) h)

-- a match by the parts after two texts that end in no digit
parted : (u z v b : List ℕ) → Ends u → Ends v
    → matches (u ++ z) (v ++ b)
    ≡ (compares (u ++ z) (v ++ b)
    || (compares (u ++ take (last_end z) z) (v ++ take (last_end b) b) && same_numeric_suffix (drop (last_end z) z) (drop (last_end b) b)))
unfolding matches
parted u z v b e f =
    rw (suffix_start u z e, suffix_start v b f, take-append-add u z (last_end z), drop-append-add u z (last_end z), take-append-add v b (last_end b), drop-append-add v b (last_end b))

-- the comparison of what follows, whatever of it is small
rests : List ℕ → List ℕ → Bool
rests z b = alike z b || (alike (take (length b) z) b && every may_leave_out (drop (length b) z))

module _ (u v : List ℕ) (same : alike u v ≡ true) (z b : List ℕ) where
  size : length (v ++ b) ≡ length u + length b
  size = rw (long either_case u v same, length-append v b)

  after_same : rests z b ≡ false → compares (u ++ z) (v ++ b) ≡ false
  unfolding compares rests
  after_same h =
      rw (size, take-append-add u z (length b), drop-append-add u z (length b), alike_after u v z b same, alike_after u v (take (length b) z) b same)
      (go (alike z b) (alike (take (length b) z) b) (every not_small (u ++ take (length b) z)) (every may_leave_out (drop (length b) z)) h)
    where
      go : (p a n m : Bool) → (p || (a && m)) ≡ false → (p || (a && (n && m))) ≡ false
      go true a n m e = e
      go false false n m e = refl
      go false true true m e = e
      go false true false m e = refl

  after_small : every not_small u ≡ false → alike z b ≡ false → compares (u ++ z) (v ++ b) ≡ false
  unfolding compares
  after_small n h =
      rw (size, take-append-add u z (length b), alike_after u v z b same, h, not_first not_small u (take (length b) z) n) (and-false (alike (u ++ take (length b) z) (v ++ b)))

-- what follows is not the same

rests_left : (l : List ℕ) (c : ℕ) (a : List ℕ) → may_leave_out c ≡ false → rests (l ++ (c ∷ a)) [] ≡ false
unfolding rests pairs every
rests_left l c a h = rw (differ either_case (l ++ (c ∷ a)) [] (λ e. omega (arith, e, length-append l (c ∷ a))), not_all may_leave_out l (c ∷ a) (rw h))

rests_apart : (m : ℕ) (a : List ℕ) (d : ℕ) (b : List ℕ) → either_case (get_or a 0 0) d ≡ false → rests (take m a) (d ∷ b) ≡ false
unfolding rests pairs
rests_apart zero a d b h = refl
rests_apart (suc m) [] d b h = refl
rests_apart (suc m) (c ∷ a) d b h = rw h

rests_small : (l z : List ℕ) (e : ℕ) (b : List ℕ) → every is_small l ≡ true → is_letter e ≡ false → rests z (e ∷ b) ≡ false → rests (l ++ z) (e ∷ b) ≡ false
unfolding rests pairs every
rests_small [] z e b s n h = h
rests_small (c ∷ l) z e b s n h = rw (letter_apart c e (small_letter c (and_left (is_small c) (every is_small l) s)) n)

rests_digits : (k : ℕ) (a₁ : List ℕ) (c : ℕ) (a₂ b₂ : List ℕ) → is_digit c ≡ true → (get_or b₂ 0 0 ≡ c → ⊥) → rests (a₁ ++ (c ∷ a₂)) (take k (a₁ ++ b₂)) ≡ false
unfolding rests pairs every
rests_digits zero a₁ c a₂ b₂ d n = rests_left a₁ c a₂ (digit_needed c d)
rests_digits (suc k) [] c a₂ [] d n = rests_left [] c a₂ (digit_needed c d)
rests_digits (suc k) [] c a₂ (e ∷ b₂) d n = rw (digit_apart c e d n)
rests_digits (suc k) (g ∷ a₁) c a₂ b₂ d n = rw (one_letter g g refl) (rests_digits k a₁ c a₂ b₂ d n)

rests_longer : (d : List ℕ) (e : ℕ) (r : List ℕ) → rests d (d ++ (e ∷ r)) ≡ false
unfolding rests pairs
rests_longer [] e r = refl
rests_longer (c ∷ d) e r = rw (one_letter c c refl) (rests_longer d e r)

-- numeric suffixes that are not the same

pairs_digits : (a₁ : List ℕ) (c : ℕ) (a₂ b₂ : List ℕ) → (get_or b₂ 0 0 ≡ c → ⊥) → pairs eqb (a₁ ++ (c ∷ a₂)) (a₁ ++ b₂) ≡ false
unfolding pairs
pairs_digits [] c a₂ [] n = refl
pairs_digits [] c a₂ (e ∷ b₂) n = rw (ne_eqb c e (λ h. n (sym h)))
pairs_digits (g ∷ a₁) c a₂ b₂ n = rw (pairs_digits a₁ c a₂ b₂ n) (and-false (eqb g g))

not_one : (e : ℕ) (b : List ℕ) → (e ∷ b ≡ 49 ∷ [] → ⊥) → pairs eqb (e ∷ b) (49 ∷ []) ≡ false
unfolding pairs
not_one e [] n = rw (ne_eqb e 49 (λ h. n (ap (λ (k : ℕ). k ∷ []) h)))
not_one e (f ∷ b) n = and-false (eqb e 49)

-- A name that has the letters of the mnemonic, and then others or none: `said` and `left` of the name, and the `letters` of the mnemonic.
module _ (u l v : List ℕ) (same : alike u v ≡ true) (u-opens : opens u ≡ true) (v-opens : opens v ≡ true) where
  -- The mnemonic goes on with a letter that the name does not have.
  pub departs : (a : List ℕ) (d : ℕ) (b : List ℕ) → is_letter d ≡ true → either_case (get_or a 0 0) d ≡ false → matches (u ++ a) (v ++ (d ∷ b)) ≡ false
  departs a d b l h =
      let m = last_some d b (letter_no_digit d l) in
      parted u a v (d ∷ b) (opens_end u u-opens) (opens_end v v-opens)
      ∙ rw (m.1, rw (take-length a) at (after_same u v same (take (length a) a) (d ∷ b) (rests_apart (length a) a d b h)), after_same u v same (take (last_end a) a) (d ∷ take m.0 b) (rests_apart (last_end a) a d (take m.0 b) h))

  module _ (rest : List ℕ) (form : Form u l rest) where
    smalls : every is_small l ≡ true
    unfolding every
    smalls = elim form [ short_form p s n ↦ s | long_form p s ↦ rw s ]

    name_ends : Ends (u ++ l)
    name_ends = ends_behind u l (opens_end u u-opens) smalls

    parts : (z b : List ℕ) → matches ((u ++ l) ++ z) (v ++ b)
        ≡ (compares ((u ++ l) ++ z) (v ++ b)
        || (compares ((u ++ l) ++ take (last_end z) z) (v ++ take (last_end b) b) && same_numeric_suffix (drop (last_end z) z) (drop (last_end b) b)))
    parts z b = parted (u ++ l) z v b name_ends (opens_end v v-opens)

    -- the letters compare
    form_compares : compares ((u ++ l) ++ []) (v ++ []) ≡ true
    unfolding compares every
    form_compares = rw (append-nil (u ++ l), append-nil v) (go form)
      where
        go : Form u l rest → compares (u ++ l) v ≡ true
        go (short_form p s n) =
            or_right (alike (u ++ l) v)
            (rw (← long either_case u v same, take-append_seam u l, drop-append_seam u l)
            (and_both same (and_both p (every_weaker is_small may_leave_out small_left_out l s))))
        go (long_form p s) = rw (s, append-nil u) (or_left {a = alike u v} _ same)

    -- and nothing that follows them is the same
    others : (z b : List ℕ) → rests (l ++ z) b ≡ false → compares ((u ++ l) ++ z) (v ++ b) ≡ false
    others z b h = rw (append_assoc u l z) (after_same u v same (l ++ z) b h)

    longer : (e : ℕ) (b : List ℕ) → is_letter e ≡ false → compares ((u ++ l) ++ []) (v ++ (e ∷ b)) ≡ false
    unfolding rests pairs
    longer e b n = others [] (e ∷ b) (rests_small l [] e b smalls n refl)

    -- what is no numeric suffix of the name, whichever part of it is one
    no_suffix : (z : List ℕ) (e : ℕ) (b : List ℕ) → is_letter e ≡ false → same_numeric_suffix z (e ∷ b) ≡ false
        → (k : ℕ) → (compares ((u ++ l) ++ []) (v ++ take k (e ∷ b)) && same_numeric_suffix z (drop k (e ∷ b))) ≡ false
    no_suffix z e b n h zero = rw h (and-false (compares ((u ++ l) ++ []) (v ++ [])))
    no_suffix z e b n h (suc k) = rw (longer e (take k b) n)

    -- The name has a letter that the mnemonic does not have.
    pub letter_left : (c : ℕ) (a : List ℕ) → rest ≡ c ∷ a → is_letter c ≡ true → (b : List ℕ) → is_letter (get_or b 0 0) ≡ false → matches ((u ++ l) ++ (c ∷ a)) (v ++ b) ≡ false
    letter_left c a er lc b n =
        let m = last_some c a (letter_no_digit c lc) in
        parts (c ∷ a) b ∙ rw (m.1, rw (take-length b) at (other a (length b)), other (take m.0 a) (last_end b))
      where
        by_small : every is_small l ≡ true → is_capital c ≡ true → (a b : List ℕ) (k : ℕ) → is_letter (get_or b 0 0) ≡ false → rests (l ++ (c ∷ a)) (take k b) ≡ false
        by_small s cap a b zero n = rests_left l c a (capital_needed c cap)
        by_small s cap a [] (suc k) n = rests_left l c a (capital_needed c cap)
        by_small s cap a (e ∷ b) (suc k) n =
            rests_small l (c ∷ a) e (take k b) s n (rw (take-length a) at (rests_apart (suc (length a)) (c ∷ a) e (take k b) (letter_apart c e lc n)))

        other : (a : List ℕ) (k : ℕ) → compares ((u ++ l) ++ (c ∷ a)) (v ++ take k b) ≡ false
        other a k = go form
          where
            go : Form u l rest → compares ((u ++ l) ++ (c ∷ a)) (v ++ take k b) ≡ false
            go (short_form p s x) = others (c ∷ a) (take k b) (by_small s (capital c lc (rw er at x)) a b k n)
            go (long_form p s) = rw (s, append-nil u) (after_small u v same (c ∷ a) (take k b) p (letter_unlike c a b k lc n))

    -- Both have the same digits, and nothing more.
    pub same_digits : (d : List ℕ) → every is_digit d ≡ true → matches ((u ++ l) ++ d) (v ++ d) ≡ true
    same_digits d h = parts d d ∙ rw (digits_none d h) (or_right (compares ((u ++ l) ++ d) (v ++ d)) (and_both form_compares (suffix_itself d d refl)))

    -- The mnemonic goes on after the digits of the name.
    pub more_digits : (c : ℕ) (d : List ℕ) (e : ℕ) (r : List ℕ) → every is_digit (c ∷ d) ≡ true → matches ((u ++ l) ++ (c ∷ d)) (v ++ ((c ∷ d) ++ (e ∷ r))) ≡ false
    unfolding every rests pairs
    more_digits c d e r h =
        parts (c ∷ d) ((c ∷ d) ++ (e ∷ r))
        ∙ rw (digits_none (c ∷ d) h, others (c ∷ d) ((c ∷ d) ++ (e ∷ r)) (rests_small l (c ∷ d) c (d ++ (e ∷ r)) smalls no_letter (rests_longer (c ∷ d) e r)))
        (no_suffix (c ∷ d) c (d ++ (e ∷ r)) no_letter (sym (some_some' (c ∷ d) (c ∷ (d ++ (e ∷ r))) false (λ k. omega (arith, k)) (λ k. omega (arith, k)) (sym (differ eqb (c ∷ d) (c ∷ (d ++ (e ∷ r))) shorter)))) (last_end (c ∷ (d ++ (e ∷ r)))))
      where
        no_letter : is_letter c ≡ false
        no_letter = both_ways (is_letter c) false (λ k. clash (and_left (is_digit c) (every is_digit d) h) (letter_no_digit c k)) (λ k. clash k refl)

        shorter : length (c ∷ d) ≡ length (c ∷ (d ++ (e ∷ r))) → ⊥
        shorter k = omega (arith, k, length-append d (e ∷ r))

    -- The name has a digit that the mnemonic does not have, which has something else.
    pub other_digit : (a₁ : List ℕ) (c : ℕ) (a₂ b₂ : List ℕ) → every is_digit a₁ ≡ true → is_digit c ≡ true → (get_or b₂ 0 0 ≡ c → ⊥)
        → (e : ℕ) (b : List ℕ) → a₁ ++ b₂ ≡ e ∷ b → is_letter e ≡ false
        → matches ((u ++ l) ++ (a₁ ++ (c ∷ a₂))) (v ++ (a₁ ++ b₂)) ≡ false
    unfolding every last_end
    other_digit a₁ c a₂ b₂ ds d n e b eb le =
        parts (a₁ ++ (c ∷ a₂)) (a₁ ++ b₂) ∙ rw (rw (take-length (a₁ ++ b₂)) at (other a₂ (length (a₁ ++ b₂)))) (go (every is_digit a₂) refl)
      where
        z : List ℕ
        z = a₁ ++ (c ∷ a₂)

        other : (a : List ℕ) (k : ℕ) → compares ((u ++ l) ++ (a₁ ++ (c ∷ a))) (v ++ take k (a₁ ++ b₂)) ≡ false
        other a k = others (a₁ ++ (c ∷ a)) (take k (a₁ ++ b₂)) (by k (rests_digits k a₁ c a b₂ d n))
          where
            by : (k : ℕ) → rests (a₁ ++ (c ∷ a)) (take k (a₁ ++ b₂)) ≡ false → rests (l ++ (a₁ ++ (c ∷ a))) (take k (a₁ ++ b₂)) ≡ false
            by zero h = rw (← append_assoc l a₁ (c ∷ a)) (rests_left (l ++ a₁) c a (digit_needed c d))
            by (suc k) h = rw eb (rests_small l (a₁ ++ (c ∷ a)) e (take k b) smalls le (rw eb at h))

        go : (r : Bool) → every is_digit a₂ ≡ r → (compares ((u ++ l) ++ take (last_end z) z) (v ++ take (last_end (a₁ ++ b₂)) (a₁ ++ b₂)) && same_numeric_suffix (drop (last_end z) z) (drop (last_end (a₁ ++ b₂)) (a₁ ++ b₂))) ≡ false
        go true h =
            rw (digits_none z (every_join is_digit a₁ (c ∷ a₂) ds (and_both d h)), eb)
            (no_suffix z e b le (sym (some_some' z (e ∷ b) false (λ k. omega (arith, k, length-append a₁ (c ∷ a₂))) (λ k. omega (arith, k)) (sym (rw eb at (pairs_digits a₁ c a₂ b₂ n))))) (last_end (e ∷ b)))
        go false h =
            rw (last_after a₁ (c ∷ a₂) (rw (d, h)), h, take-append-add a₁ (c ∷ a₂) (suc (last_end a₂)), other (take (last_end a₂) a₂) (last_end (a₁ ++ b₂)))

    -- The mnemonic has no digits, and the name has: a `1` may be left out.
    pub one_left : matches ((u ++ l) ++ (49 ∷ [])) (v ++ []) ≡ true
    unfolding last_end every is_digit same_numeric_suffix pairs
    one_left = parts (49 ∷ []) [] ∙ or_right (compares ((u ++ l) ++ (49 ∷ [])) (v ++ [])) (and_both form_compares refl)

    pub digits_left : (c : ℕ) (a : List ℕ) → is_digit c ≡ true → (c ∷ a ≡ 49 ∷ [] → ⊥) → matches ((u ++ l) ++ (c ∷ a)) (v ++ []) ≡ false
    unfolding last_end
    digits_left c a d n = parts (c ∷ a) [] ∙ rw (others (c ∷ a) [] (rests_left l c a (digit_needed c d)), d) (go (every is_digit a))
      where
        go : (r : Bool) → (compares ((u ++ l) ++ take (cond r 0 (suc (last_end a))) (c ∷ a)) (v ++ []) && same_numeric_suffix (drop (cond r 0 (suc (last_end a))) (c ∷ a)) []) ≡ false
        go true = rw (← some_none' (c ∷ a) [] false (λ k. omega (arith, k)) refl (sym (not_one c a n))) (and-false (compares ((u ++ l) ++ []) (v ++ [])))
        go false = rw (others (c ∷ take (last_end a) a) [] (rests_left l c (take (last_end a) a) (digit_needed c d)))

    -- The name has no digits, and the mnemonic goes on: a `1` may be added.
    pub one_added_lem : matches ((u ++ l) ++ []) (v ++ (49 ∷ [])) ≡ true
    unfolding last_end every is_digit same_numeric_suffix pairs
    one_added_lem = parts [] (49 ∷ []) ∙ or_right (compares ((u ++ l) ++ []) (v ++ (49 ∷ []))) (and_both form_compares refl)

    pub more_added : (e : ℕ) (b : List ℕ) → is_letter e ≡ false → (e ∷ b ≡ 49 ∷ [] → ⊥) → matches ((u ++ l) ++ []) (v ++ (e ∷ b)) ≡ false
    unfolding last_end
    more_added e b le n =
        parts [] (e ∷ b) ∙ rw (longer e b le)
        (no_suffix [] e b le (sym (none_some' [] (e ∷ b) false refl (λ k. omega (arith, k)) (sym (not_one e b n)))) (last_end (e ∷ b)))
