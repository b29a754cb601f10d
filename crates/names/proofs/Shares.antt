-- The test for a shared spelling is exact on names.
use Prim.Native.Nat.{ℕ}
use mathlib.Core.Path.{◌≡◌, refl, sym, ap, ap₂, ◌∙◌}
use mathlib.Core.Logic.{◌⊎◌, inl, inr, ⊎_elim}
use mathlib.Core.List.{List, [], ◌∷◌, ◌++◌, map}
use mathlib.Core.Bool.{Bool, true, false, cond, ◌&&◌, ◌||◌}
use native.Mathlib.Omega.{arith}
use lib.Dec.{eqb}
use lib.ListN.{length}
use lib.Seq.{take-append_seam, drop-append_seam}
use borrow.Author.Tests.{eqb-true, eq-eqb}
use Rattle.kind.proofs.Tests.{either, or_left, or_right, and_left, and_right, and_both, clash}
use Rattle.util.specs.Decides.{Decides}
use Rattle.util.proofs.Decided.{by_both}
use Rattle.mnemonic.specs.Mnemonic.{pairs, folded, either_case, alike, same, compares, numeric_suffix_start, stem, numeric_suffix, same_numeric_suffix}
use Rattle.mnemonic.specs.Spelling.{Name, long, short, spells}
use Rattle.names.proofs.Alike.{same_itself, suffix_itself, start_behind}
use Rattle.names.proofs.Spelling.{form_compares, forms_of, short_ends}
use Rattle.name.specs.Share.{form_of, shares, Share}

-- texts alike are one text in one case

alike_out : (x y : List ℕ) → alike x y ≡ true → map folded x ≡ map folded y
unfolding pairs either_case
alike_out [] [] h = refl
alike_out [] (d ∷ y) h = clash h refl
alike_out (c ∷ x) [] h = clash h refl
alike_out (c ∷ x) (d ∷ y) h =
    ap₂ ◌∷◌ (eqb-true (folded c) (folded d) (and_left (eqb (folded c) (folded d)) _ h)) (alike_out x y (and_right (eqb (folded c) (folded d)) _ h))

alike_in : (x y : List ℕ) → map folded x ≡ map folded y → alike x y ≡ true
unfolding pairs either_case
alike_in [] [] h = refl
alike_in [] (d ∷ y) h = absurd (omega (arith, ap length h))
alike_in (c ∷ x) [] h = absurd (omega (arith, ap length h))
alike_in (c ∷ x) (d ∷ y) h =
    let e : folded c ≡ folded d = cc in
    let t : map folded x ≡ map folded y = cc in
    and_both (eq-eqb (folded c) (folded d) e) (alike_in x y t)

alike_join : (x y w : List ℕ) → alike x w ≡ true → alike y w ≡ true → alike x y ≡ true
alike_join x y w h k = alike_in x y (alike_out x w h ∙ sym (alike_out y w k))

alike_itself : (x : List ℕ) → alike x x ≡ true
alike_itself x = alike_in x x refl

-- numeric suffixes that say the same are one suffix, where 1 is left out

same_out : (x y : List ℕ) → same x y ≡ true → x ≡ y
unfolding pairs
same_out [] [] h = refl
same_out [] (d ∷ y) h = clash h refl
same_out (c ∷ x) [] h = clash h refl
same_out (c ∷ x) (d ∷ y) h = ap₂ ◌∷◌ (eqb-true c d (and_left (eqb c d) (pairs eqb x y) h)) (same_out x y (and_right (eqb c d) (pairs eqb x y) h))

same_in : (x y : List ℕ) → x ≡ y → same x y ≡ true
same_in x y e = rw (← e) (same_itself x)

abbrev one : List ℕ
one = 49 ∷ []

said : List ℕ → List ℕ
said x = cond (same x one) [] x

suffix_out : (x y : List ℕ) → same_numeric_suffix x y ≡ true → said x ≡ said y
unfolding same_numeric_suffix said pairs
suffix_out x y h = ⊎_elim (λ p. ap said (same_out x y p)) (λ p. ⊎_elim first second (either (same x [] && same y one) _ p)) (either (same x y) _ h)
  where
    first : (same x [] && same y one) ≡ true → said x ≡ said y
    first p = let a : x ≡ [] = same_out x [] (and_left (same x []) (same y one) p) in rw (and_right (same x []) (same y one) p, a)

    second : (same x one && same y []) ≡ true → said x ≡ said y
    second p = let a : y ≡ [] = same_out y [] (and_right (same x one) (same y []) p) in rw (and_left (same x one) (same y []) p, a)

suffix_in : (x y : List ℕ) → said x ≡ said y → same_numeric_suffix x y ≡ true
unfolding same_numeric_suffix said
suffix_in x y h = go (same x one) refl (same y one) refl h
  where
    go : (a : Bool) → same x one ≡ a → (b : Bool) → same y one ≡ b → cond a [] x ≡ cond b [] y
        → (same x y || (same x [] && same y one || same x one && same y [])) ≡ true
    go true m true n q = or_left {a = same x y} _ (same_in x y (same_out x one m ∙ sym (same_out y one n)))
    go true m false n q = or_right (same x y) (or_right (same x [] && same y one) (and_both m (same_in y [] (sym q))))
    go false m true n q = or_right (same x y) (or_left {a = same x [] && same y one} _ (and_both (same_in x [] q) n))
    go false m false n q = or_left {a = same x y} _ (same_in x y q)

suffix_join : (x y w : List ℕ) → same_numeric_suffix x w ≡ true → same_numeric_suffix y w ≡ true → same_numeric_suffix x y ≡ true
suffix_join x y w h k = suffix_in x y (suffix_out x w h ∙ sym (suffix_out y w k))

-- a form of a name

Form : List ℕ → List ℕ → Type 0
Form n x = (x ≡ long n) ⊎ (x ≡ short n)

-- the word's letters are a form of the name, and its number is the name's
record Spelt (n w : List ℕ) : Type 0 where
  form : List ℕ
  of : Form n form
  letters : alike form (stem w) ≡ true
  number : same_numeric_suffix (numeric_suffix n) (numeric_suffix w) ≡ true

spelt : (n w : List ℕ) → spells n w ≡ true → Spelt n w
unfolding spells Form
spelt n w h =
    let k = and_right (alike (long n) (stem w) || alike (short n) (stem w)) _ h in
    ⊎_elim (λ a. record { form = long n; of = inl refl; letters = a; number = k }) (λ a. record { form = short n; of = inr refl; letters = a; number = k })
    (either (alike (long n) (stem w)) _ (and_left (alike (long n) (stem w) || alike (short n) (stem w)) _ h))

by_form : (n x y : List ℕ) → Form n x → alike x y ≡ true → (alike (long n) y || alike (short n) y) ≡ true
unfolding Form
by_form n x y (inl e) h = or_left {a = alike (long n) y} _ (rw e at h)
by_form n x y (inr e) h = or_right (alike (long n) y) (rw e at h)

by_spelt : (n w : List ℕ) → Spelt n w → spells n w ≡ true
unfolding spells
by_spelt n w s = and_both (by_form n s.form (stem w) s.of s.letters) s.number

-- the word that is a form of a name with the name's number
record Word (n x : List ℕ) : Type 0 where
  word : List ℕ
  stem_is : stem word ≡ x
  suffix_is : numeric_suffix word ≡ numeric_suffix n

word_of : (n x : List ℕ) → Name n → Form n x → Word n x
unfolding Form
word_of n x name (inl e) = record { word = n; stem_is = sym e; suffix_is = refl }
word_of n x name (inr e) =
    let d = numeric_suffix n in
    let at : numeric_suffix_start (x ++ d) ≡ length x = rw e (start_behind (short n) d (short_ends n name) (rw (forms_of n name).number name.all_digit)) in
    record { word = x ++ d; stem_is = rw at (take-append_seam x d); suffix_is = rw at (drop-append_seam x d) }

module _ (a b : List ℕ) (na : Name a) (nb : Name b) where
  -- a form of the one that is a form of the other
  shared : (x : List ℕ) → Form b x → compares (stem a) x ≡ true → same_numeric_suffix (numeric_suffix a) (numeric_suffix b) ≡ true → Share a b
  unfolding spells
  shared x f h k =
      let w = word_of b x nb f in
      record {
        word = w.word;
        one = rw (w.stem_is, w.suffix_is) (and_both (sym (form_compares a na x) ∙ h) k);
        other = rw (w.stem_is, w.suffix_is) (and_both (by_form b x x f (alike_itself x)) (suffix_itself (numeric_suffix b) (numeric_suffix b) refl));
      }

  out : shares a b ≡ true → Share a b
  unfolding shares form_of Form
  out h =
      let k = and_right (form_of (stem a) (stem b)) (same_numeric_suffix (numeric_suffix a) (numeric_suffix b)) h in
      ⊎_elim (λ c. shared (long b) (inl refl) c k) (λ c. shared (short b) (inr refl) c k)
      (either (compares (stem a) (stem b)) _ (and_left (form_of (stem a) (stem b)) (same_numeric_suffix (numeric_suffix a) (numeric_suffix b)) h))

  compared : (x y : List ℕ) → Form a x → alike x y ≡ true → compares (stem a) y ≡ true
  compared x y f h = form_compares a na y ∙ by_form a x y f h

  in_form : (x y : List ℕ) → Form a x → Form b y → alike x y ≡ true → form_of (stem a) (stem b) ≡ true
  unfolding form_of Form
  in_form x y f (inl e) h = or_left {a = compares (stem a) (stem b)} _ (compared x (long b) f (rw e at h))
  in_form x y f (inr e) h = or_right (compares (stem a) (stem b)) (compared x (short b) f (rw e at h))

  into : Share a b → shares a b ≡ true
  unfolding shares
  into s =
      let p = spelt a s.word s.one in
      let q = spelt b s.word s.other in
      and_both (in_form p.form q.form p.of q.of (alike_join p.form q.form (stem s.word) p.letters q.letters))
      (suffix_join (numeric_suffix a) (numeric_suffix b) (numeric_suffix s.word) p.number q.number)

  pub sharing : Decides (Share a b) (shares a b)
  sharing = by_both (shares a b) out into
