-- Laws of coordinates in words, as the code meets them.
use Rattle.std.specs.Prelude.{Result, Ok, Err}
use Prim.Native.Nat.{ℕ}
use mathlib.Core.Path.{◌≡◌, refl}
use mathlib.Core.List.{List, [], ◌∷◌}
use native.Mathlib.Omega.{arith}
use lib.IntN.{ℤ, pos}
use lib.ListN.{length, set}
use borrow.Author.Rules.{rules}
use Rattle.error.specs.{Code.code_of, declared.ErrorCode.ErrorCode, declared.ErrorCode.TheVariants.NoSlotLeft}
use Rattle.coordinate.specs.Coordinate.{coordinate_of, written, pair_of, triple_of}
use Rattle.unsigned_coordinate.specs.Unsigned.{unsigned_of, unsigned_pair_of, unsigned_triple_of}
use Rattle.coordinate_words.specs.Coordinates.{one_in, two_in, three_in, coordinates_in, unsigned_one_in, unsigned_two_in, unsigned_three_in, unsigned_in}

-- lists of one, two and three, and of any other length
module _ {A : Type 0} where
  one : (l : List A) → length l ≡ 1 → (a : A) × (l ≡ a ∷ [])
  one (a ∷ []) h = (a, refl)
  one [] h = absurd (omega arith)
  one (a ∷ b ∷ l) h = absurd (omega arith)

  two : (l : List A) → length l ≡ 2 → (a b : A) × (l ≡ a ∷ b ∷ [])
  two (a ∷ b ∷ []) h = (a, b, refl)
  two [] h = absurd (omega arith)
  two (a ∷ []) h = absurd (omega arith)
  two (a ∷ b ∷ c ∷ l) h = absurd (omega arith)

  three : (l : List A) → length l ≡ 3 → (a b c : A) × (l ≡ a ∷ b ∷ c ∷ [])
  three (a ∷ b ∷ c ∷ []) h = (a, b, c, refl)
  three [] h = absurd (omega arith)
  three (a ∷ []) h = absurd (omega arith)
  three (a ∷ b ∷ []) h = absurd (omega arith)
  three (a ∷ b ∷ c ∷ d ∷ l) h = absurd (omega arith)

  other : (P : List A → Type 0) → P [] → ((a b c d : A) (l : List A) → P (a ∷ b ∷ c ∷ d ∷ l))
      → (l : List A) → (length l ≡ 1 → ⊥) → (length l ≡ 2 → ⊥) → (length l ≡ 3 → ⊥) → P l
  other P p q [] h i j = p
  other P p q (a ∷ []) h i j = absurd (h refl)
  other P p q (a ∷ b ∷ []) h i j = absurd (i refl)
  other P p q (a ∷ b ∷ c ∷ []) h i j = absurd (j refl)
  other P p q (a ∷ b ∷ c ∷ d ∷ l) h i j = q a b c d l

-- what was read, by the number of words and its case
module _ (s : List ℕ) (l : List ℤ) where
  module _ (h : length l ≡ 1) (x : Result ℤ ErrorCode) (ex : x ≡ coordinate_of s) where
    pub one_refused' : (e : ErrorCode) (n : ℤ) → n ≡ code_of e → x ≡ Err e → record { code = n; words = l } ≡ coordinates_in s l
    unfolding coordinates_in one_in
    one_refused' e n en q = rw (en, (one l h).1, ← ex, q)

    pub one_read' : (a : ℤ) → x ≡ Ok a → record { code = pos 0; words = set l 0 a } ≡ coordinates_in s l
    unfolding coordinates_in one_in
    one_read' a q = rw ((one l h).1, ← ex, q)

  module _ (h : length l ≡ 2) (x : Result (ℤ × ℤ) ErrorCode) (ex : x ≡ pair_of (written s)) where
    pub two_refused' : (e : ErrorCode) (n : ℤ) → n ≡ code_of e → x ≡ Err e → record { code = n; words = l } ≡ coordinates_in s l
    unfolding coordinates_in two_in
    two_refused' e n en q = rw (en, (two l h).2, ← ex, q)

    pub two_read' : (a b : ℤ) → x ≡ Ok (a, b) → record { code = pos 0; words = set (set l 0 a) 1 b } ≡ coordinates_in s l
    unfolding coordinates_in two_in
    two_read' a b q = rw ((two l h).2, ← ex, q)

  module _ (h : length l ≡ 3) (x : Result (ℤ × ℤ × ℤ) ErrorCode) (ex : x ≡ triple_of (written s)) where
    pub three_refused' : (e : ErrorCode) (n : ℤ) → n ≡ code_of e → x ≡ Err e → record { code = n; words = l } ≡ coordinates_in s l
    unfolding coordinates_in three_in
    three_refused' e n en q = rw (en, (three l h).3, ← ex, q)

    pub three_read' : (a b c : ℤ) → x ≡ Ok (a, b, c) → record { code = pos 0; words = set (set (set l 0 a) 1 b) 2 c } ≡ coordinates_in s l
    unfolding coordinates_in three_in
    three_read' a b c q = rw ((three l h).3, ← ex, q)

  pub other' : (n : ℤ) → (length l ≡ 1 → ⊥) → (length l ≡ 2 → ⊥) → (length l ≡ 3 → ⊥) → n ≡ code_of NoSlotLeft → record { code = n; words = l } ≡ coordinates_in s l
  unfolding coordinates_in
  other' n h i j en = rw en (other (λ (l : List ℤ). record { code = code_of NoSlotLeft; words = l } ≡ coordinates_in s l) refl (λ a b c d l. refl) l h i j)

pub ruleset laws = (rules, one_refused', one_read', two_refused', two_read', three_refused', three_read', other')

module _ (s : List ℕ) (l : List ℕ) where
  module _ (h : length l ≡ 1) (x : Result ℕ ErrorCode) (ex : x ≡ unsigned_of (coordinate_of s)) where
    pub unsigned_one_refused' : (e : ErrorCode) (n : ℤ) → n ≡ code_of e → x ≡ Err e → record { code = n; words = l } ≡ unsigned_in s l
    unfolding unsigned_in unsigned_one_in
    unsigned_one_refused' e n en q = rw (en, (one l h).1, ← ex, q)

    pub unsigned_one_read' : (a : ℕ) → x ≡ Ok a → record { code = pos 0; words = set l 0 a } ≡ unsigned_in s l
    unfolding unsigned_in unsigned_one_in
    unsigned_one_read' a q = rw ((one l h).1, ← ex, q)

  module _ (h : length l ≡ 2) (x : Result (ℕ × ℕ) ErrorCode) (ex : x ≡ unsigned_pair_of (pair_of (written s))) where
    pub unsigned_two_refused' : (e : ErrorCode) (n : ℤ) → n ≡ code_of e → x ≡ Err e → record { code = n; words = l } ≡ unsigned_in s l
    unfolding unsigned_in unsigned_two_in
    unsigned_two_refused' e n en q = rw (en, (two l h).2, ← ex, q)

    pub unsigned_two_read' : (a b : ℕ) → x ≡ Ok (a, b) → record { code = pos 0; words = set (set l 0 a) 1 b } ≡ unsigned_in s l
    unfolding unsigned_in unsigned_two_in
    unsigned_two_read' a b q = rw ((two l h).2, ← ex, q)

  module _ (h : length l ≡ 3) (x : Result (ℕ × ℕ × ℕ) ErrorCode) (ex : x ≡ unsigned_triple_of (triple_of (written s))) where
    pub unsigned_three_refused' : (e : ErrorCode) (n : ℤ) → n ≡ code_of e → x ≡ Err e → record { code = n; words = l } ≡ unsigned_in s l
    unfolding unsigned_in unsigned_three_in
    unsigned_three_refused' e n en q = rw (en, (three l h).3, ← ex, q)

    pub unsigned_three_read' : (a b c : ℕ) → x ≡ Ok (a, b, c) → record { code = pos 0; words = set (set (set l 0 a) 1 b) 2 c } ≡ unsigned_in s l
    unfolding unsigned_in unsigned_three_in
    unsigned_three_read' a b c q = rw ((three l h).3, ← ex, q)

  pub unsigned_other' : (n : ℤ) → (length l ≡ 1 → ⊥) → (length l ≡ 2 → ⊥) → (length l ≡ 3 → ⊥) → n ≡ code_of NoSlotLeft → record { code = n; words = l } ≡ unsigned_in s l
  unfolding unsigned_in
  unsigned_other' n h i j en = rw en (other (λ (l : List ℕ). record { code = code_of NoSlotLeft; words = l } ≡ unsigned_in s l) refl (λ a b c d l. refl) l h i j)

pub ruleset unsigned_laws = (rules, unsigned_one_refused', unsigned_one_read', unsigned_two_refused', unsigned_two_read', unsigned_three_refused', unsigned_three_read', unsigned_other')
