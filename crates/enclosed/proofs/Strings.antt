-- Laws of strings, as the code meets them.
use Rattle.std.specs.Prelude.{Result}
use Prim.Native.Nat.{ℕ, suc, ◌+◌, ◌≤◌, ◌<◌}
use mathlib.Core.Path.{◌≡◌, sym, ap, ◌∙◌}
use mathlib.Core.List.{List, [], ◌∷◌}
use mathlib.Core.Bool.{true, false}
use native.Mathlib.Omega.{arith}
use lib.Dec.{eqb}
use lib.ListN.{length, get_or, drop, drop_of_length-le}
use lib.Seq.{drop-cons}
use borrow.Author.Rules.{rules}
use borrow.Author.Tests.{le-leb, lt-leb, eq-eqb, ne_eqb}
use Rattle.error.specs.declared.ErrorCode.TheVariants.{InvalidCharacter, InvalidStringData, SuffixNotAllowed}
use Rattle.kind.specs.Class.{is_ascii}
use Rattle.token.specs.{View.view_of, declared.Token.TheVariants.StringProgramData}
use Rattle.item.specs.{Follow.refused, Follow.followed}
use Rattle.enclosed.specs.String.{in_string, string_end, closed, string_data}
use Rattle.error.specs.declared.ErrorCode.{ErrorCode}
use Rattle.token.specs.declared.Token.{Token}

pub plain : (q b : ℕ) (t : List ℕ) → eqb b q ≡ false → is_ascii b ≡ true → in_string q (b ∷ t) ≡ suc (in_string q t)
unfolding in_string
plain q b [] e a = rw (e, a)
plain q b (c ∷ t) e a = rw (e, a)

pub foreign : (q b : ℕ) (t : List ℕ) → eqb b q ≡ false → is_ascii b ≡ false → in_string q (b ∷ t) ≡ 0
unfolding in_string
foreign q b [] e a = rw (e, a)
foreign q b (c ∷ t) e a = rw (e, a)

module _ (q b : ℕ) (t : List ℕ) where
  pub doubled : (c : ℕ) → eqb b q ≡ true → eqb c q ≡ true → in_string q (b ∷ c ∷ t) ≡ suc (suc (in_string q t))
  unfolding in_string
  doubled c e f = rw (e, f)

  pub single : (c : ℕ) → eqb b q ≡ true → eqb c q ≡ false → in_string q (b ∷ c ∷ t) ≡ 0
  unfolding in_string
  single c e f = rw (e, f)

module _ (q : ℕ) (s : List ℕ) (at i : ℕ) (inv : string_end q s at ≡ string_end q s i) where
  pub past' : length s ≤ i → i ≡ string_end q s at
  unfolding string_end in_string
  past' h = sym (inv ∙ rw (drop_of_length-le s h) (omega arith))

  module _ (h : i < length s) where
    module _ (e : get_or s i 0 ≡ q) (next : ℕ) (en : next ≡ i + 1) where
      pub last' : length s ≤ next → i ≡ string_end q s at
      unfolding string_end in_string
      last' k =
          let f : suc i ≡ next = omega arith in
          sym (inv ∙ rw (drop-cons s i 0 h, f, drop_of_length-le s k, eq-eqb (get_or s i 0) q e) (omega arith))

      module _ (k : next < length s) where
        two : drop i s ≡ get_or s i 0 ∷ get_or s next 0 ∷ drop (suc next) s
        two =
            let f : suc i ≡ next = omega arith in
            drop-cons s i 0 h ∙ ap (λ (t : List ℕ). get_or s i 0 ∷ t) (rw f (drop-cons s next 0 k))

        pub closes' : (get_or s next 0 ≡ q → ⊥) → i ≡ string_end q s at
        unfolding string_end
        closes' n =
            sym (inv ∙ rw (two, single q (get_or s i 0) (drop (suc next) s) (get_or s next 0) (eq-eqb (get_or s i 0) q e) (ne_eqb (get_or s next 0) q n)) (omega arith))

        pub stays' : (j : ℕ) → get_or s next 0 ≡ q → j ≡ i + 2 → string_end q s at ≡ string_end q s j
        unfolding string_end
        stays' j f ej =
            let g : suc next ≡ j = omega arith in
            inv ∙ rw (two, doubled q (get_or s i 0) (drop (suc next) s) (get_or s next 0) (eq-eqb (get_or s i 0) q e) (eq-eqb (get_or s next 0) q f), g) (omega arith)

    module _ (n : get_or s i 0 ≡ q → ⊥) where
      pub foreign' : 128 ≤ get_or s i 0 → i ≡ string_end q s at
      unfolding string_end is_ascii
      foreign' k = sym (inv ∙ rw (drop-cons s i 0 h, foreign q (get_or s i 0) (drop (suc i) s) (ne_eqb (get_or s i 0) q n) (lt-leb (get_or s i 0) 127 (omega arith))) (omega arith))

      pub plain' : (j : ℕ) → get_or s i 0 < 128 → j ≡ i + 1 → string_end q s at ≡ string_end q s j
      unfolding string_end is_ascii
      plain' j k ej =
          let g : suc i ≡ j = omega arith in
          inv ∙ rw (drop-cons s i 0 h, plain q (get_or s i 0) (drop (suc i) s) (ne_eqb (get_or s i 0) q n) (le-leb (get_or s i 0) 127 (omega arith)), g) (omega arith)

module _ (q : ℕ) (s : List ℕ) (at end : ℕ) (e : end ≡ string_end q s at) where
  pub unclosed' : length s ≤ end → refused InvalidStringData ≡ string_data q s at
  unfolding string_data closed
  unclosed' h = rw (← e, le-leb (length s) end h)

  module _ (h : end < length s) where
    pub not_ascii' : (get_or s end 0 ≡ q → ⊥) → refused InvalidCharacter ≡ string_data q s at
    unfolding string_data closed
    not_ascii' n = rw (← e, lt-leb (length s) end h, ne_eqb (get_or s end 0) q n)

    pub closed' : get_or s end 0 ≡ q → (r : Result (Token × ℕ) ErrorCode) → r ≡ followed (StringProgramData (view_of at end)) SuffixNotAllowed s (end + 1) → r ≡ string_data q s at
    unfolding string_data closed
    closed' f r er = er ∙ rw (← e, lt-leb (length s) end h, eq-eqb (get_or s end 0) q f)

pub ruleset laws = (rules, past', last', closes', stays', foreign', plain', unclosed', not_ascii', closed')
