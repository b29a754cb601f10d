-- The value of a digit, by the ranges of its byte.
use Prim.Native.Nat.{ℕ, ◌+◌, ◌-◌, ◌≤◌, ◌<◌}
use mathlib.Core.Path.{◌≡◌, ◌∙◌}
use mathlib.Core.Bool.{true, false, ◌&&◌}
use native.Mathlib.Omega.{arith}
use mathlib.Core.Logic.{⊎_elim}
use lib.Dec.{leb}
use borrow.Author.Rules.{rules}
use borrow.Author.Tests.{le-leb, lt-leb, lt-ltb, le-ltb}
use Rattle.kind.proofs.{Tests.less_or_not, Classes.under, Classes.onward}
use Rattle.kind.specs.Class.{is_digit}
use Rattle.integer.specs.Digit.{digit_of, is_digit_of}

module _ (b low high : ℕ) (h : low ≤ b) where
  inside : b ≤ high → (leb low b && leb b high) ≡ true
  inside k = onward low high b h ∙ le-leb b high k

  over : high < b → (leb low b && leb b high) ≡ false
  over k = onward low high b h ∙ lt-leb b high k

module _ (b : ℕ) where
  pub low' : b < 48 → 16 ≡ digit_of b
  unfolding digit_of is_digit
  low' h = rw (under 48 57 b h, under 65 70 b (omega arith), under 97 102 b (omega arith))

  module _ (h₁ : 48 ≤ b) where
    pub digit' : b ≤ 57 → b - 48 ≡ digit_of b
    unfolding digit_of is_digit
    digit' k = rw (inside b 48 57 h₁ k)

    module _ (h₂ : 57 < b) where
      pub between' : b < 65 → 16 ≡ digit_of b
      unfolding digit_of is_digit
      between' k = rw (over b 48 57 h₁ h₂, under 65 70 b k, under 97 102 b (omega arith))

      module _ (h₃ : 65 ≤ b) where
        pub capital' : b ≤ 70 → b - 65 + 10 ≡ digit_of b
        unfolding digit_of is_digit
        capital' k = rw (over b 48 57 h₁ h₂, inside b 65 70 h₃ k)

        module _ (h₄ : 70 < b) where
          pub middle' : b < 97 → 16 ≡ digit_of b
          unfolding digit_of is_digit
          middle' k = rw (over b 48 57 h₁ h₂, over b 65 70 h₃ h₄, under 97 102 b k)

          module _ (h₅ : 97 ≤ b) where
            pub small' : b ≤ 102 → b - 97 + 10 ≡ digit_of b
            unfolding digit_of is_digit
            small' k = rw (over b 48 57 h₁ h₂, over b 65 70 h₃ h₄, inside b 97 102 h₅ k)

            pub high' : 102 < b → 16 ≡ digit_of b
            unfolding digit_of is_digit
            high' k = rw (over b 48 57 h₁ h₂, over b 65 70 h₃ h₄, over b 97 102 h₅ k)

-- the digits of base ten are those of the grammar
pub decimal : (b : ℕ) → is_digit_of 10 b ≡ is_digit b
unfolding is_digit_of is_digit
decimal b =
    ⊎_elim
    (λ h. rw (← low' b h, under 48 57 b h))
    (λ h₁.
    ⊎_elim
    (λ h₂. rw (over b 48 57 h₁ h₂) (le-ltb (digit_of b) 10 (beyond h₁ h₂)))
    (λ k. rw (← digit' b h₁ k, inside b 48 57 h₁ k) (lt-ltb (b - 48) 10 (omega arith)))
    (less_or_not 57 b))
    (less_or_not b 48)
  where
    beyond : 48 ≤ b → 57 < b → 10 ≤ digit_of b
    beyond h₁ h₂ =
        ⊎_elim
        (λ k. omega (arith, between' b h₁ h₂ k))
        (λ h₃.
        ⊎_elim
        (λ h₄.
        ⊎_elim
        (λ k. omega (arith, middle' b h₁ h₂ h₃ h₄ k))
        (λ h₅.
        ⊎_elim
        (λ k. omega (arith, high' b h₁ h₂ h₃ h₄ h₅ k))
        (λ k. omega (arith, small' b h₁ h₂ h₃ h₄ h₅ k))
        (less_or_not 102 b))
        (less_or_not b 97))
        (λ k. omega (arith, capital' b h₁ h₂ h₃ k))
        (less_or_not 70 b))
        (less_or_not b 65)

pub ruleset laws = (rules, low', digit', between', capital', middle', small', high')
