-- What a kind tells of its bytes.
use Prim.Native.Nat.{ℕ}
use mathlib.Core.Path.{◌≡◌, refl}
use mathlib.Core.Bool.{Bool, true, ◌||◌}
use Rattle.kind.specs.Class.{is, is_white_space, is_capital, is_small, is_digit, is_letter, in_mnemonic, is_sign, is_quote, is_ascii}
use Rattle.kind.specs.Kind.{kind_of}
use Rattle.kind.specs.declared.Kind.{Kind}
use Rattle.kind.specs.declared.Kind.TheVariants as kind
use Rattle.kind.proofs.Tests.{by_test, or_left, or_right}

-- a class that the bytes of a kind are of; for the kinds that are not named here, any byte at all
abbrev class_of : Kind → ℕ → Bool
class_of kind.Blank b = is_white_space b
class_of kind.Star b = is "*" b
class_of kind.Colon b = is ":" b
class_of kind.Small b = is_letter b
class_of kind.Capital b = is_letter b
class_of k b = true

module _ (b : ℕ) where
  -- each byte is of the class of its kind
  of_its_class : class_of (kind_of b) b ≡ true
  unfolding kind_of is_letter
  of_its_class =
      by_test P (is "\n" b) (λ e. refl) (λ _. by_test P (is_white_space b) (λ e. e) (λ _. by_test P (is "*" b) (λ e. e)
      (λ _. by_test P (is ":" b) (λ e. e) (λ _. by_test P (is "?" b) (λ e. refl) (λ _. by_test P (is ";" b) (λ e. refl)
      (λ _. by_test P (is "," b) (λ e. refl) (λ _. by_test P (is_sign b) (λ e. refl) (λ _. by_test P (is "." b) (λ e. refl)
      (λ _. by_test P (is "#" b) (λ e. refl) (λ _. by_test P (is_quote b) (λ e. refl) (λ _. by_test P (is "(" b) (λ e. refl)
      (λ _. by_test P (is "_" b) (λ e. refl) (λ _. by_test P (is_digit b) (λ e. refl)
      (λ _. by_test P (is_small b) (λ e. or_right (is_capital b) e) (λ _. by_test P (is_capital b) (λ e. or_left (is_small b) e)
      (λ _. by_test P (is_ascii b) (λ e. refl) (λ e. refl)))))))))))))))))
    where
      P : Kind → Type 0
      P k = class_of k b ≡ true

  pub blank_white : kind_of b ≡ kind.Blank → is_white_space b ≡ true
  blank_white e = rw e at of_its_class

  pub star_is : kind_of b ≡ kind.Star → is "*" b ≡ true
  star_is e = rw e at of_its_class

  pub colon_is : kind_of b ≡ kind.Colon → is ":" b ≡ true
  colon_is e = rw e at of_its_class

  pub small_letter : kind_of b ≡ kind.Small → is_letter b ≡ true
  small_letter e = rw e at of_its_class

  pub capital_letter : kind_of b ≡ kind.Capital → is_letter b ≡ true
  capital_letter e = rw e at of_its_class

  letter_in : is_letter b ≡ true → in_mnemonic b ≡ true
  unfolding in_mnemonic
  letter_in e = or_left (is_digit b || is "_" b) e

  pub small_in : kind_of b ≡ kind.Small → in_mnemonic b ≡ true
  small_in e = letter_in (small_letter e)

  pub capital_in : kind_of b ≡ kind.Capital → in_mnemonic b ≡ true
  capital_in e = letter_in (capital_letter e)
