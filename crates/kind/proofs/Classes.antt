-- Ranges of characters, and classes that have no character in common.
use Prim.Native.Nat.{ℕ, ◌≤◌, ◌<◌}
use mathlib.Core.Path.{◌≡◌}
use mathlib.Core.Bool.{true, false, ◌&&◌, and-false}
use native.Mathlib.Omega.{arith}
use lib.Dec.{leb}
use borrow.Author.Tests.{leb-true, le-leb, lt-leb}
use Rattle.kind.specs.Class.{is_capital, is_small, is_digit}
use Rattle.kind.proofs.Tests.{and_left, and_right}

-- a range tested from below its first character, and from there on
pub under : (l h b : ℕ) → b < l → (leb l b && leb b h) ≡ false
under l h b k = rw (lt-leb l b k)

pub onward : (l h b : ℕ) → l ≤ b → (leb l b && leb b h) ≡ leb b h
onward l h b k = rw (le-leb l b k)

-- a character of one range is in no range that lies below it, and in none above
pub above : (l h l' h' b : ℕ) → h' < l → (leb l b && leb b h) ≡ true → (leb l' b && leb b h') ≡ false
above l h l' h' b k e = rw (lt-leb b h' (omega (arith, leb-true l b (and_left (leb l b) (leb b h) e)))) (and-false (leb l' b))

pub below : (l h l' h' b : ℕ) → h < l' → (leb l b && leb b h) ≡ true → (leb l' b && leb b h') ≡ false
below l h l' h' b k e = under l' h' b (omega (arith, leb-true b h (and_right (leb l b) (leb b h) e)))

module _ (b : ℕ) where
  pub small_no_capital : is_small b ≡ true → is_capital b ≡ false
  unfolding is_small is_capital
  small_no_capital = above 97 122 65 90 b (omega arith)

  pub small_no_digit : is_small b ≡ true → is_digit b ≡ false
  unfolding is_small is_digit
  small_no_digit = above 97 122 48 57 b (omega arith)

  pub capital_no_digit : is_capital b ≡ true → is_digit b ≡ false
  unfolding is_capital is_digit
  capital_no_digit = above 65 90 48 57 b (omega arith)

  pub capital_no_small : is_capital b ≡ true → is_small b ≡ false
  unfolding is_capital is_small
  capital_no_small = below 65 90 97 122 b (omega arith)

  pub digit_no_capital : is_digit b ≡ true → is_capital b ≡ false
  unfolding is_capital is_digit
  digit_no_capital = below 48 57 65 90 b (omega arith)
