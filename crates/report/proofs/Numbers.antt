-- Numbers as text, from the digits that `io` writes.
use Prim.Native.Nat.{ℕ, zero, suc, ◌+◌, ◌*◌, ◌/◌, ◌%◌, ◌^◌, ◌-◌, ◌≤◌, ◌<◌}
use mathlib.Core.Path.{◌≡◌, refl, ◌∙◌}
use mathlib.Core.List.{List}
use mathlib.Core.Bool.{Bool, true, false}
use native.Mathlib.Nat.{pow-le-pow_right, mod-lt, mod-eq_of_lt, le-div_iff_mul-le, div-lt_iff_lt-mul}
use native.Mathlib.Omega.{arith}
use lib.Dec.{lit<, leb}
use lib.ListN.{length, take}
use borrow.Author.Rules.{rules}
use borrow.Author.Tests.{lt-ltb, le-ltb, leb-true, leb-false}
use mir.Syntax.{w64}
use mir.Val.{Fits}
use Rattle.io.specs.Digits.{last_digits, hex_digit_ascii, IsDigitCount}
use Rattle.report.specs.Added.{Added}
use Rattle.report.specs.Number.{digit, decimal_of, decimal}

-- the fewest digits of a number are its decimal
glyph_digit : (d : ℕ) → d < 10 → hex_digit_ascii d ≡ digit d
glyph_digit d h = rw (lt-ltb d 10 h)

module _ (n k : ℕ) (f : IsDigitCount 10 1 n (suc (suc k))) where
  least : 10 ^ suc k ≤ n
  least = let e : suc (suc k) - 1 ≡ suc k = omega arith in rw e at (f.2 (omega arith))

  no_digit : 10 ≤ n
  no_digit = omega (arith, least, pow-le-pow_right {n = 10} (lit< tt) {i = 1} {j = suc k} (omega arith))

  fewer : IsDigitCount 10 1 (n / 10) (suc k)
  fewer =
      let e : suc k - 1 ≡ k = omega arith in
      let below : n < 10 ^ suc k * 10 = omega (arith, f.1) in
      let above : 10 ^ (suc k - 1) * 10 ≤ n = rw e (omega (arith, least)) in
      (omega arith, (div-lt_iff_lt-mul (lit< tt)).1 below, λ m. (le-div_iff_mul-le (lit< tt)).1 above)

same : (k most n : ℕ) → IsDigitCount 10 1 n k → k ≤ most → last_digits 10 k n ≡ decimal_of most n
unfolding decimal_of
same zero most n f h = absurd (omega arith)
same (suc zero) zero n f h = absurd (omega arith)
same (suc zero) (suc most) n f h = let d : n < 10 = omega arith in rw (lt-ltb n 10 d, mod-eq_of_lt d, glyph_digit n d)
same (suc (suc k)) zero n f h = absurd (omega arith)
same (suc (suc k)) (suc most) n f h =
    rw (le-ltb n 10 (no_digit n k f), same (suc k) most (n / 10) (fewer n k f) (omega arith), glyph_digit (n % 10) (mod-lt n (lit< tt)))

-- a number of 64 bits has no more than 20
few : (n k : ℕ) → IsDigitCount 10 1 n k → n < 2 ^ 64 → (b : Bool) → leb k 20 ≡ b → k ≤ 20
few n k f h true e = leb-true k 20 e
few n k f h false e =
    absurd (let m : 20 < k = leb-false k 20 e in omega (arith, pow-le-pow_right {n = 10} (lit< tt) {i = 20} {j = k - 1} (omega arith), f.2 (omega arith)))

module _ (at n k r m : ℕ) (d l o : List ℕ) (e : k ≡ length (take k d)) (f : IsDigitCount 10 1 n k) (g : Fits w64 n) where
  within : k ≤ 20
  within = few n k f g.fits _ refl

  pub digits_fit' : at + 20 ≤ m → at + length (take k d) ≤ m
  digits_fit' h = omega (arith, within)

  module _ (a : Added l at (take k d) o r) where
    pub number_ends' : r ≡ at + length (take k d) → r ≤ at + 20
    number_ends' q = omega (arith, within)

    pub number' : take k d ≡ last_digits 10 k n → Added l at (decimal n) o r
    unfolding decimal
    number' q = let p : take k d ≡ decimal_of 20 n = q ∙ same k 20 n f within in rw p at a

pub ruleset laws = (rules, digits_fit', number_ends', number')
