-- Laws of the classes, one for each way out of a comparison.
use Prim.Native.Nat.{ℕ, ◌+◌, ◌-◌, ◌≤◌, ◌<◌}
use mathlib.Core.Path.{◌≡◌}
use mathlib.Core.Bool.{Bool, true, false, not}
use native.Mathlib.Omega.{arith}
use lib.Dec.{eqb}
use borrow.Author.Rules.{rules}
use borrow.Author.Tests.{ne_eqb}
use Rattle.kind.specs.Class.{is_white_space, is_capital, is_small, is_digit, is_letter, in_mnemonic, is_sign}
use Rattle.kind.proofs.Bytes.{agrees}

module _ (b : ℕ) where
  module _ (r : Bool) where
    module _ (e : r ≡ is_capital b) where
      pub letter_capital' : r ≡ true → true ≡ is_letter b
      unfolding is_letter
      letter_capital' q = rw (← e, q)

      pub letter_other' : r ≡ false → (t : Bool) → t ≡ is_small b → t ≡ is_letter b
      unfolding is_letter
      letter_other' q t f = rw (← e, q, f)

    module _ (e : r ≡ is_letter b) where
      pub mnemonic_letter' : r ≡ true → true ≡ in_mnemonic b
      unfolding in_mnemonic
      mnemonic_letter' q = rw (← e, q)

      module _ (q : r ≡ false) (t : Bool) (f : t ≡ is_digit b) where
        pub mnemonic_digit' : t ≡ true → true ≡ in_mnemonic b
        unfolding in_mnemonic
        mnemonic_digit' k = rw (← e, q, ← f, k)

        pub mnemonic_other' : t ≡ false → eqb b 95 ≡ in_mnemonic b
        unfolding in_mnemonic
        mnemonic_other' k = rw (← e, q, ← f, k)

  pub space' : b ≡ 32 → true ≡ is_white_space b
  unfolding is_white_space
  space' e = rw e

  module _ (h : b ≡ 32 → ⊥) where
    outside : (b ≡ 9 → ⊥) → (b ≡ 10 → ⊥) → (b ≡ 12 → ⊥) → (b ≡ 13 → ⊥) → false ≡ is_white_space b
    unfolding is_white_space
    outside t n f r = rw (ne_eqb b 9 t, ne_eqb b 10 n, ne_eqb b 12 f, ne_eqb b 13 r, ne_eqb b 32 h)

    pub white_below' : b < 9 → false ≡ is_white_space b
    white_below' k = outside (λ e. omega arith) (λ e. omega arith) (λ e. omega arith) (λ e. omega arith)

    pub white_above' : 13 < b → false ≡ is_white_space b
    white_above' k = outside (λ e. omega arith) (λ e. omega arith) (λ e. omega arith) (λ e. omega arith)

    -- the five bytes from tab to carriage return, computed
    pub white_inside' : 9 ≤ b → b ≤ 13 → not (eqb b 11) ≡ is_white_space b
    unfolding is_white_space
    white_inside' l k =
        let e : 9 + (b - 9) ≡ b = omega arith in
        rw e at (agrees (λ x. not (eqb (9 + x) 11)) (λ x. is_white_space (9 + x)) 5 (b - 9) tt (omega arith))

  pub white_beyond' : 32 < b → false ≡ is_white_space b
  white_beyond' k = white_above' (λ e. omega arith) (omega arith)

  pub plus' : b ≡ 43 → true ≡ is_sign b
  unfolding is_sign
  plus' e = rw e

  pub no_plus' : (b ≡ 43 → ⊥) → eqb b 45 ≡ is_sign b
  unfolding is_sign
  no_plus' h = rw (ne_eqb b 43 h)

pub ruleset laws = (rules, space', white_beyond', white_below', white_above', white_inside', letter_capital', letter_other', mnemonic_letter', mnemonic_digit', mnemonic_other', plus', no_plus')
