-- Digits, and the value of a row of them.
use Rattle.std.specs.Prelude.{ℕ, ◌+◌, ◌-◌, ◌*◌, ◌^◌, List, [], ◌∷◌, Bool, cond, ltb, length}
use Prim.Native.Char.{code}
use Rattle.kind.specs.Class.{within, is_digit}

-- IEEE 488.2 7.7.4.2: the value of a digit of either case, and 16 for any other byte
unfoldable pub digit_of : ℕ → ℕ
digit_of b =
    cond (is_digit b) (b - code "0")
    (cond (within "A" "F" b) (b - code "A" + 10)
    (cond (within "a" "f" b) (b - code "a" + 10) 16))

-- a digit of the base, which is 16 at most
unfoldable pub is_digit_of : ℕ → ℕ → Bool
is_digit_of base b = ltb (digit_of b) base

-- what a row of digits is worth: each digit, times the base once for every digit behind it
unfoldable pub value_of : ℕ → List ℕ → ℕ
value_of base [] = 0
value_of base (d ∷ ds) = digit_of d * base ^ length ds + value_of base ds
