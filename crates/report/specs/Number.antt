-- Numbers as text.
use Rattle.std.specs.Prelude.{ℕ, zero, suc, ◌+◌, ◌/◌, ◌%◌, cond, List, [], ◌∷◌, ◌++◌, ltb, ℤ, pos, negsuc}
use Prim.Native.Char.{code}

-- the character of a digit
abbrev pub digit : ℕ → ℕ
digit d = code "0" + d

-- the last digits of a number, so many at most: of a number below 10 its digit, of any other those of its tenth and then its own last
unfoldable pub decimal_of : ℕ → ℕ → List ℕ
decimal_of zero n = []
decimal_of (suc most) n = cond (ltb n 10) (digit n ∷ []) (decimal_of most (n / 10) ++ (digit (n % 10) ∷ []))

-- a number of 64 bits in decimal, with no zero in front; it has no more than 20 digits
unfoldable pub decimal : ℕ → List ℕ
decimal = decimal_of 20

-- a number with a minus in front where it is below zero
unfoldable pub signed : ℤ → List ℕ
signed (pos n) = decimal n
signed (negsuc n) = code "-" ∷ decimal (suc n)
