-- A text in hex: two digits a byte.
use Rattle.std.specs.Prelude.{ℕ, ◌+◌, ◌*◌, List, [], ◌∷◌, Bool, false, true, cond, ◌&&◌, Option, Some, None}
use Rattle.kind.specs.Class.{is}
use Rattle.integer.specs.Digit.{digit_of, is_digit_of}

-- a hex digit
abbrev pub is_hex : ℕ → Bool
is_hex = is_digit_of 16

-- pairs of hex digits, and nothing else
unfoldable pub are_pairs : List ℕ → Bool
are_pairs [] = true
are_pairs (x ∷ []) = false
are_pairs (x ∷ y ∷ s) = is_hex x && (is_hex y && are_pairs s)

-- the byte of each pair
unfoldable pub bytes_of : List ℕ → List ℕ
bytes_of [] = []
bytes_of (x ∷ []) = []
bytes_of (x ∷ y ∷ s) = (digit_of x * 16 + digit_of y) ∷ bytes_of s

-- `-` alone
unfoldable pub is_dash : List ℕ → Bool
is_dash [] = false
is_dash (b ∷ []) = is "-" b
is_dash (b ∷ c ∷ s) = false

-- what a word says: `-` the empty text, pairs of hex digits their bytes, any other nothing
unfoldable pub text_of : List ℕ → Option (List ℕ)
text_of s = cond (is_dash s) (Some []) (cond (are_pairs s) (Some (bytes_of s)) None)
