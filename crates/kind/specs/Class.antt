-- The classes of characters that the grammar of IEEE 488.2 chapter 7 is written in.
use Rattle.std.specs.Prelude.{ℕ, Bool, ◌&&◌, ◌||◌, eqb, leb}
use Prim.Native.Char.{Char, code}

-- the byte is this character
abbrev pub is : Char → ℕ → Bool
is c b = eqb b (code c)

-- the byte is one of those from one character to another, both counted
abbrev pub within : Char → Char → ℕ → Bool
within low high b = leb (code low) b && leb b (code high)

-- White space: tab, newline, form feed, carriage return and space. IEEE 488.2 7.4.1.2 has all bytes to 32 but newline (docs/DIFFERENCES.md).
unfoldable pub is_white_space : ℕ → Bool
is_white_space b = is "\t" b || (is "\n" b || (is "\u{c}" b || (is "\r" b || is " " b)))

-- IEEE 488.2 7.6.1.2: upper-case alpha
unfoldable pub is_capital : ℕ → Bool
is_capital = within "A" "Z"

-- IEEE 488.2 7.6.1.2: lower-case alpha
unfoldable pub is_small : ℕ → Bool
is_small = within "a" "z"

-- IEEE 488.2 7.6.1.2: digit
unfoldable pub is_digit : ℕ → Bool
is_digit = within "0" "9"

-- a letter of either case
unfoldable pub is_letter : ℕ → Bool
is_letter b = is_capital b || is_small b

-- IEEE 488.2 7.6.1.2: what may stand in a program mnemonic behind its first letter
unfoldable pub in_mnemonic : ℕ → Bool
in_mnemonic b = is_letter b || (is_digit b || is "_" b)

-- IEEE 488.2 7.7.2.2: plus and minus
unfoldable pub is_sign : ℕ → Bool
is_sign b = is "+" b || is "-" b

-- IEEE 488.2 7.7.5.2: the quotes that a string may stand in
unfoldable pub is_quote : ℕ → Bool
is_quote b = is "\"" b || is "'" b

-- ASCII: seven bits
unfoldable pub is_ascii : ℕ → Bool
is_ascii b = leb b 127
