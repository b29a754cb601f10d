-- The answers as lines of text.
use Rattle.std.specs.Prelude.{ℕ, Bool, true, false, List, ◌∷◌, ◌++◌}
use Prim.Native.Char.{code}
use Rattle.kind.specs.Text.{ascii}

-- a yes or no as a digit
abbrev pub flag : Bool → ℕ
flag true = code "1"
flag false = code "0"

-- `match A compare B`: what mnemonic_match and mnemonic_compare say of a name and a word
unfoldable pub names_text : Bool → Bool → List ℕ
names_text matched compared = ascii "match " ++ flag matched ∷ ascii " compare " ++ flag compared ∷ ascii "\n"
