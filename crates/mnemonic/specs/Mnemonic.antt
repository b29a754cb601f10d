-- Mnemonics compared as the original compares them, on all pairs of texts. What this means for a table name is said in Spelling.
use Rattle.std.specs.Prelude.{ℕ, suc, ◌+◌, ◌%◌, List, [], ◌∷◌, Bool, true, false, cond, not, ◌&&◌, ◌||◌, length, take, drop, eqb}
use Rattle.kind.specs.Text.{ascii}
use Rattle.kind.specs.Class.{is_capital, is_small, is_digit}
use Rattle.util.specs.Run.{every}

-- two texts of one length with the relation r at each place
unfoldable pub pairs : (ℕ → ℕ → Bool) → List ℕ → List ℕ → Bool
pairs r [] [] = true
pairs r [] (d ∷ y) = false
pairs r (c ∷ x) [] = false
pairs r (c ∷ x) (d ∷ y) = r c d && pairs r x y

-- two texts equal byte for byte
abbrev pub same : List ℕ → List ℕ → Bool
same = pairs eqb

-- a letter without its case, and any other character as it is
unfoldable pub folded : ℕ → ℕ
folded b = cond (is_capital b) (b + 32) b

-- IEEE 488.2 7.6.1.4: one character, whichever case a letter is in
unfoldable pub either_case : ℕ → ℕ → Bool
either_case c d = eqb (folded c) (folded d)

-- two texts equal in either case of their letters
abbrev pub alike : List ℕ → List ℕ → Bool
alike = pairs either_case

-- what may stand in a short form
unfoldable pub not_small : ℕ → Bool
not_small b = not (is_small b)

-- what a short form may leave out
unfoldable pub may_leave_out : ℕ → Bool
may_leave_out b = not (is_capital b || is_digit b)

-- Whatever the case of their letters, the word is the whole mnemonic, or a front part of it: one that has no small letter, with no capital and no
-- digit anywhere behind it.
unfoldable pub compares : List ℕ → List ℕ → Bool
compares m s =
    alike m s
    || (alike (take (length s) m) s
    && (every not_small (take (length s) m) && every may_leave_out (drop (length s) m)))

-- the place behind the last character that is no digit, 0 where there is none
unfoldable pub last_end : List ℕ → ℕ
last_end [] = 0
last_end (b ∷ s) = cond (every is_digit s) (cond (is_digit b) 0 1) (suc (last_end s))

-- The place where the numeric suffix of a mnemonic begins (SCPI-99 6.2.5.2), its end where it has none. As in the original,
-- digits alone are no numeric suffix.
unfoldable pub numeric_suffix_start : List ℕ → ℕ
numeric_suffix_start s = cond (every is_digit s) (length s) (last_end s)

-- a text without its numeric suffix
abbrev pub stem : List ℕ → List ℕ
stem s = take (numeric_suffix_start s) s

-- the numeric suffix of a text, empty where it has none
abbrev pub numeric_suffix : List ℕ → List ℕ
numeric_suffix s = drop (numeric_suffix_start s) s

-- SCPI-99 6.2.5.2: a numeric suffix left out is 1. Otherwise the two are the same digits, so that 01 is not 1.
unfoldable pub same_numeric_suffix : List ℕ → List ℕ → Bool
same_numeric_suffix x y = same x y || (same x [] && same y (ascii "1") || same x (ascii "1") && same y [])

-- a stem and a numeric suffix beside those of a word: the stems compare, and the suffixes are the same
abbrev pub matches_parts : List ℕ → List ℕ → List ℕ → List ℕ → Bool
matches_parts m i s j = compares m s && same_numeric_suffix i j

-- the texts compare as they stand, or their stems do and they have the same numeric suffix
unfoldable pub matches : List ℕ → List ℕ → Bool
matches m s = compares m s || matches_parts (stem m) (numeric_suffix m) (stem s) (numeric_suffix s)

-- Two texts, neither of them empty, whose first characters have different remainders by 32. A letter has the same one in either case, so such
-- texts do not match.
unfoldable pub begins_otherwise : List ℕ → List ℕ → Bool
begins_otherwise [] s = false
begins_otherwise (c ∷ m) [] = false
begins_otherwise (c ∷ m) (d ∷ s) = not (eqb (c % 32) (d % 32))
