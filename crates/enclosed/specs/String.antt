-- String program data, IEEE 488.2 7.7.5.
use Rattle.std.specs.Prelude.{ℕ, suc, ◌+◌, List, [], ◌∷◌, cond, eqb, leb, length, get_or, drop, Result}
use Rattle.error.specs.declared.ErrorCode.TheVariants.{InvalidCharacter, InvalidStringData, SuffixNotAllowed}
use Rattle.kind.specs.Class.{is_ascii}
use Rattle.token.specs.View.{view_of}
use Rattle.token.specs.declared.Token.TheVariants.{StringProgramData}
use Rattle.item.specs.Follow.{refused, followed}
use Rattle.error.specs.declared.ErrorCode.{ErrorCode}
use Rattle.token.specs.declared.Token.{Token}

-- IEEE 488.2 7.7.5.2: how many characters at the front of a text stand inside a string: ASCII but the quote, and the quote twice
unfoldable pub in_string : ℕ → List ℕ → ℕ
in_string q [] = 0
in_string q (b ∷ []) = cond (eqb b q) 0 (cond (is_ascii b) 1 0)
in_string q (b ∷ c ∷ t) =
    cond (eqb b q)
    (cond (eqb c q) (suc (suc (in_string q t))) 0)
    (cond (is_ascii b) (suc (in_string q (c ∷ t))) 0)

-- the place behind them
unfoldable pub string_end : ℕ → List ℕ → ℕ → ℕ
string_end q s at = at + in_string q (drop at s)

-- what stands at that place, for a string that began at another: the quote that closes it, no byte, or a byte that is no ASCII
unfoldable pub closed : ℕ → List ℕ → ℕ → ℕ → Result (Token × ℕ) ErrorCode
closed q s at end =
    cond (leb (length s) end) (refused InvalidStringData)
    (cond (eqb (get_or s end 0) q)
    (followed (StringProgramData (view_of at end)) SuffixNotAllowed s (end + 1))
    (refused InvalidCharacter))

-- IEEE 488.2 7.7.5.2: a string, from the place behind its opening quote; a doubled quote stays doubled in the view
unfoldable pub string_data : ℕ → List ℕ → ℕ → Result (Token × ℕ) ErrorCode
string_data q s at = closed q s at (string_end q s at)
