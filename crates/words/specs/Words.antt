-- The eight words of a step: the place, a flag, a flag or the dimension, the kind, and two views.
use Rattle.std.specs.Prelude.{ℕ, List, [], ◌∷◌, Bool, cond, not, eqb, leb, ℤ, pos, length, drop}
use Rattle.error.specs.Code.{code_of}
use Rattle.error.specs.declared.ErrorCode.{ErrorCode}
use Rattle.error.specs.declared.ErrorCode.TheVariants.{NoSlotLeft}
use Rattle.record.specs.Word.{bit}
use Rattle.token.specs.declared.View.{View}
use Rattle.words.specs.Outcome.{Outcome}
use Rattle.words.specs.declared.Said.{Said}

-- a flag is set by any word but 0
abbrev pub is_set : ℕ → Bool
is_set w = not (eqb w 0)

-- a number that is returned, a dimension, a kind, and two views
abbrev pub said_of : ℤ → ℕ → ℕ → ℕ → ℕ → ℕ → ℕ → Said
said_of code dimension kind start end start2 end2 =
    record { code = code; dimension = dimension; kind = kind; start = start; end = end; start_2 = start2; end_2 = end2 }

-- a kind without views, with one view, and with a dimension and two views
abbrev pub plain_of : ℕ → Said
plain_of kind = said_of (pos 0) 0 kind 0 0 0 0

abbrev pub one_of : ℕ → View → Said
one_of kind v = said_of (pos 0) 0 kind v.start v.end 0 0

abbrev pub two_of : ℕ → ℕ → View → View → Said
two_of kind dimension v u = said_of (pos 0) dimension kind v.start v.end u.start u.end

-- a refusal has the kind 0 and no view
abbrev pub refused_of : ErrorCode → Said
refused_of e = said_of (code_of e) 0 0 0 0 0 0

-- What is left in the words: the first eight are these, and those behind them stay. With fewer than eight the number is 8, and all stay.
unfoldable pub left_in : List ℕ → ℕ → Bool → ℕ → Said → Outcome ℕ
left_in words place second third s =
    cond (leb 8 (length words))
    (record { code = s.code; words = place ∷ bit second ∷ third ∷ s.kind ∷ s.start ∷ s.end ∷ s.start_2 ∷ s.end_2 ∷ drop 8 words })
    (record { code = code_of NoSlotLeft; words = words })
