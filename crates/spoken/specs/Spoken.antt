-- The mnemonic at a place of a header, and the names that it spells.
use Rattle.std.specs.Prelude.{ℕ, ◌≤◌, ◌<◌, ◌≡◌, List, Bool, false, cond, ◌&&◌, leb, ltb, length, get_or, Result, Ok, Err, Option, Some, None}
use Rattle.kind.specs.Class.{is_letter}
use Rattle.mnemonic.specs.Mnemonic.{matches}
use Rattle.node.specs.Tree.{name_of}
use Rattle.token.specs.View.{part_of, view_of}
use Rattle.item.specs.Word.{mnemonic}
use Rattle.error.specs.declared.ErrorCode.{ErrorCode}
use Rattle.token.specs.declared.Token.{Token}

-- a letter is at the place
unfoldable pub is_letter_at : List ℕ → ℕ → Bool
is_letter_at s at = cond (leb (length s) at) false (is_letter (get_or s at 0))

-- SCPI-99 6.2.1 and 6.2.5.2: whether the mnemonic that was read at a place spells the name, and the place after it. One without a
-- character spells none, and so does one that is too long.
abbrev pub spelled_as : List ℕ → List ℕ → ℕ → Result (Token × ℕ) ErrorCode → Option ℕ
spelled_as name s at (Ok (t, next)) = cond (ltb at next && matches name (part_of s (view_of at next))) (Some next) None
spelled_as name s at (Err e) = None

-- Whether the mnemonic at a place spells the name. What begins with a digit or an underscore counts as one here; the token step lets no header
-- come to it.
unfoldable pub spelled_at : List ℕ → List ℕ → ℕ → Option ℕ
spelled_at name s at = spelled_as name s at (mnemonic s at)

-- SCPI-99 6.2.1 and 6.2.5.2: the mnemonic w spells the name of the node
unfoldable pub spoken_by : List ℕ → List ℕ → List ℕ → ℕ → Bool
spoken_by t names w k = matches (name_of t names k) w

-- Spells t names s from to at r: the first of the nodes from `from` up to `to`, and not `to` itself, whose name the mnemonic at the place
-- spells, and the place after the mnemonic; or that it spells none of them.
pub data Spells (t names s : List ℕ) (from to at : ℕ) : Option (ℕ × ℕ) → Type 0 where
  first_spelled : {k next : ℕ} → from ≤ k → k < to → spelled_at (name_of t names k) s at ≡ Some next
      → ((j : ℕ) → from ≤ j → j < k → spelled_at (name_of t names j) s at ≡ None) → Spells t names s from to at (Some (k, next))
  none_spelled : ((j : ℕ) → from ≤ j → j < to → spelled_at (name_of t names j) s at ≡ None) → Spells t names s from to at None
