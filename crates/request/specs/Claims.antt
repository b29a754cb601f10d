-- What is proved of these definitions, besides the promises of the functions. The proofs are in proofs/Claims.
use Rattle.std.specs.Prelude.{ℕ, ◌≤◌, ◌≡◌, List, [], ◌∷◌, length, Some, None}
use Rattle.kind.specs.Text.{ascii}
use Rattle.request.specs.Field.{field_at}
use Rattle.request.specs.Hex.{text_of}
use Rattle.request.specs.Unhex.{unhexed}

-- Worked examples.
pub record Rows : Type 0 where
  pub first : field_at (ascii " M\t 4A  -\r") 0 ≡ record { start = 1; end = 2 }
  pub second : field_at (ascii " M\t 4A  -\r") 2 ≡ record { start = 4; end = 6 }
  pub third : field_at (ascii " M\t 4A  -\r") 6 ≡ record { start = 8; end = 9 }
  pub no_fourth : field_at (ascii " M\t 4A  -\r") 9 ≡ record { start = 10; end = 10 }
  pub bytes : text_of (ascii "4AfF00") ≡ Some (0x4a ∷ 0xff ∷ 0x00 ∷ [])
  pub dash : text_of (ascii "-") ≡ Some []
  pub odd : text_of (ascii "4AF") ≡ None
  pub no_digit : text_of (ascii "4G") ≡ None
  pub two_dashes : text_of (ascii "--") ≡ None

pub record Claims : Type 0 where
  -- a text that was written ends in the buffer, no sooner than it begins
  pub ends : (line : List ℕ) (from to : ℕ) (out : List ℕ) (at n : ℕ) (slots : List ℕ)
      → record { says = Some n; slots = slots } ≡ unhexed line from to out at
      → (at ≤ n) × (n ≤ length slots)
  pub rows : Rows
