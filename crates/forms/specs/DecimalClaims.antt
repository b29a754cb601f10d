-- What is proved of these definitions, besides the promises of the functions: a number that is accepted has the form of the
-- grammar, and what has the form is accepted, with exactly that view. The proofs are in proofs/DecimalClaims.
use Rattle.std.specs.Prelude.{ℕ, ◌+◌, ◌≡◌, List, ◌++◌, length, drop}
use Rattle.kind.specs.Class.{is_white_space}
use Rattle.util.specs.Run.{run_end}
use Rattle.token.specs.View.{view_of, part_of}
use Rattle.token.specs.declared.View.{View}
use Rattle.token.specs.declared.Token.{Token}
use Rattle.token.specs.declared.Token.TheVariants.{DecimalNumericProgramData, DecimalNumericSuffixProgramData}
use Rattle.item.specs.Follow.{token}
use Rattle.forms.specs.ItemForm.{Follows, Ended}
use Rattle.decimal.specs.Decimal.{nrf, numeric_data}
use Rattle.forms.specs.DecimalForm.{Number, Stops, Suffix}

pub record Claims : Type 0 where
  -- a text of the form is accepted as a number alone, up to what does not go on with it
  pub nrf_read : (s : List ℕ) (at : ℕ) (t y : List ℕ) → drop at s ≡ t ++ y → Number t → Stops y
      → nrf s at ≡ token (DecimalNumericProgramData (view_of at (at + length t))) (at + length t)
  -- a number alone that was accepted is the view from the place up to its end, and has the form
  pub nrf_form : (s : List ℕ) (at : ℕ) (t : Token) (next : ℕ) → nrf s at ≡ token t next
      → (t ≡ DecimalNumericProgramData (view_of at next)) × Number (part_of s (view_of at next))
  -- a number that was accepted begins at the place and has the form, and is followed as an item is
  pub number_form : (s : List ℕ) (at : ℕ) (v : View) (next : ℕ) → numeric_data s at ≡ token (DecimalNumericProgramData v) next
      → (v.start ≡ at) × Number (part_of s v) × Ended s v.end next
  -- and so is its suffix, behind the white space that follows the number
  pub suffix_form : (s : List ℕ) (at : ℕ) (v u : View) (next : ℕ) → numeric_data s at ≡ token (DecimalNumericSuffixProgramData v u) next
      → (v.start ≡ at) × Number (part_of s v) × (u.start ≡ run_end is_white_space s v.end) × Suffix (part_of s u) × Ended s u.end next
  -- a number, and what may follow it, is accepted with that view
  pub number_read : (s : List ℕ) (at : ℕ) (t after : List ℕ) → drop at s ≡ t ++ after → Number t → (f : Follows after)
      → numeric_data s at ≡ token (DecimalNumericProgramData (view_of at (at + length t))) (at + length t + length f.white)
