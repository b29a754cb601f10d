-- What is proved of these definitions, besides the promises of the functions: a definite block that is accepted has the form of the
-- grammar, and what has the form is accepted, with exactly that view. The proofs are in proofs/HashClaims.
use Rattle.std.specs.Prelude.{ℕ, ◌+◌, ◌-◌, ◌≡◌, List, ◌++◌, true, false, length, drop}
use Prim.Native.Char.{code}
use Rattle.kind.specs.Class.{is, is_digit}
use Rattle.util.specs.Run.{every}
use Rattle.integer.specs.Digit.{value_of}
use Rattle.token.specs.View.{view_of}
use Rattle.token.specs.declared.View.{View}
use Rattle.token.specs.declared.Token.TheVariants.{ArbitraryBlockData}
use Rattle.item.specs.Follow.{token}
use Rattle.forms.specs.ItemForm.{Follows, Ended}
use Rattle.hash.specs.Block.{arbitrary_data}
use Rattle.forms.specs.HashForm.{BlockForm}

pub record Claims : Type 0 where
  -- a definite block, whose format is a digit but 0, that was accepted has the form, and is followed as an item is
  pub block_form : (b : ℕ) (s : List ℕ) (at : ℕ) (v : View) (next : ℕ) → is "0" b ≡ false → arbitrary_data b s at ≡ token (ArbitraryBlockData v) next
      → BlockForm (b - code "0") s at v × Ended s v.end next
  -- as many digits as the format says, that say how long the bytes behind them are, and what may follow these, are accepted with that view
  pub block_read : (b : ℕ) (s : List ℕ) (at : ℕ) (ds t after : List ℕ) → is_digit b ≡ true → is "0" b ≡ false → length ds ≡ b - code "0"
      → drop at s ≡ ds ++ (t ++ after) → every is_digit ds ≡ true → value_of 10 ds ≡ length t → (f : Follows after)
      → arbitrary_data b s at ≡ token (ArbitraryBlockData (view_of (at + length ds) (at + length ds + length t))) (at + length ds + length t + length f.white)
