-- How coordinates are written, SCPI-99 8.3.2.
use Rattle.std.specs.Prelude.{ℕ, ◌^◌, ◌<◌, ◌≡◌, List, [], ◌∷◌, ◌++◌, cond, ℤ, pos, neg_ℤ, length}
use Prim.Native.Char.{code}
use Rattle.std.specs.Int.Signed.{mag}
use Rattle.util.specs.Run.{stands_at}
use Rattle.integer.specs.Digit.{value_of}
use Rattle.forms.specs.DecimalForm.{Whole}
use Rattle.channel_spec.specs.Item.{item_at}
use Rattle.channel_spec.specs.declared.Item.TheVariants as item

-- a number, negated where its sign is a minus
unfoldable pub signed_by : List ℕ → ℕ → ℤ
signed_by sign n = cond (stands_at (code "-") sign 0) (neg_ℤ (pos n)) (pos n)

-- IEEE 488.2 7.7.2.2: an integer in decimal: an optional sign and digits, one at least, with any zeros in front. It is one of
-- 64 bits: `mag` is n both for n and for -n - 1.
pub record Decimal (t : List ℕ) (v : ℤ) : Type 0 where
  pub form : Whole t
  pub some_digit : 0 < length form.digits
  pub value : v ≡ signed_by form.sign (value_of 10 form.digits)
  pub fits : mag v < 2 ^ 63

-- SCPI-99 8.3.2: integers joined by `!`, and their values in that order
pub data Coordinates : List ℕ → List ℤ → Type 0 where
  one : (t : List ℕ) (v : ℤ) → Decimal t v → Coordinates t (v ∷ [])
  more : (t u : List ℕ) (v : ℤ) (vs : List ℤ) → Decimal t v → Coordinates u vs → Coordinates (t ++ (code "!" ∷ u)) (v ∷ vs)

-- the walk through a text from a place on gives these values one after the other, and then End
pub data Walk (s : List ℕ) : ℕ → List ℤ → Type 0 where
  ends : (at : ℕ) → (item_at s at).item ≡ item.End → Walk s at []
  gives : (at : ℕ) (v : ℤ) (vs : List ℤ) → (item_at s at).item ≡ item.Value v → Walk s (item_at s at).place vs → Walk s at (v ∷ vs)
