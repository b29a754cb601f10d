-- What is proved of channel specs and their coordinates, besides the promises of the functions. The proofs are in proofs/CoordinateClaims.
use Rattle.std.specs.Prelude.{ℕ, ◌^◌, ◌≤◌, ◌<◌, ◌≡◌, List, [], ◌∷◌, ℤ, length, Result, Ok}
use Rattle.std.specs.Int.Signed.{mag}
use Rattle.util.specs.Walk.{after}
use Rattle.channel_spec.specs.Spec.{dimension_of}
use Rattle.channel_spec.specs.Item.{item_at}
use Rattle.coordinate.specs.Coordinate.{written, coordinate_of, pair_of, triple_of}
use Rattle.coordinate.specs.Form.{Decimal, Coordinates, Walk}
use Rattle.channel_spec.specs.declared.Item.TheVariants as item
use Rattle.error.specs.declared.ErrorCode.{ErrorCode}

-- what a text is as two and as three coordinates
abbrev pub pair_in : List ℕ → Result (ℤ × ℤ) ErrorCode
pair_in t = pair_of (written t)

abbrev pub triple_in : List ℕ → Result (ℤ × ℤ × ℤ) ErrorCode
triple_in t = triple_of (written t)

pub record Claims : Type 0 where
  -- every integer of 64 bits can be written
  pub writable : (v : ℤ) → mag v < 2 ^ 63 → (t : List ℕ) × Decimal t v
  -- Integers written in decimal, with any zeros in front and an optional plus, and joined by `!`, are read as the same
  -- integers in the same order; and whatever is read was written so.
  pub pair_read : (t : List ℕ) (a b : ℤ) → Coordinates t (a ∷ b ∷ []) → pair_in t ≡ Ok (a, b)
  pub pair_written : (t : List ℕ) (a b : ℤ) → pair_in t ≡ Ok (a, b) → Coordinates t (a ∷ b ∷ [])
  pub triple_read : (t : List ℕ) (a b c : ℤ) → Coordinates t (a ∷ b ∷ c ∷ []) → triple_in t ≡ Ok (a, b, c)
  pub triple_written : (t : List ℕ) (a b c : ℤ) → triple_in t ≡ Ok (a, b, c) → Coordinates t (a ∷ b ∷ c ∷ [])
  -- one integer is read as one coordinate
  pub one_read : (t : List ℕ) (a : ℤ) → Decimal t a → coordinate_of t ≡ Ok a
  -- so many coordinates have that dimension
  pub dimension : (t : List ℕ) (vs : List ℤ) → Coordinates t vs → dimension_of t ≡ length vs
  -- the walk through coordinates gives them one after the other, and then ends
  pub walk : (t : List ℕ) (vs : List ℤ) → Coordinates t vs → Walk t 0 vs
  -- each step of the walk inside the text moves the place, at the end it rests, and a spec of n bytes gives n items and refusals
  -- at most
  pub moves : (s : List ℕ) (at : ℕ) → at < length s → at < (item_at s at).place
  pub rests : (s : List ℕ) (at : ℕ) → length s ≤ at → item_at s at ≡ record { item = item.End; place = at }
  pub at_most : (s : List ℕ) (at : ℕ) → (item_at s (after (λ (i : ℕ). (item_at s i).place) (length s) at)).item ≡ item.End
