-- What is proved of whole numbers, besides the promises of the functions. The proofs are in proofs/IntegerClaims.
use Rattle.std.specs.Prelude.{ℕ, ◌+◌, ◌*◌, ◌≡◌, List, [], ◌∷◌, ◌++◌}
use Rattle.kind.specs.Class.{is_digit}
use Rattle.integer.specs.Digit.{digit_of, is_digit_of, value_of}

pub record Claims : Type 0 where
  -- a further digit multiplies the value by the base, and adds its own
  pub one_more : (base : ℕ) (ds : List ℕ) (d : ℕ) → value_of base (ds ++ (d ∷ [])) ≡ value_of base ds * base + digit_of d
  -- zeros in front are worth nothing
  pub leading_zero : (base : ℕ) (ds : List ℕ) → value_of base (48 ∷ ds) ≡ value_of base ds
  -- the digits of base ten are the digits of the grammar
  pub decimal : (b : ℕ) → is_digit_of 10 b ≡ is_digit b
