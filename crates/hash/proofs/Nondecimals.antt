-- Laws of numbers in another radix, as the code meets them.
use Rattle.std.specs.Prelude.{Result, Ok, Err}
use Prim.Native.Nat.{ℕ, ◌≤◌, ◌<◌}
use mathlib.Core.Path.{◌≡◌, ◌∙◌}
use mathlib.Core.List.{List}
use lib.ListN.{length}
use borrow.Author.Rules.{rules}
use borrow.Author.Tests.{le-leb, lt-leb}
use Rattle.error.specs.declared.ErrorCode.TheVariants.{NumericDataError, InvalidCharacterInNumber, SuffixNotAllowed, DataOutOfRange}
use Rattle.integer.specs.{Number.unsigned_at, declared.Radix.Radix}
use Rattle.token.specs.declared.Token.TheVariants.{NonDecimalNumericProgramData}
use Rattle.item.specs.{Follow.refused, Follow.followed}
use Rattle.hash.specs.Nondecimal.{nondecimal_of, nondecimal_data}
use Rattle.error.specs.declared.ErrorCode.{ErrorCode}
use Rattle.integer.specs.declared.NumberError.{NumberError}
use Rattle.token.specs.declared.Token.{Token}

module _ (radix : Radix) (s : List ℕ) (at : ℕ) (u : Result (ℕ × ℕ) NumberError) (eu : u ≡ unsigned_at radix s at) where
  pub value' : (v end : ℕ) → u ≡ Ok (v, end) → (r : Result (Token × ℕ) ErrorCode) → r ≡ followed (NonDecimalNumericProgramData v) SuffixNotAllowed s end → r ≡ nondecimal_data radix s at
  unfolding nondecimal_data nondecimal_of
  value' v end e r er = er ∙ rw (← eu, e)

  pub too_large' : u ≡ Err NumberError.TooLarge → refused DataOutOfRange ≡ nondecimal_data radix s at
  unfolding nondecimal_data nondecimal_of
  too_large' e = rw (← eu, e)

  pub nothing' : u ≡ Err NumberError.NoDigit → length s ≤ at → refused NumericDataError ≡ nondecimal_data radix s at
  unfolding nondecimal_data nondecimal_of
  nothing' e h = rw (← eu, e, le-leb (length s) at h)

  pub no_digit' : u ≡ Err NumberError.NoDigit → at < length s → refused InvalidCharacterInNumber ≡ nondecimal_data radix s at
  unfolding nondecimal_data nondecimal_of
  no_digit' e h = rw (← eu, e, lt-leb (length s) at h)

pub ruleset laws = (rules, value', too_large', nothing', no_digit')
