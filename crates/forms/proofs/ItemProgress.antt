-- What is read at a place ends after it: no token is empty. What a separator leads to lies at the place after it or further on.
use Rattle.std.specs.Prelude.{Result, Ok, Err, Option, Some, None}
use Prim.Native.Nat.{ℕ, ◌+◌, ◌-◌, ◌<◌, ◌≤◌, ◌^◌}
use mathlib.Core.Path.{◌≡◌}
use mathlib.Core.List.{List}
use mathlib.Core.Bool.{Bool, true, ◌||◌, ◌&&◌, not}
use native.Mathlib.Omega.{arith}
use lib.Dec.{leb, eqb, ltb}
use lib.ListN.{length, get_or, take, drop}
use Rattle.error.specs.declared.ErrorCode.{ErrorCode}
use Rattle.kind.specs.Class.{is_white_space, in_mnemonic, is_digit, is_sign, is}
use Rattle.kind.proofs.Tests.{by_test, either, and_left}
use Rattle.util.specs.Run.{run_end, stands_at, sign_end, every}
use Rattle.util.proofs.Runs.{run_from, run_more}
use Rattle.token.specs.declared.Token.{Token}
use Rattle.item.specs.{Follow.ends_data, Follow.followed, Follow.refused}
use Rattle.item.specs.Word.{star_end, mnemonic, character_data}
use Rattle.item.proofs.Words.{star_there'}
use mathlib.Core.Logic.{⊎_elim}
use borrow.Author.Tests.{ltb-true, ltb-false}
use Rattle.token.specs.declared.View.{View}
use Rattle.decimal.specs.Decimal.{whole_end, has_whole, fraction_end, has_fraction, mantissa, begins_exponent, exponent, with_exponent, number, number_to, nrf, in_suffix, begins_suffix, suffixed, suffix_data, numeric_to, numeric_data}
use Rattle.decimal.proofs.Decimals.{fraction_from}
use Rattle.integer.specs.{Digit.value_of, declared.Radix.Radix}
use Rattle.integer.specs.Number.{base_of, digits, found_at, unsigned_of, unsigned_at}
use Rattle.integer.specs.declared.Radix.TheVariants.{Binary, Octal, Hexadecimal}
use Rattle.hash.specs.Nondecimal.{nondecimal_of, nondecimal_data}
use Rattle.hash.specs.Block.{payload, definite, indefinite, arbitrary_data, hash_by, hash_data}
use Rattle.enclosed.specs.String.{in_string, string_end, closed, string_data}
use Rattle.enclosed.specs.Expression.{in_expression, bracketed, expression_data}
use Rattle.separator.specs.Separator.{newline_to, follows_colon, colon_to, follows_query, question_to, item_at, comma_to}
use Rattle.integer.specs.declared.NumberError.{NumberError}

-- a token that was read ends behind a place
abbrev pub Behind : ℕ → Result (Token × ℕ) ErrorCode → Type 0
Behind at (Ok (t, next)) = at < next
Behind at (Err e) = Unit {0}

-- a run that its first byte is of moves
pub run_moves : (p : ℕ → Bool) (s : List ℕ) (i : ℕ) → i < length s → p (get_or s i 0) ≡ true → i < run_end p s i
run_moves p s i h e = omega (arith, run_more p s i h e, run_from p s (i + 1))

module _ (s : List ℕ) (at : ℕ) where
  -- an item of data that ends behind a place
  pub followed_behind : (t : Token) (e : ErrorCode) (end : ℕ) → at < end → Behind at (followed t e s end)
  unfolding followed
  followed_behind t e end h =
      by_test (Behind at) (ends_data s (run_end is_white_space s end)) (λ _. omega (arith, h, run_from is_white_space s end)) (λ _. tt)

  -- a mnemonic and a word of data move where their first byte makes them
  mnemonic_behind : at < run_end in_mnemonic s (star_end s at) → Behind at (mnemonic s at)
  unfolding mnemonic
  mnemonic_behind h = by_test (Behind at) (leb (run_end in_mnemonic s (star_end s at) - at) 12) (λ _. h) (λ _. tt)

  module _ (h : at < length s) where
    pub common_behind : get_or s at 0 ≡ 42 → Behind at (mnemonic s at)
    common_behind e = mnemonic_behind (omega (arith, star_there' s at h e, run_from in_mnemonic s (star_end s at)))

    module _ (e : in_mnemonic (get_or s at 0) ≡ true) where
      pub header_behind : Behind at (mnemonic s at)
      unfolding star_end
      header_behind =
          mnemonic_behind (by_test (λ (i : ℕ). at < run_end in_mnemonic s i) (stands_at 42 s at)
          (λ _. omega (arith, run_from in_mnemonic s (at + 1))) (λ _. run_moves in_mnemonic s at h e))

      pub character_behind : Behind at (character_data s at)
      unfolding character_data
      character_behind =
          by_test (Behind at) (leb (run_end in_mnemonic s at - at) 12)
          (λ _. followed_behind _ _ (run_end in_mnemonic s at) (run_moves in_mnemonic s at h e)) (λ _. tt)

-- the end of a decimal number lies after a place
abbrev Ends : ℕ → Option ℕ → Type 0
Ends at (Some end) = at < end
Ends at None = Unit {0}

pub sign_from : (s : List ℕ) (at : ℕ) → at ≤ sign_end s at
unfolding sign_end
sign_from s at = by_test (λ (i : ℕ). at ≤ i) (is_sign (get_or s at 0)) (λ _. omega arith) (λ _. omega arith)

pub whole_from : (s : List ℕ) (at : ℕ) → at ≤ whole_end s at
unfolding whole_end
whole_from s at = omega (arith, sign_from s at, run_from is_digit s (sign_end s at))

module _ (s : List ℕ) (at : ℕ) where
  -- a mantissa has a digit
  mantissa_ends : Ends at (mantissa s at)
  unfolding mantissa has_whole has_fraction
  mantissa_ends = by_test (Ends at) (has_whole s at || has_fraction s (whole_end s at)) some (λ _. tt)
    where
      end : ℕ
      end = fraction_end s (whole_end s at)

      some : (has_whole s at || has_fraction s (whole_end s at)) ≡ true → at < end
      some e =
          ⊎_elim (λ w. omega (arith, ltb-true (sign_end s at) (whole_end s at) w, sign_from s at, fraction_from s (whole_end s at)))
          (λ f. omega (arith, ltb-true 1 (end - whole_end s at) f, whole_from s at))
          (either (has_whole s at) (has_fraction s (whole_end s at)) e)

  exponent_ends : (end : ℕ) → at < end → Ends at (exponent s end)
  unfolding exponent
  exponent_ends end h =
      by_test (Ends at) (begins_exponent (get_or s end 0))
      (λ _. by_test (Ends at) (has_whole s (end + 1)) (λ _. omega (arith, h, whole_from s (end + 1))) (λ _. tt)) (λ _. h)

  with_exponent_lem : (p : Option ℕ) → Ends at p → Ends at (with_exponent s p)
  unfolding with_exponent
  with_exponent_lem (Some end) h = exponent_ends end h
  with_exponent_lem None h = tt

  suffix_behind : (v : View) → at < v.end → Behind at (suffix_data s v)
  unfolding suffix_data suffixed
  suffix_behind v h =
      by_test (Behind at) (begins_suffix s from) (λ _. by_test (Behind at) (leb (run_end in_suffix s from - from) 12)
      (λ _. followed_behind s at _ _ (run_end in_suffix s from) (omega (arith, h, run_from is_white_space s v.end, run_from in_suffix s from)))
      (λ _. tt)) (λ _. followed_behind s at _ _ v.end h)
    where
      from : ℕ
      from = run_end is_white_space s v.end

  numeric_to_lem : (p : Option ℕ) → Ends at p → Behind at (numeric_to s at p)
  unfolding numeric_to
  numeric_to_lem (Some end) h = suffix_behind _ h
  numeric_to_lem None h = tt

  number_ends : Ends at (number s at)
  unfolding number
  number_ends = with_exponent_lem (mantissa s at) mantissa_ends

  pub numeric_behind : Behind at (numeric_data s at)
  unfolding numeric_data
  numeric_behind = numeric_to_lem (number s at) number_ends

  number_to_lem : (p : Option ℕ) → Ends at p → Behind at (number_to at p)
  unfolding number_to
  number_to_lem (Some end) h = h
  number_to_lem None h = tt

  pub nrf_behind : Behind at (nrf s at)
  unfolding nrf
  nrf_behind = number_to_lem (number s at) number_ends

-- what holds of every refusal, and of every number with what follows it, holds of numeric data
pub by_end : (s : List ℕ) (at : ℕ) (P : Result (Token × ℕ) ErrorCode → Type 0) → ((e : ErrorCode) → P (refused e)) → ((v : View) → P (suffix_data s v)) → P (numeric_data s at)
unfolding numeric_data numeric_to
by_end s at P r f = go (number s at)
  where
    go : (p : Option ℕ) → P (numeric_to s at p)
    go (Some end) = f _
    go None = r _

-- the digits of a number of another base end after a place
abbrev Found : ℕ → Result (ℕ × ℕ) NumberError → Type 0
Found at (Ok (v, end)) = at < end
Found at (Err NumberError.NoDigit) = Unit {0}
Found at (Err NumberError.TooLarge) = Unit {0}

module _ (s : List ℕ) (at : ℕ) where
  -- an item of data that begins at a place after another
  module _ (i : ℕ) (h : at < i) where
    unsigned_found : (radix : Radix) → Found at (unsigned_at radix s i)
    unfolding unsigned_at unsigned_of found_at
    unsigned_found radix =
        by_test (Found at) (ltb (value_of (base_of radix) ds) (2 ^ 64))
        (λ _. by_test (Found at) (eqb (i + length ds) i) (λ _. tt) (λ _. omega (arith, h))) (λ _. tt)
      where
        ds : List ℕ
        ds = digits (base_of radix) (drop i s)

    nondecimal_of_lem : (u : Result (ℕ × ℕ) NumberError) → Found at u → Behind at (nondecimal_of s i u)
    unfolding nondecimal_of
    nondecimal_of_lem (Ok (v, end)) k = followed_behind s at _ _ end k
    nondecimal_of_lem (Err NumberError.TooLarge) k = tt
    nondecimal_of_lem (Err NumberError.NoDigit) k = by_test (Behind at) (leb (length s) i) (λ _. tt) (λ _. tt)

    nondecimal_behind : (radix : Radix) → Behind at (nondecimal_data radix s i)
    unfolding nondecimal_data
    nondecimal_behind radix = nondecimal_of_lem (unsigned_at radix s i) (unsigned_found radix)

    indefinite_behind : Behind at (indefinite s i)
    unfolding indefinite
    indefinite_behind =
        by_test (Behind at) (ltb i (length s) && ended')
        (λ e. omega (arith, h, ltb-true i (length s) (and_left (ltb i (length s)) ended' e))) (λ _. tt)
      where
        ended' : Bool
        ended' = is "\n" (get_or s (length s - 1) 0)

    definite_behind : (n : ℕ) → Behind at (definite s i n)
    unfolding definite payload
    definite_behind n =
        by_test (Behind at) (leb (i + n) (length s) && every is_digit (take n (drop i s)))
        (λ _. by_test (Behind at) (leb (i + n + size) (length s)) (λ _. followed_behind s at _ _ (i + n + size) (omega (arith, h))) (λ _. tt))
        (λ _. tt)
      where
        size : ℕ
        size = value_of 10 (take n (drop i s))

    block_behind : (b : ℕ) → Behind at (arbitrary_data b s i)
    unfolding arbitrary_data
    block_behind b =
        by_test (Behind at) (is_digit b) (λ _. by_test (Behind at) (is "0" b) (λ _. indefinite_behind) (λ _. definite_behind _))
        (λ _. tt)

    hash_by_lem : (b : ℕ) → Behind at (hash_by b s i)
    unfolding hash_by
    hash_by_lem b =
        by_test (Behind at) (is_digit b) (λ _. block_behind b)
        (λ _. by_test (Behind at) (is "H" b || is "h" b) (λ _. nondecimal_behind Hexadecimal)
        (λ _. by_test (Behind at) (is "Q" b || is "q" b) (λ _. nondecimal_behind Octal)
        (λ _. by_test (Behind at) (is "B" b || is "b" b) (λ _. nondecimal_behind Binary) (λ _. tt))))

  pub hash_behind : (i : ℕ) → at < i → Behind at (hash_data s i)
  unfolding hash_data
  hash_behind i h = by_test (Behind at) (leb (length s) i) (λ _. tt) (λ _. hash_by_lem (i + 1) (omega (arith, h)) (get_or s i 0))

-- an item of data that begins at a place after another
module _ (s : List ℕ) (at i : ℕ) (h : at < i) where
  pub expression_behind : Behind at (expression_data s i)
  unfolding expression_data bracketed
  expression_behind =
      by_test (Behind at) (stands_at 41 s end) (λ _. followed_behind s at _ _ (end + 1) (omega (arith, h, run_from in_expression s i))) (λ _. tt)
    where
      end : ℕ
      end = run_end in_expression s i

  pub string_behind : (q : ℕ) → Behind at (string_data q s i)
  unfolding string_data closed string_end
  string_behind q =
      by_test (Behind at) (leb (length s) end) (λ _. tt)
      (λ _. by_test (Behind at) (eqb (get_or s end 0) q) (λ _. followed_behind s at _ _ (end + 1) (omega (arith, h))) (λ _. tt))
    where
      end : ℕ
      end = i + in_string q (drop i s)

-- a place that a separator leads to is not before another
abbrev pub From : ℕ → Result ℕ ErrorCode → Type 0
From at (Ok next) = at ≤ next
From at (Err e) = Unit {0}

module _ (s : List ℕ) (next : ℕ) where
  pub newline_ends : From (length s) (newline_to s next)
  unfolding newline_to
  newline_ends = by_test (From (length s)) (ltb next (length s)) (λ _. tt) (λ e. ltb-false next (length s) e)

  pub newline_from : From next (newline_to s next)
  unfolding newline_to
  newline_from = by_test (From next) (ltb next (length s)) (λ _. tt) (λ _. omega arith)

  module _ (header : Bool) where
    pub colon_from : (common : Bool) → From next (colon_to s next header common)
    unfolding colon_to
    colon_from common = by_test (From next) (follows_colon s next && (header && not common)) (λ _. omega arith) (λ _. tt)

    pub question_from : From next (question_to s next header)
    unfolding question_to
    question_from = by_test (From next) (follows_query s next && header) (λ _. omega arith) (λ _. tt)

    pub comma_from : From next (comma_to s next header)
    unfolding comma_to item_at
    comma_from =
        by_test (From next) header (λ _. tt)
        (λ _. by_test (From next) (stands_at 44 s to || stands_at 59 s to) (λ _. tt) (λ _. run_from is_white_space s next))
      where
        to : ℕ
        to = run_end is_white_space s next
