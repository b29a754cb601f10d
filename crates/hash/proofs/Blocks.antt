-- Laws of blocks and of what else a `#` begins, as the code meets them.
use Rattle.std.specs.Prelude.{Result}
use Prim.Native.Nat.{ℕ, ◌+◌, ◌-◌, ◌≤◌, ◌<◌}
use mathlib.Core.Path.{◌≡◌, sym, ◌∙◌}
use mathlib.Core.Logic.{◌⊎◌, inl, inr, ⊎_elim}
use mathlib.Core.List.{List}
use mathlib.Core.Bool.{Bool, true, false, not}
use native.Mathlib.Omega.{arith}
use lib.Dec.{leb}
use lib.ListN.{length, get_or}
use borrow.Author.Rules.{rules}
use borrow.Author.Tests.{le-leb, lt-leb, lt-ltb, le-ltb, eq-eqb, ne_eqb, leb-true, not-true, not-false}
use Rattle.error.specs.declared.ErrorCode.TheVariants.{NumericDataError, SuffixNotAllowed, BlockDataError, InvalidBlockData}
use Rattle.kind.specs.Class.{is_digit}
use Rattle.kind.proofs.Tests.{and_left}
use Rattle.integer.specs.declared.Radix.TheVariants.{Binary, Octal, Hexadecimal}
use Rattle.token.specs.{View.view_of, declared.Token.TheVariants.ArbitraryBlockData}
use Rattle.item.specs.Follow.{token, refused, followed}
use Rattle.hash.specs.Nondecimal.{nondecimal_data}
use Rattle.hash.specs.Block.{payload, definite, indefinite, arbitrary_data, hash_by, hash_data}
use Rattle.error.specs.declared.ErrorCode.{ErrorCode}
use Rattle.token.specs.declared.Token.{Token}

module _ (s : List ℕ) (start n : ℕ) where
  pub payload_outside' : length s < start → refused InvalidBlockData ≡ payload s start n
  unfolding payload
  payload_outside' h = let k : length s < start + n = omega arith in rw (lt-leb (start + n) (length s) k)

  module _ (h : start ≤ length s) where
    pub payload_short' : length s - start < n → refused InvalidBlockData ≡ payload s start n
    unfolding payload
    payload_short' k = let m : length s < start + n = omega arith in rw (lt-leb (start + n) (length s) m)

    pub payload_whole' : n ≤ length s - start → (end : ℕ) → end ≡ start + n → (r : Result (Token × ℕ) ErrorCode)
        → r ≡ followed (ArbitraryBlockData (view_of start end)) SuffixNotAllowed s end → r ≡ payload s start n
    unfolding payload
    payload_whole' k end e r er = let m : start + n ≤ length s = omega arith in er ∙ rw (e, le-leb (start + n) (length s) m)

module _ (s : List ℕ) (at : ℕ) where
  pub rest_none' : length s ≤ at → refused InvalidBlockData ≡ indefinite s at
  unfolding indefinite
  rest_none' h = rw (le-ltb at (length s) h)

  module _ (h : at < length s) where
    pub rest_unended' : (get_or s (length s - 1) 0 ≡ 10 → ⊥) → refused InvalidBlockData ≡ indefinite s at
    unfolding indefinite
    rest_unended' n = rw (lt-ltb at (length s) h, ne_eqb (get_or s (length s - 1) 0) 10 n)

    pub rest_ended' : get_or s (length s - 1) 0 ≡ 10 → token (ArbitraryBlockData (view_of at (length s - 1))) (length s) ≡ indefinite s at
    unfolding indefinite
    rest_ended' q = rw (lt-ltb at (length s) h, eq-eqb (get_or s (length s - 1) 0) 10 q)

module _ (b : ℕ) (s : List ℕ) (at : ℕ) (r : Bool) (er : r ≡ is_digit b) where
  pub block_ill' : not r ≡ true → refused InvalidBlockData ≡ arbitrary_data b s at
  unfolding arbitrary_data
  block_ill' q = rw (← er, not-true r q)

  module _ (q : not r ≡ false) where
    pub block_rest' : b ≡ 48 → (x : Result (Token × ℕ) ErrorCode) → x ≡ indefinite s at → x ≡ arbitrary_data b s at
    unfolding arbitrary_data
    block_rest' e x ex = ex ∙ rw (← er, not-false r q, eq-eqb b 48 e)

    -- the digit that says the format is none below 0
    pub format_from' : 48 ≤ b
    unfolding is_digit
    format_from' = leb-true 48 b (and_left (leb 48 b) (leb b 57) (sym er ∙ not-false r q))

    pub format_some' : (b ≡ 48 → ⊥) → (n : ℕ) → n ≡ b - 48 → 0 < n
    format_some' m n e = omega (arith, format_from', m, e)

    pub block_digits' : (b ≡ 48 → ⊥) → (n : ℕ) → n ≡ b - 48 → (x : Result (Token × ℕ) ErrorCode) → x ≡ definite s at n → x ≡ arbitrary_data b s at
    unfolding arbitrary_data
    block_digits' m n e x ex = ex ∙ rw (← er, not-false r q, ne_eqb b 48 m, e)

module _ (s : List ℕ) (at : ℕ) where
  pub hash_nothing' : length s ≤ at → refused BlockDataError ≡ hash_data s at
  unfolding hash_data
  hash_nothing' h = rw (le-leb (length s) at h)

  module _ (h : at < length s) (r : Bool) (er : r ≡ is_digit (get_or s at 0)) where
    by_byte : hash_data s at ≡ hash_by (get_or s at 0) s (at + 1)
    unfolding hash_data
    by_byte = rw (lt-leb (length s) at h)

    pub hash_digit' : r ≡ true → (x : Result (Token × ℕ) ErrorCode) → x ≡ arbitrary_data (get_or s at 0) s (at + 1) → x ≡ hash_data s at
    unfolding hash_by
    hash_digit' q x ex = ex ∙ sym (by_byte ∙ rw (← er, q))

    module _ (q : r ≡ false) where
      pub hash_hex' : (get_or s at 0 ≡ 72) ⊎ (get_or s at 0 ≡ 104) → (x : Result (Token × ℕ) ErrorCode) → x ≡ nondecimal_data Hexadecimal s (at + 1) → x ≡ hash_data s at
      unfolding hash_by is_digit
      hash_hex' o x ex = ex ∙ sym (by_byte ∙ ⊎_elim (λ e. rw e) (λ e. rw e) o)

      pub hash_octal' : (get_or s at 0 ≡ 81) ⊎ (get_or s at 0 ≡ 113) → (x : Result (Token × ℕ) ErrorCode) → x ≡ nondecimal_data Octal s (at + 1) → x ≡ hash_data s at
      unfolding hash_by is_digit
      hash_octal' o x ex = ex ∙ sym (by_byte ∙ ⊎_elim (λ e. rw e) (λ e. rw e) o)

      pub hash_binary' : (get_or s at 0 ≡ 66) ⊎ (get_or s at 0 ≡ 98) → (x : Result (Token × ℕ) ErrorCode) → x ≡ nondecimal_data Binary s (at + 1) → x ≡ hash_data s at
      unfolding hash_by is_digit
      hash_binary' o x ex = ex ∙ sym (by_byte ∙ ⊎_elim (λ e. rw e) (λ e. rw e) o)

      pub hash_other' : ((get_or s at 0 ≡ 72) ⊎ (get_or s at 0 ≡ 104) → ⊥) → ((get_or s at 0 ≡ 81) ⊎ (get_or s at 0 ≡ 113) → ⊥)
          → ((get_or s at 0 ≡ 66) ⊎ (get_or s at 0 ≡ 98) → ⊥) → refused NumericDataError ≡ hash_data s at
      unfolding hash_by
      hash_other' nh nq nb =
          sym (by_byte
          ∙ rw (← er, q, ne_eqb (get_or s at 0) 72 (λ e. nh (inl e)), ne_eqb (get_or s at 0) 104 (λ e. nh (inr e)), ne_eqb (get_or s at 0) 81 (λ e. nq (inl e)), ne_eqb (get_or s at 0) 113 (λ e. nq (inr e)), ne_eqb (get_or s at 0) 66 (λ e. nb (inl e)), ne_eqb (get_or s at 0) 98 (λ e. nb (inr e))))

pub ruleset laws = (rules, payload_outside', payload_short', payload_whole', rest_none', rest_unended', rest_ended', block_ill', block_rest', format_from', format_some', block_digits')

pub ruleset hashes = (rules, hash_nothing', hash_digit', hash_hex', hash_octal', hash_binary', hash_other')
