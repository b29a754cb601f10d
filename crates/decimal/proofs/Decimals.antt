-- Laws of decimal numbers and suffixes, as the code meets them.
use Rattle.std.specs.Prelude.{Result, Option, Some, None}
use Prim.Native.Nat.{ℕ, ◌+◌, ◌-◌, ◌≤◌, ◌<◌}
use mathlib.Core.Path.{◌≡◌, ◌∙◌}
use mathlib.Core.List.{List}
use mathlib.Core.Bool.{Bool, true, false, not}
use native.Mathlib.Omega.{arith}
use lib.Dec.{eqb}
use lib.ListN.{length, get_or, get_or-eq_default}
use borrow.Author.Rules.{rules}
use borrow.Author.Tests.{le-leb, lt-leb, lt-ltb, le-ltb, eq-eqb, ne_eqb, not-true, not-false}
use Rattle.error.specs.declared.ErrorCode.TheVariants.{NumericDataError, InvalidSuffix, SuffixTooLong}
use Rattle.kind.specs.Class.{is_letter, is_digit, is_white_space}
use Rattle.kind.proofs.Tests.{by_test}
use Rattle.util.specs.Run.{run_end, sign_end, stands_at}
use Rattle.util.proofs.Runs.{run_again, run_from}
use Rattle.token.specs.{View.view_of, declared.View.View}
use Rattle.token.specs.declared.Token.TheVariants.{DecimalNumericProgramData, DecimalNumericSuffixProgramData}
use Rattle.item.specs.Follow.{token, refused, followed}
use Rattle.item.specs.{Near.run_end_among}
use Rattle.item.proofs.Words.{among_from, among_under, among_whole}
use Rattle.decimal.specs.Decimal.{whole_end, has_whole, fraction_end, has_fraction, mantissa, begins_exponent, exponent, with_exponent, number, number_to, nrf, in_suffix, begins_suffix, suffixed, suffix_data, numeric_to, numeric_data}
use Rattle.error.specs.declared.ErrorCode.{ErrorCode}
use Rattle.token.specs.declared.Token.{Token}

module _ (s : List ℕ) (at : ℕ) where
  pub fraction_past' : length s ≤ at → at ≡ fraction_end s at
  unfolding fraction_end stands_at
  fraction_past' h = rw (le-ltb at (length s) h)

  pub fraction_none' : at < length s → (get_or s at 0 ≡ 46 → ⊥) → at ≡ fraction_end s at
  unfolding fraction_end stands_at
  fraction_none' h n = rw (lt-ltb at (length s) h, ne_eqb (get_or s at 0) 46 n)

  pub fraction_there' : at < length s → get_or s at 0 ≡ 46 → (r : ℕ) → r ≡ run_end is_digit s (at + 1) → r ≡ fraction_end s at
  unfolding fraction_end stands_at
  fraction_there' h e r er = rw (lt-ltb at (length s) h, e) er

  pub fraction_from : at ≤ fraction_end s at
  unfolding fraction_end
  fraction_from = by_test (λ (i : ℕ). at ≤ i) (stands_at 46 s at) (λ _. omega (arith, run_from is_digit s (at + 1))) (λ _. omega arith)

-- the mantissa, by the places behind its sign, its digits, and its fraction
module _ (s : List ℕ) (at whole : ℕ) (ew : whole ≡ sign_end s at) (point : ℕ) (ep : point ≡ run_end is_digit s whole) (end : ℕ) (ee : end ≡ fraction_end s point) where
  behind : point ≡ whole_end s at
  unfolding whole_end
  behind = rw (← ew) ep

  pub mantissa_forward' : point ≤ end
  mantissa_forward' = rw ee (fraction_from s point)

  pub mantissa_whole' : whole < point → Some end ≡ mantissa s at
  unfolding mantissa has_whole
  mantissa_whole' h = rw (← behind, ← ew, ← ee, lt-ltb whole point h)

  module _ (h : point ≤ whole) where
    pub mantissa_fraction' : 1 < end - point → Some end ≡ mantissa s at
    unfolding mantissa has_whole has_fraction
    mantissa_fraction' k = rw (← behind, ← ew, ← ee, le-ltb whole point h, lt-ltb 1 (end - point) k)

    pub mantissa_none' : end - point ≤ 1 → None ≡ mantissa s at
    unfolding mantissa has_whole has_fraction
    mantissa_none' k = rw (← behind, ← ew, ← ee, le-ltb whole point h, le-ltb 1 (end - point) k)

module _ (b : ℕ) where
  pub capital_e' : b ≡ 69 → true ≡ begins_exponent b
  unfolding begins_exponent
  capital_e' e = rw e

  pub small_e' : (b ≡ 69 → ⊥) → eqb b 101 ≡ begins_exponent b
  unfolding begins_exponent
  small_e' n = rw (ne_eqb b 69 n)

module _ (s : List ℕ) (at : ℕ) where
  pub exponent_past' : length s ≤ at → Some at ≡ exponent s at
  unfolding exponent begins_exponent
  exponent_past' h = rw (get_or-eq_default s 0 h)

  module _ (r : Bool) (er : r ≡ begins_exponent (get_or s at 0)) where
    pub exponent_none' : not r ≡ true → Some at ≡ exponent s at
    unfolding exponent
    exponent_none' q = rw (← er, not-true r q)

    module _ (q : not r ≡ false) (digits : ℕ) (ed : digits ≡ sign_end s (at + 1)) (end : ℕ) (ee : end ≡ run_end is_digit s digits) where
      pub exponent_broken' : end ≡ digits → None ≡ exponent s at
      unfolding exponent has_whole whole_end
      exponent_broken' e = let k : end ≤ digits = omega arith in rw (← er, not-false r q, ← ed, ← ee, le-ltb digits end k)

      pub exponent_there' : (end ≡ digits → ⊥) → Some end ≡ exponent s at
      unfolding exponent has_whole whole_end
      exponent_there' n =
          let k : digits < end = omega (arith, n, ee, run_from is_digit s digits) in
          rw (← er, not-false r q, ← ed, ← ee, lt-ltb digits end k)

  module _ (m : Option ℕ) (em : m ≡ mantissa s at) where
    pub number_well' : (end : ℕ) → m ≡ Some end → (r : Option ℕ) → r ≡ exponent s end → r ≡ number s at
    unfolding number with_exponent
    number_well' end e r er = er ∙ rw (← em, e)

    pub number_ill' : m ≡ None → None ≡ number s at
    unfolding number with_exponent
    number_ill' e = rw (← em, e)

  module _ (m : Option ℕ) (em : m ≡ number s at) where
    pub nrf_well' : (end : ℕ) → m ≡ Some end → token (DecimalNumericProgramData (view_of at end)) end ≡ nrf s at
    unfolding nrf number_to
    nrf_well' end e = rw (← em, e)

    pub nrf_ill' : m ≡ None → refused NumericDataError ≡ nrf s at
    unfolding nrf number_to
    nrf_ill' e = rw (← em, e)

    pub numeric_well' : (end : ℕ) → m ≡ Some end → (r : Result (Token × ℕ) ErrorCode) → r ≡ suffix_data s (view_of at end) → r ≡ numeric_data s at
    unfolding numeric_data numeric_to
    numeric_well' end e r er = er ∙ rw (← em, e)

    pub numeric_ill' : m ≡ None → refused NumericDataError ≡ numeric_data s at
    unfolding numeric_data numeric_to
    numeric_ill' e = rw (← em, e)

pub ruleset numbers = (rules, fraction_past', fraction_none', fraction_there', mantissa_forward', mantissa_whole', mantissa_fraction', mantissa_none', capital_e', small_e', exponent_past', exponent_none', exponent_broken', exponent_there', number_well', number_ill', nrf_well', nrf_ill', numeric_well', numeric_ill')

module _ (b : ℕ) (r : Bool) (er : r ≡ is_letter b) where
  pub suffix_letter' : r ≡ true → true ≡ in_suffix b
  unfolding in_suffix
  suffix_letter' q = rw (← er, q)

  module _ (q : r ≡ false) (d : Bool) (ed : d ≡ is_digit b) where
    pub suffix_digit' : d ≡ true → true ≡ in_suffix b
    unfolding in_suffix
    suffix_digit' k = rw (← er, q, ← ed, k)

    module _ (k : d ≡ false) where
      pub suffix_minus' : b ≡ 45 → true ≡ in_suffix b
      unfolding in_suffix
      suffix_minus' e = rw (← er, q, ← ed, k, eq-eqb b 45 e)

      pub suffix_slash' : (b ≡ 45 → ⊥) → b ≡ 47 → true ≡ in_suffix b
      unfolding in_suffix
      suffix_slash' n e = rw (← er, q, ← ed, k, ne_eqb b 45 n, eq-eqb b 47 e)

      pub suffix_point' : (b ≡ 45 → ⊥) → (b ≡ 47 → ⊥) → eqb b 46 ≡ in_suffix b
      unfolding in_suffix
      suffix_point' n m = rw (← er, q, ← ed, k, ne_eqb b 45 n, ne_eqb b 47 m)

module _ (s : List ℕ) (at : ℕ) where
  pub no_suffix' : length s ≤ at → false ≡ begins_suffix s at
  unfolding begins_suffix
  no_suffix' h = rw (le-ltb at (length s) h)

  module _ (h : at < length s) where
    pub begins_slash' : get_or s at 0 ≡ 47 → true ≡ begins_suffix s at
    unfolding begins_suffix
    begins_slash' e = rw (lt-ltb at (length s) h, e)

    pub begins_letter' : (get_or s at 0 ≡ 47 → ⊥) → (r : Bool) → r ≡ is_letter (get_or s at 0) → r ≡ begins_suffix s at
    unfolding begins_suffix
    begins_letter' n r er = rw (lt-ltb at (length s) h, ne_eqb (get_or s at 0) 47 n) er

module _ (s : List ℕ) (v : View) (at : ℕ) (ea : at ≡ run_end is_white_space s v.end) (r : Bool) (er : r ≡ begins_suffix s at) where
  -- what follows a number is looked for behind its white space, where none is left
  again : run_end is_white_space s at ≡ run_end is_white_space s v.end
  again = rw ea (run_again is_white_space s v.end)

  pub unsuffixed' : not r ≡ true → (x : Result (Token × ℕ) ErrorCode) → x ≡ followed (DecimalNumericProgramData v) InvalidSuffix s at → x ≡ suffix_data s v
  unfolding suffix_data followed
  unsuffixed' q x ex = ex ∙ rw (← ea, ← er, not-true r q, again, ← ea)

  module _ (q : not r ≡ false) (end : ℕ) (ee : end ≡ run_end_among 13 in_suffix s at) where
    pub suffix_forward' : at ≤ end
    suffix_forward' = rw ee (among_from 13 in_suffix s at)

    pub suffix_long' : 12 < end - at → refused SuffixTooLong ≡ suffix_data s v
    unfolding suffix_data suffixed
    suffix_long' h =
        let k : 12 < run_end in_suffix s at - at = omega (arith, h, ee, among_under 13 in_suffix s at) in
        rw (← ea, ← er, not-false r q, lt-leb (run_end in_suffix s at - at) 12 k)

    pub suffix_short' : end - at ≤ 12 → (x : Result (Token × ℕ) ErrorCode) → x ≡ followed (DecimalNumericSuffixProgramData v (view_of at end)) InvalidSuffix s end → x ≡ suffix_data s v
    unfolding suffix_data suffixed
    suffix_short' h x ex =
        let f : end ≡ run_end in_suffix s at = ee ∙ among_whole 13 in_suffix s at (omega (arith, h, ee)) in
        ex ∙ rw (← ea, ← er, not-false r q, ← f, le-leb (end - at) 12 h)

pub ruleset suffixes = (rules, suffix_letter', suffix_digit', suffix_minus', suffix_slash', suffix_point', no_suffix', begins_slash', begins_letter', unsuffixed', suffix_forward', suffix_long', suffix_short')
