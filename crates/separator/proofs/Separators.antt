-- Laws of the separators, as the code meets them.
use Rattle.std.specs.Prelude.{Ok, Err}
use Prim.Native.Nat.{ℕ, ◌≤◌, ◌<◌}
use mathlib.Core.Path.{◌≡◌}
use mathlib.Core.List.{List}
use mathlib.Core.Bool.{Bool, true, false, not}
use lib.ListN.{length, get_or}
use borrow.Author.Rules.{rules}
use borrow.Author.Tests.{le-leb, lt-leb, lt-ltb, le-ltb, eq-eqb, ne_eqb, not-true, not-false}
use Rattle.error.specs.declared.ErrorCode.TheVariants.{SyntaxError, InvalidSeparator, HeaderSeparatorError}
use Rattle.kind.specs.Class.{is_white_space, is_letter}
use Rattle.util.specs.Run.{run_end, stands_at}
use Rattle.separator.specs.Separator.{newline_to, follows_colon, colon_to, follows_query, question_to, item_at, comma_to}

module _ (s : List ℕ) (next : ℕ) where
  pub newline_inside' : next < length s → Err SyntaxError ≡ newline_to s next
  unfolding newline_to
  newline_inside' h = rw (lt-ltb next (length s) h)

  pub newline_last' : length s ≤ next → Ok next ≡ newline_to s next
  unfolding newline_to
  newline_last' h = rw (le-ltb next (length s) h)

pub ruleset newlines = (rules, newline_inside', newline_last')

module _ (s : List ℕ) (at : ℕ) where
  pub colon_past' : length s ≤ at → true ≡ follows_colon s at
  unfolding follows_colon
  colon_past' h = rw (le-leb (length s) at h)

  pub colon_letter' : at < length s → (r : Bool) → r ≡ is_letter (get_or s at 0) → r ≡ follows_colon s at
  unfolding follows_colon
  colon_letter' h r er = rw (lt-leb (length s) at h) er

module _ (s : List ℕ) (next : ℕ) (header common : Bool) (f : Bool) (ef : f ≡ follows_colon s next) where
  pub colon_ill' : not f ≡ true → Err InvalidSeparator ≡ colon_to s next header common
  unfolding colon_to
  colon_ill' q = rw (← ef, not-true f q)

  module _ (q : not f ≡ false) where
    pub colon_outside' : not header ≡ true → Err InvalidSeparator ≡ colon_to s next header common
    unfolding colon_to
    colon_outside' h = rw (← ef, not-false f q, not-true header h)

    module _ (h : not header ≡ false) where
      pub colon_common' : common ≡ true → Err InvalidSeparator ≡ colon_to s next header common
      unfolding colon_to
      colon_common' c = rw (← ef, not-false f q, not-false header h, c)

      pub colon_well' : common ≡ false → Ok next ≡ colon_to s next header common
      unfolding colon_to
      colon_well' c = rw (← ef, not-false f q, not-false header h, c)

pub ruleset colons = (rules, colon_past', colon_letter', colon_ill', colon_outside', colon_common', colon_well')

module _ (s : List ℕ) (at : ℕ) where
  pub query_past' : length s ≤ at → true ≡ follows_query s at
  unfolding follows_query
  query_past' h = rw (le-leb (length s) at h)

  module _ (h : at < length s) where
    pub query_unit' : get_or s at 0 ≡ 59 → true ≡ follows_query s at
    unfolding follows_query
    query_unit' e = rw (lt-leb (length s) at h, eq-eqb (get_or s at 0) 59 e)

    pub query_white' : (get_or s at 0 ≡ 59 → ⊥) → (r : Bool) → r ≡ is_white_space (get_or s at 0) → r ≡ follows_query s at
    unfolding follows_query
    query_white' n r er = rw (lt-leb (length s) at h, ne_eqb (get_or s at 0) 59 n) er

module _ (s : List ℕ) (next : ℕ) (header : Bool) (f : Bool) (ef : f ≡ follows_query s next) where
  pub query_ill' : not f ≡ true → Err SyntaxError ≡ question_to s next header
  unfolding question_to
  query_ill' q = rw (← ef, not-true f q)

  module _ (q : not f ≡ false) where
    pub query_outside' : not header ≡ true → Err SyntaxError ≡ question_to s next header
    unfolding question_to
    query_outside' h = rw (← ef, not-false f q, not-true header h)

    pub query_well' : not header ≡ false → Ok next ≡ question_to s next header
    unfolding question_to
    query_well' h = rw (← ef, not-false f q, not-false header h)

pub ruleset queries = (rules, query_past', query_unit', query_white', query_ill', query_outside', query_well')

module _ (s : List ℕ) (at : ℕ) (header : Bool) where
  pub comma_header' : header ≡ true → Err HeaderSeparatorError ≡ comma_to s at header
  unfolding comma_to
  comma_header' h = rw h

  module _ (h : header ≡ false) (next : ℕ) (en : next ≡ run_end is_white_space s at) (c : Bool) (ec : c ≡ stands_at 44 s next) where
    pub comma_twice' : c ≡ true → Err SyntaxError ≡ comma_to s at header
    unfolding comma_to item_at
    comma_twice' q = rw (h, ← en, ← ec, q)

    module _ (q : c ≡ false) (u : Bool) (eu : u ≡ stands_at 59 s next) where
      pub comma_unit' : u ≡ true → Err SyntaxError ≡ comma_to s at header
      unfolding comma_to item_at
      comma_unit' k = rw (h, ← en, ← ec, q, ← eu, k)

      pub comma_well' : u ≡ false → Ok next ≡ comma_to s at header
      unfolding comma_to item_at
      comma_well' k = rw (h, ← en, ← ec, q, ← eu, k)

pub ruleset commas = (rules, comma_header', comma_twice', comma_unit', comma_well')
