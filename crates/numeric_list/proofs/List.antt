-- Laws of numeric lists, as the code meets them.
use Rattle.std.specs.Prelude.{Result, Ok, Err, Option, Some, None}
use Prim.Native.Nat.{ℕ, ◌+◌, ◌≤◌, ◌<◌}
use mathlib.Core.Path.{◌≡◌, refl, ◌∙◌}
use mathlib.Core.List.{List}
use mathlib.Core.Bool.{Bool, true, false, not}
use lib.ListN.{length, get_or}
use borrow.Author.Rules.{rules}
use borrow.Author.Tests.{le-leb, lt-leb, lt-ltb, le-ltb, eq-eqb, ne_eqb, not-true, not-false}
use Rattle.error.specs.{declared.ErrorCode.ErrorCode, declared.ErrorCode.TheVariants.InvalidExpression}
use Rattle.kind.specs.Class.{is_digit}
use Rattle.util.specs.Run.{stands_at}
use Rattle.token.specs.{View.view_of, declared.View.View}
use Rattle.token.specs.declared.Token as token
use Rattle.decimal.specs.Decimal.{nrf}
use Rattle.numeric_list.specs.List.{state_of, taken, refusal, range_by, range_to, item_step, item_at, begins, comma_before, step, step_at}
use Rattle.numeric_list.specs.{declared.State.State, declared.Token.Token}
use Rattle.numeric_list.specs.{declared.Token.TheVariants.Numeric, declared.Token.TheVariants.NumericRange}
use Rattle.numeric_list.specs.declared.Answer.TheVariants as answer
use Rattle.numeric_list.specs.declared.Step.{Step}
use Rattle.token.specs.declared.Token.{Token as DataToken}

pub taken_is' : (t : Token) (next : ℕ) → record { answer = answer.Token t; state = state_of next false } ≡ taken t next
unfolding taken
taken_is' t next = refl

pub refusal_is' : (s : List ℕ) (st : State) → record { answer = answer.Refused InvalidExpression; state = state_of (length s) st.first } ≡ refusal s st
unfolding refusal
refusal_is' s st = refl

module _ (b : ℕ) (first d : Bool) (ed : d ≡ is_digit b) where
  pub begins_digit' : d ≡ true → true ≡ begins b first
  unfolding begins
  begins_digit' q = rw (← ed, q)

  module _ (q : d ≡ false) where
    pub begins_minus' : b ≡ 45 → true ≡ begins b first
    unfolding begins
    begins_minus' e = rw (← ed, q, eq-eqb b 45 e)

    pub begins_plus' : (b ≡ 45 → ⊥) → b ≡ 43 → first ≡ begins b first
    unfolding begins
    begins_plus' n e = rw (← ed, q, ne_eqb b 45 n, eq-eqb b 43 e)

    pub begins_other' : (b ≡ 45 → ⊥) → (b ≡ 43 → ⊥) → false ≡ begins b first
    unfolding begins
    begins_other' n m = rw (← ed, q, ne_eqb b 45 n, ne_eqb b 43 m)

module _ (s : List ℕ) (st : State) (at : ℕ) (x : Step) where
  -- a number from the place on, by what was read there
  module _ (r : Result (DataToken × ℕ) ErrorCode) (er : r ≡ nrf s at) where
    pub range_well' : (begin : View) (t : token.Token) (next : ℕ) → r ≡ Ok (t, next) → x ≡ taken (NumericRange begin (view_of at next)) next → x ≡ range_to s st at begin
    unfolding range_to range_by
    range_well' begin t next e ex = ex ∙ rw (← er, e)

    pub range_ill' : (begin : View) (e : ErrorCode) → r ≡ Err e → x ≡ refusal s st → x ≡ range_to s st at begin
    unfolding range_to range_by
    range_ill' begin e q ex = ex ∙ rw (← er, q)

    pub item_ill' : (e : ErrorCode) → r ≡ Err e → x ≡ refusal s st → x ≡ item_at s st at
    unfolding item_at item_step
    item_ill' e q ex = ex ∙ rw (← er, q)

    module _ (t : token.Token) (next : ℕ) (e : r ≡ Ok (t, next)) where
      pub item_last' : length s ≤ next → x ≡ taken (Numeric (view_of at next)) next → x ≡ item_at s st at
      unfolding item_at item_step stands_at
      item_last' h ex = ex ∙ rw (← er, e, le-ltb next (length s) h)

      pub item_alone' : next < length s → (get_or s next 0 ≡ 58 → ⊥) → x ≡ taken (Numeric (view_of at next)) next → x ≡ item_at s st at
      unfolding item_at item_step stands_at
      item_alone' h n ex = ex ∙ rw (← er, e, lt-ltb next (length s) h, ne_eqb (get_or s next 0) 58 n)

      pub item_range' : next < length s → get_or s next 0 ≡ 58 → x ≡ range_to s st (next + 1) (view_of at next) → x ≡ item_at s st at
      unfolding item_at item_step stands_at
      item_range' h c ex = ex ∙ rw (← er, e, lt-ltb next (length s) h, eq-eqb (get_or s next 0) 58 c)

-- The step, by the byte that stands at its place.
module _ (s : List ℕ) (st : State) where
  pub end' : length s ≤ st.place → record { answer = answer.End; state = st } ≡ step s st
  unfolding step
  end' h = rw (le-leb (length s) st.place h)

  -- where its item begins
  module _ (h : st.place < length s) where
    module _ (e : get_or s st.place 0 ≡ 44) where
      pub front_first' : st.first ≡ true → step_at s st None ≡ step s st
      unfolding step step_at comma_before
      front_first' f = rw (lt-leb (length s) st.place h, eq-eqb (get_or s st.place 0) 44 e, f)

      pub front_behind' : st.first ≡ false → step_at s st (Some (st.place + 1)) ≡ step s st
      unfolding step step_at comma_before
      front_behind' f = rw (lt-leb (length s) st.place h, eq-eqb (get_or s st.place 0) 44 e, f)

    module _ (n : get_or s st.place 0 ≡ 44 → ⊥) (r : Bool) (er : r ≡ begins (get_or s st.place 0) st.first) where
      pub front_other' : not r ≡ true → step_at s st None ≡ step s st
      unfolding step step_at
      front_other' q = rw (lt-leb (length s) st.place h, ne_eqb (get_or s st.place 0) 44 n, ← er, not-true r q)

      pub front_here' : not r ≡ false → step_at s st (Some st.place) ≡ step s st
      unfolding step step_at
      front_here' q = rw (lt-leb (length s) st.place h, ne_eqb (get_or s st.place 0) 44 n, ← er, not-false r q)

  module _ (f : Option ℕ) (e : step_at s st f ≡ step s st) (x : Step) where
    pub item' : (at : ℕ) → f ≡ Some at → x ≡ item_at s st at → x ≡ step s st
    unfolding step_at
    item' at k ex = ex ∙ rw k at e

    pub refused' : f ≡ None → x ≡ refusal s st → x ≡ step s st
    unfolding step_at
    refused' k ex = ex ∙ rw k at e

pub ruleset laws = (rules, taken_is', refusal_is', begins_digit', begins_minus', begins_plus', begins_other', range_well', range_ill', item_ill', item_last', item_alone', item_range', end', front_first', front_behind', front_other', front_here', item', refused')
