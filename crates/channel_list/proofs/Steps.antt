-- Laws of the step through a channel list, as the code meets them.
use Rattle.std.specs.Prelude.{Result, Ok, Err, Some, None}
use Prim.Native.Nat.{ℕ, ◌+◌, ◌*◌, ◌^◌, ◌≤◌, ◌<◌}
use mathlib.Core.Path.{◌≡◌, refl, sym, ap, ◌∙◌}
use mathlib.Core.Logic.{◌⊎◌, inl, inr, ⊎_elim}
use mathlib.Core.List.{List}
use mathlib.Core.Bool.{Bool, true, false, not}
use native.Mathlib.Omega.{arith}
use lib.Dec.{eqb, leb}
use lib.ListN.{length, get_or}
use borrow.Author.Rules.{rules}
use borrow.Author.Tests.{eq-eqb, ne_eqb, le-leb, lt-leb, lt-ltb, le-ltb, leb-false, not-true, not-false}
use mir.Syntax.{w64}
use mir.Val.{Fits}
use Rattle.error.specs.declared.ErrorCode.{ErrorCode}
use Rattle.error.specs.declared.ErrorCode.TheVariants.{InvalidCharacter, InvalidStringData, SuffixNotAllowed, InvalidExpression}
use Rattle.kind.specs.Class.{is_digit, is_sign, is_quote}
use Rattle.kind.proofs.Tests.{or_right}
use Rattle.util.specs.Run.{stands_at}
use Rattle.token.specs.{Token.view_in, View.view_of, declared.View.View, declared.Token.Token, declared.Token.TheVariants.StringProgramData}
use Rattle.forms.proofs.ItemAccepted.{only_then, only_else, only_followed}
use Rattle.enclosed.specs.String.{string_end, closed, string_data}
use Rattle.channel_spec.specs.{Spec.spec_at, Spec.is_empty, declared.ChannelSpec.ChannelSpec}
use Rattle.channel_list.specs.List.{state_of, opened, taken, refusal, ended, begins_spec, range_of, range_to, specs_from, specs_at, path_of, path_at, item_at, comma_before, step, step_at, Inside}
use Rattle.channel_list.specs.{declared.State.State, declared.Step.Step, declared.Front.Front}
use Rattle.channel_list.specs.declared.Token.TheVariants as item
use Rattle.channel_list.specs.declared.Answer.TheVariants as answer
use Rattle.channel_list.specs.declared.Token as items

module _ (s : List ℕ) (b : Bool) (eb : b ≡ stands_at 64 s 0) where
  pub not_one' : not b ≡ true → None ≡ opened s
  unfolding opened
  not_one' q = rw (← eb, not-true b q)

  pub opened' : not b ≡ false → Some (state_of 1 true) ≡ opened s
  unfolding opened
  opened' q = rw (← eb, not-false b q)

pub taken_is' : (t : items.Token) (next : ℕ) → record { answer = answer.Token t; state = state_of next false } ≡ taken t next
unfolding taken
taken_is' t next = refl

pub refusal_is' : (s : List ℕ) (st : State) (e : ErrorCode) → record { answer = answer.Refused e; state = state_of (length s) st.first } ≡ refusal s st e
unfolding refusal
refusal_is' s st e = refl

module _ (b : ℕ) (d : Bool) (ed : d ≡ is_digit b) where
  pub begins_digit' : d ≡ true → true ≡ begins_spec b
  unfolding begins_spec
  begins_digit' q = rw (← ed, q)

  pub begins_sign' : d ≡ false → (g : Bool) → g ≡ is_sign b → g ≡ begins_spec b
  unfolding begins_spec
  begins_sign' q g eg = rw (← ed, q) eg

pub ruleset parts = (rules, not_one', opened', taken_is', refusal_is', begins_digit', begins_sign')

module _ (s : List ℕ) (st : State) (at : ℕ) (x : Step) where
  -- the end of a range
  module _ (begin end : ChannelSpec) (ee : end ≡ spec_at s at) where
    pub range_empty' : end.view.start ≡ end.view.end → x ≡ refusal s st InvalidExpression → x ≡ range_to s st at begin
    unfolding range_to range_of is_empty
    range_empty' e ex = ex ∙ rw (← ee, eq-eqb end.view.start end.view.end e)

    module _ (n : end.view.start ≡ end.view.end → ⊥) where
      pub range_unequal' : (begin.dimension ≡ end.dimension → ⊥) → x ≡ refusal s st InvalidExpression → x ≡ range_to s st at begin
      unfolding range_to range_of is_empty
      range_unequal' u ex = ex ∙ rw (← ee, ne_eqb end.view.start end.view.end n, ne_eqb begin.dimension end.dimension u)

      pub range' : begin.dimension ≡ end.dimension → x ≡ taken (item.ChannelRange begin end) end.view.end → x ≡ range_to s st at begin
      unfolding range_to range_of is_empty
      range' d ex = ex ∙ rw (← ee, ne_eqb end.view.start end.view.end n, eq-eqb begin.dimension end.dimension d)

  -- a spec, and what follows it
  module _ (begin : ChannelSpec) (eb : begin ≡ spec_at s at) where
    pub spec_last' : length s ≤ begin.view.end → x ≡ taken (item.ChannelSpec begin) begin.view.end → x ≡ specs_at s st at
    unfolding specs_at specs_from stands_at
    spec_last' h ex = ex ∙ rw (← eb, le-ltb begin.view.end (length s) h)

    module _ (h : begin.view.end < length s) where
      pub spec_alone' : (get_or s begin.view.end 0 ≡ 58 → ⊥) → x ≡ taken (item.ChannelSpec begin) begin.view.end → x ≡ specs_at s st at
      unfolding specs_at specs_from stands_at
      spec_alone' n ex = ex ∙ rw (← eb, lt-ltb begin.view.end (length s) h, ne_eqb (get_or s begin.view.end 0) 58 n)

      pub spec_colon' : get_or s begin.view.end 0 ≡ 58 → x ≡ range_to s st (begin.view.end + 1) begin → x ≡ specs_at s st at
      unfolding specs_at specs_from stands_at
      spec_colon' e ex = ex ∙ rw (← eb, lt-ltb begin.view.end (length s) h, eq-eqb (get_or s begin.view.end 0) 58 e)

pub ruleset ranges = (rules, range_empty', range_unequal', range', spec_last', spec_alone', spec_colon')

-- a string that was read ends before a quote, inside the text
module _ (q : ℕ) (s : List ℕ) (at : ℕ) (t : Token) (next : ℕ) (e : string_data q s at ≡ Ok (t, next)) where
  abbrev end : ℕ
  end = string_end q s at

  pub string_token : (t ≡ StringProgramData (view_of at end)) × (end < length s)
  unfolding string_data closed
  string_token =
      let c = only_else t next (leb (length s) end) _ InvalidStringData e in
      let d = only_then t next (eqb (get_or s end 0) q) _ InvalidCharacter c.1 in
      (sym (only_followed t next (StringProgramData (view_of at end)) SuffixNotAllowed s (end + 1) d.1), leb-false (length s) end c.0)

module _ (q : ℕ) (s : List ℕ) (st : State) (at : ℕ) (r : Result (Token × ℕ) ErrorCode) (er : r ≡ string_data q s at) where
  pub path_refused' : (e : ErrorCode) → r ≡ Err e → (x : Step) → x ≡ refusal s st e → x ≡ path_at q s st at
  unfolding path_at path_of
  path_refused' e k x ex = ex ∙ rw (← er, k)

  module _ (t : Token) (next : ℕ) (k : r ≡ Ok (t, next)) (v : View) (ev : v ≡ view_in t) where
    shown : v ≡ view_of at (string_end q s at)
    shown = ev ∙ ap view_in (string_token q s at t next (sym er ∙ k)).0

    pub path_fits' : length s * 1 < 2 ^ 63 → Fits w64 (v.end + 1)
    path_fits' l =
        let e : v.end ≡ string_end q s at = ap (λ (u : View). u.end) shown in
        record { fits = omega (arith, l, e, (string_token q s at t next (sym er ∙ k)).1) }

    pub path' : (x : Step) → x ≡ taken (item.PathName v) (v.end + 1) → x ≡ path_at q s st at
    unfolding path_at path_of
    path' x ex = ex ∙ rw (← er, k, ev)

pub ruleset paths = (rules, path_refused', path_fits', path')

quote : (b : ℕ) → (b ≡ 34) ⊎ (b ≡ 39) → is_quote b ≡ true
unfolding is_quote
quote b k = ⊎_elim (λ e. rw (eq-eqb b 34 e)) (λ e. or_right (eqb b 34) (eq-eqb b 39 e)) k

module _ (s : List ℕ) (st : State) (at : ℕ) (x : Step) where
  -- an item, by its first byte
  module _ (r : Bool) (er : r ≡ begins_spec (get_or s at 0)) where
    pub item_spec' : r ≡ true → x ≡ specs_at s st at → x ≡ item_at s st at
    unfolding item_at
    item_spec' q ex = ex ∙ rw (← er, q)

    module _ (q : r ≡ false) where
      pub item_quote' : (get_or s at 0 ≡ 34) ⊎ (get_or s at 0 ≡ 39) → x ≡ path_at (get_or s at 0) s st (at + 1) → x ≡ item_at s st at
      unfolding item_at
      item_quote' k ex = ex ∙ rw (← er, q, quote (get_or s at 0) k)

      pub item_other' : ((get_or s at 0 ≡ 34) ⊎ (get_or s at 0 ≡ 39) → ⊥) → x ≡ refusal s st InvalidExpression → x ≡ item_at s st at
      unfolding item_at is_quote
      item_other' n ex = ex ∙ rw (← er, q, ne_eqb (get_or s at 0) 34 (λ e. n (inl e)), ne_eqb (get_or s at 0) 39 (λ e. n (inr e)))

pub ruleset arms = (rules, item_spec', item_quote', item_other')

-- Where the next item begins.
module _ (s : List ℕ) (st : State) (h : st.place < length s) where
  pub front_here' : (get_or s st.place 0 ≡ 44 → ⊥) → step_at s st (Front.Item st.place) ≡ step s st
  unfolding step step_at
  front_here' n = rw (lt-leb (length s) st.place h, ne_eqb (get_or s st.place 0) 44 n)

  module _ (e : get_or s st.place 0 ≡ 44) where
    pub front_first' : st.first ≡ true → step_at s st Front.Refused ≡ step s st
    unfolding step step_at comma_before
    front_first' f = rw (lt-leb (length s) st.place h, eq-eqb (get_or s st.place 0) 44 e, f)

    module _ (f : st.first ≡ false) where
      pub front_last' : length s ≤ st.place + 1 → step_at s st (Front.End (st.place + 1)) ≡ step s st
      unfolding step step_at comma_before
      front_last' l = rw (lt-leb (length s) st.place h, eq-eqb (get_or s st.place 0) 44 e, f, le-leb (length s) (st.place + 1) l)

      pub front_behind' : st.place + 1 < length s → step_at s st (Front.Item (st.place + 1)) ≡ step s st
      unfolding step step_at comma_before
      front_behind' l = rw (lt-leb (length s) st.place h, eq-eqb (get_or s st.place 0) 44 e, f, lt-leb (length s) (st.place + 1) l)

module _ (s : List ℕ) where
  pub inside_item' : (at : ℕ) → at < length s → Inside s (Front.Item at)
  unfolding Inside
  inside_item' at h = h

  pub inside_end' : (at : ℕ) → Inside s (Front.End at)
  unfolding Inside
  inside_end' at = tt

  pub inside_refused' : Inside s Front.Refused
  unfolding Inside
  inside_refused' = tt

pub ruleset fronts = (rules, front_here', front_first', front_last', front_behind', inside_item', inside_end', inside_refused')

module _ (s : List ℕ) (st : State) where
  pub end' : length s ≤ st.place → record { answer = answer.End; state = st } ≡ step s st
  unfolding step ended
  end' h = rw (le-leb (length s) st.place h)

  -- the step, by its front
  module _ (f : Front) where
    pub item_inside' : Inside s f → (at : ℕ) → f ≡ Front.Item at → at < length s
    unfolding Inside
    item_inside' i at k = rw k at i

    module _ (e : step_at s st f ≡ step s st) where
      pub item' : (at : ℕ) → f ≡ Front.Item at → (x : Step) → x ≡ item_at s st at → x ≡ step s st
      unfolding step_at
      item' at k x ex = ex ∙ rw k at e

      pub last' : (at : ℕ) → f ≡ Front.End at → record { answer = answer.End; state = state_of at st.first } ≡ step s st
      unfolding step_at ended
      last' at k = rw k at e

      pub refused' : f ≡ Front.Refused → (x : Step) → x ≡ refusal s st InvalidExpression → x ≡ step s st
      unfolding step_at
      refused' k x ex = ex ∙ rw k at e

pub ruleset steps = (rules, end', item_inside', item', last', refused')
