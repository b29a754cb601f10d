-- What a token of a header tells of the bytes at its place.
use Rattle.std.specs.Prelude.{Result}
use Prim.Native.Nat.{ℕ, ◌+◌, ◌-◌, ◌≤◌, ◌<◌}
use mathlib.Core.Path.{◌≡◌, refl, sym, ap, subst, ◌∙◌}
use mathlib.Core.Logic.{◌⊎◌, inl, inr, ⊎_elim}
use mathlib.Core.List.{List}
use mathlib.Core.Bool.{Bool, true, false, not, ◌&&◌, ◌||◌}
use lib.Dec.{eqb, leb, ltb}
use lib.ListN.{length, get_or}
use borrow.Author.Tests.{eqb-true, le-leb, lt-leb, not-true}
use Rattle.kind.specs.Class.{is_white_space, is_letter, in_mnemonic}
use Rattle.kind.specs.Kind.{kind_of}
use Rattle.kind.specs.declared.Kind.{Kind}
use Rattle.kind.specs.declared.Kind.TheVariants as kind
use Rattle.kind.proofs.Tests.{by_test, clash, either, or_left, or_right, and_left, and_right, less_or_not}
use Rattle.forms.proofs.OfKind.{star_is, colon_is, small_letter, capital_letter}
use Rattle.util.specs.Run.{run_end, stands_at}
use Rattle.item.specs.{Follow.ends_data, Follow.followed, Word.star_end, Word.mnemonic}
use Rattle.enclosed.specs.Expression.{in_expression, bracketed, expression_data}
use Rattle.separator.specs.Separator.{newline_to, follows_colon, colon_to, follows_query, question_to, comma_to}
use Rattle.token.specs.declared.Token.TheVariants.{HeaderMnemonicSeparator, HeaderQuerySuffix}
use Rattle.tokenizer.specs.Step.{state_of, taken, refusal, ended, read_as, passed, ended_by, newline_before, colon_before, question_before, comma_before, word_at, outside, by_kind, step}
use Rattle.tokenizer.specs.{declared.State.State, declared.Step.Step}
use Rattle.ahead.specs.Seen.{ahead_of, seen_with, seen_at}
use Rattle.ahead.specs.declared.Stop.TheVariants as stop
use Rattle.ahead.specs.declared.Ahead.{Ahead}
use Rattle.spoken.specs.Spoken.{is_letter_at}
use Rattle.header.specs.Internal.{ahead_at, goes_on}
use Rattle.header.proofs.{Looks.end_seen', Places.stands}
use Rattle.error.specs.declared.ErrorCode.{ErrorCode}
use Rattle.token.specs.declared.Token.{Token}

module _ (s : List ℕ) (p : ℕ) (c : Bool) where
  -- a mnemonic begins with a letter or a star; after a colon there is a letter, or nothing, and the header is no common command's
  abbrev Tells : Ahead → State → Type 0
  Tells (Ahead.Word w) st = (is_letter_at s p || stands_at 42 s p) ≡ true
  Tells Ahead.Colon st = (st ≡ state_of (p + 1) true c) × (c ≡ false) × (stands_at 58 s p ≡ true) × (follows_colon s (p + 1) ≡ true)
  Tells Ahead.Query st = Unit {0}
  Tells (Ahead.Stop x) st = Unit {0}
  Tells (Ahead.Refused e) st = Unit {0}

  abbrev P : Step → Type 0
  P x = Tells (ahead_of x.answer) x.state

  abbrev st : State
  st = state_of p true c

  module _ (h : p < length s) where
    abbrev b : ℕ
    b = get_or s p 0

    abbrev k : Kind
    k = kind_of b

    letter_here : is_letter b ≡ true → is_letter_at s p ≡ true
    unfolding is_letter_at
    letter_here e = rw (lt-leb (length s) p h) e

    reads : (common : Bool) → (is_letter_at s p || stands_at 42 s p) ≡ true → P (read_as s st common (mnemonic s p))
    unfolding mnemonic read_as taken refusal
    reads common e = by_test (λ (r : Result (Token × ℕ) ErrorCode). P (read_as s st common r)) (leb (run_end in_mnemonic s (star_end s p) - p) 12) (λ _. e) (λ _. tt)

    expression : P (read_as s st c (expression_data s (p + 1)))
    unfolding expression_data bracketed followed read_as taken refusal
    expression =
        by_test (λ (r : Result (Token × ℕ) ErrorCode). P (read_as s st c r)) (stands_at 41 s (run_end in_expression s (p + 1)))
        (λ _. by_test (λ (r : Result (Token × ℕ) ErrorCode). P (read_as s st c r)) (ends_data s (run_end is_white_space s (run_end in_expression s (p + 1) + 1))) (λ _. tt) (λ _. tt))
        (λ _. tt)

    newline_told : P (newline_before s st (p + 1))
    unfolding newline_before newline_to ended_by ended refusal
    newline_told = by_test (λ (x : Result ℕ ErrorCode). P (ended_by s st x)) (ltb (p + 1) (length s)) (λ _. tt) (λ _. tt)

    colon_told : k ≡ kind.Colon → P (colon_before s st (p + 1))
    unfolding colon_before colon_to passed taken refusal
    colon_told e =
        by_test (λ (x : Result ℕ ErrorCode). P (passed s st HeaderMnemonicSeparator true x)) (follows_colon s (p + 1) && not c)
        (λ f.
        (refl, not-true c (and_right (follows_colon s (p + 1)) (not c) f), stands s p 58 h (eqb-true b 58 (colon_is b e)), and_left (follows_colon s (p + 1)) (not c) f))
        (λ _. tt)

    question_told : P (question_before s st (p + 1))
    unfolding question_before question_to passed taken refusal
    question_told = by_test (λ (x : Result ℕ ErrorCode). P (passed s st HeaderQuerySuffix false x)) (follows_query s (p + 1) && true) (λ _. tt) (λ _. tt)

    by_kind_lem : (x : Kind) → k ≡ x → P (by_kind s st p b x)
    unfolding by_kind comma_before comma_to passed word_at outside refusal taken
    by_kind_lem kind.Newline e = newline_told
    by_kind_lem kind.Star e = reads true (or_right (is_letter_at s p) (stands s p 42 h (eqb-true b 42 (star_is b e))))
    by_kind_lem kind.Colon e = colon_told e
    by_kind_lem kind.Question e = question_told
    by_kind_lem kind.Semicolon e = tt
    by_kind_lem kind.Comma e = tt
    by_kind_lem kind.Blank e = tt
    by_kind_lem kind.Small e = reads c (or_left (stands_at 42 s p) (letter_here (small_letter b e)))
    by_kind_lem kind.Capital e = reads c (or_left (stands_at 42 s p) (letter_here (capital_letter b e)))
    by_kind_lem kind.Parenthesis e = expression
    by_kind_lem kind.Other e = tt
    by_kind_lem kind.Underscore e = tt
    by_kind_lem kind.Beyond e = tt
    by_kind_lem kind.Hash e = tt
    by_kind_lem kind.Quote e = tt
    by_kind_lem kind.Digit e = tt
    by_kind_lem kind.Sign e = tt
    by_kind_lem kind.Point e = tt

  told : P (step s st)
  unfolding step ended
  told = ⊎_elim (λ h. rw (lt-leb (length s) p h) (by_kind_lem h (kind_of (get_or s p 0)) refl)) (λ h. rw (le-leb (length s) p h) tt) (less_or_not p (length s))

  tells : Tells (ahead_at s p c).ahead (ahead_at s p c).state
  unfolding seen_at
  tells = told

  tells_of : (x : Ahead) → (ahead_at s p c).ahead ≡ x → Tells x (ahead_at s p c).state
  tells_of x e = subst (λ (y : Ahead). Tells y (ahead_at s p c).state) e tells

  -- where no mnemonic begins, none is ahead
  pub no_mnemonic : {A : Type 0} {w : _} → is_letter_at s p ≡ false → stands_at 42 s p ≡ false → (ahead_at s p c).ahead ≡ Ahead.Word w → A
  no_mnemonic {w = w} e f q = clash (tells_of (Ahead.Word w) q) (rw (e, f))

  -- a colon without a letter after it is the last byte of the text
  pub last_colon : (ahead_at s p c).ahead ≡ Ahead.Colon → goes_on s p ≡ false
      → (length s ≤ p + 1) × (seen_with (Ahead.Stop stop.Text) (state_of (p + 1) true c) ≡ seen_at s (ahead_at s p c).state)
  unfolding goes_on follows_colon is_letter_at
  last_colon q g = by (less_or_not (p + 1) (length s))
    where
      z : ((ahead_at s p c).state ≡ state_of (p + 1) true c) × (c ≡ false) × (stands_at 58 s p ≡ true) × (follows_colon s (p + 1) ≡ true)
      z = tells_of Ahead.Colon q

      none : is_letter_at s (p + 1) ≡ false
      none = rw z.2 at g

      by : (p + 1 < length s) ⊎ (length s ≤ p + 1) → (length s ≤ p + 1) × (seen_with (Ahead.Stop stop.Text) (state_of (p + 1) true c) ≡ seen_at s (ahead_at s p c).state)
      by (inl l) = clash (rw (lt-leb (length s) (p + 1) l) at z.3) (rw (lt-leb (length s) (p + 1) l) at none)
      by (inr l) = (l, end_seen' s (state_of (p + 1) true c) _ l refl ∙ ap (seen_at s) (sym z.0))

  -- and there is none in a common command
  pub not_common : (ahead_at s p c).ahead ≡ Ahead.Colon → c ≡ false
  not_common q = (tells_of Ahead.Colon q).1

  pub colon_place : (ahead_at s p c).ahead ≡ Ahead.Colon → (ahead_at s p c).state.place ≡ p + 1
  colon_place q = ap (λ (x : State). x.place) (tells_of Ahead.Colon q).0
