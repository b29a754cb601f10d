-- Laws of reading one item of data by its form, as the code meets them.
use Rattle.std.specs.Prelude.{Result, Ok, Err}
use Prim.Native.Nat.{ℕ, ◌+◌, ◌-◌, ◌≤◌, ◌<◌}
use mathlib.Core.Path.{◌≡◌, refl, sym, ap, subst, ◌∙◌}
use mathlib.Core.Logic.{◌⊎◌, inl, inr, ⊎_elim}
use mathlib.Core.List.{List}
use mathlib.Core.Bool.{Bool, true, false, not, ◌&&◌, ◌||◌, false≢true}
use native.Mathlib.Omega.{arith}
use lib.Dec.{eqb, leb, ltb}
use lib.ListN.{length, get_or, take, drop}
use borrow.Author.Rules.{rules}
use borrow.Author.Tests.{eqb-true, leb-true, le-leb, lt-leb, ne_eqb}
use Rattle.error.specs.{declared.ErrorCode.ErrorCode, declared.ErrorCode.TheVariants.SyntaxError}
use Rattle.kind.specs.Class.{is, is_white_space, is_capital, is_small, is_digit, is_letter, is_sign, is_quote, is_ascii, in_mnemonic}
use Rattle.kind.specs.Kind.{kind_of}
use Rattle.kind.specs.declared.Kind.{Kind}
use Rattle.kind.specs.declared.Kind.TheVariants as kind
use Rattle.kind.proofs.Bytes.{agrees}
use Rattle.kind.proofs.Tests.{by_test, either, or_left, or_right, and_right, clash, less_or_not}
use Rattle.util.specs.Run.{run_end, stands_at, every}
use Rattle.integer.specs.{Digit.value_of, Number.unsigned_at}
use Rattle.integer.specs.declared.Radix.TheVariants.{Binary, Octal, Hexadecimal}
use Rattle.token.specs.{declared.View.View, declared.Token.Token}
use Rattle.token.specs.declared.Token.TheVariants.{HeaderMnemonicSeparator, HeaderQuerySuffix, ProgramDataSeparator}
use Rattle.item.specs.{Follow.ends_data, Follow.followed, Word.star_end, Word.mnemonic, Word.character_data}
use Rattle.decimal.specs.Decimal.{in_suffix, begins_suffix, suffixed, suffix_data, numeric_data}
use Rattle.forms.proofs.ItemProgress.{by_end}
use Rattle.enclosed.specs.{String.string_end, String.closed, String.string_data}
use Rattle.enclosed.specs.Expression.{in_expression, bracketed, expression_data}
use Rattle.hash.specs.Nondecimal.{nondecimal_of, nondecimal_data}
use Rattle.hash.specs.Block.{payload, definite, indefinite, arbitrary_data, hash_by, hash_data}
use Rattle.separator.specs.Separator.{newline_to, colon_to, question_to, comma_to}
use Rattle.tokenizer.specs.Step.{taken, refusal, ended, read_as, passed, ended_by, outside, newline_before, colon_before, question_before, comma_before, by_kind, step}
use Rattle.tokenizer.specs.{declared.State.State, declared.Answer.Answer, declared.Step.Step}
use Rattle.tokenizer.proofs.Steps.{word_data', outside_data', letter', parenthesis', hash', quote', digit', sign', point'}
use Rattle.tokens.proofs.StepClaims.{claims}
use Rattle.items.specs.Entry.{token_entry, met_with, met_of, met_at}
use Rattle.items.specs.Entry as entry
use Rattle.items.specs.Internal.{begins_number, begins_data, ends_unit, among, ItemAt, takes, refuses, at_comma, at_end, newline_data}
use Rattle.items.proofs.Meets.{met_step, end_met}
use Rattle.integer.specs.declared.NumberError.{NumberError}

-- What the readers of the forms read is program data, and is followed as an item is.
module _ (s : List ℕ) where
  abbrev DataRead : Result (Token × ℕ) ErrorCode → Type 0
  DataRead (Ok (t, next)) = (token_entry t ≡ entry.Item) × (ends_data s next ≡ true)
  DataRead (Err e) = Unit {0}

  followed_data : (t : Token) (e : ErrorCode) (end : ℕ) → token_entry t ≡ entry.Item → DataRead (followed t e s end)
  unfolding followed
  followed_data t e end h = by_test DataRead (ends_data s (run_end is_white_space s end)) (λ k. (h, k)) (λ _. tt)

  character_data_lem : (at : ℕ) → DataRead (character_data s at)
  unfolding character_data
  character_data_lem at = by_test DataRead (leb (run_end in_mnemonic s at - at) 12) (λ _. followed_data _ _ _ refl) (λ _. tt)

  suffix_data_lem : (v : View) → DataRead (suffix_data s v)
  unfolding suffix_data suffixed
  suffix_data_lem v =
      let from : ℕ = run_end is_white_space s v.end in
      let short = leb (run_end in_suffix s from - from) 12 in
      by_test DataRead (begins_suffix s from) (λ _. by_test DataRead short (λ _. followed_data _ _ _ refl) (λ _. tt)) (λ _. followed_data _ _ _ refl)

  numeric_data_lem : (at : ℕ) → DataRead (numeric_data s at)
  numeric_data_lem at = by_end s at DataRead (λ _. tt) suffix_data_lem

  expression_data_lem : (at : ℕ) → DataRead (expression_data s at)
  unfolding expression_data bracketed
  expression_data_lem at = by_test DataRead (stands_at 41 s (run_end in_expression s at)) (λ _. followed_data _ _ _ refl) (λ _. tt)

  string_data_lem : (q at : ℕ) → DataRead (string_data q s at)
  unfolding string_data closed
  string_data_lem q at =
      let end : ℕ = string_end q s at in
      by_test DataRead (leb (length s) end) (λ _. tt) (λ _. by_test DataRead (eqb (get_or s end 0) q) (λ _. followed_data _ _ _ refl) (λ _. tt))

  nondecimal_of_lem : (at : ℕ) (u : Result (ℕ × ℕ) NumberError) → DataRead (nondecimal_of s at u)
  unfolding nondecimal_of
  nondecimal_of_lem at (Ok (v, end)) = followed_data _ _ _ refl
  nondecimal_of_lem at (Err NumberError.TooLarge) = tt
  nondecimal_of_lem at (Err NumberError.NoDigit) = by_test DataRead (leb (length s) at) (λ _. tt) (λ _. tt)

  block_data : (b at : ℕ) → DataRead (arbitrary_data b s at)
  unfolding arbitrary_data indefinite definite payload ends_data
  block_data b at =
      let n : ℕ = b - 48 in
      by_test DataRead (is_digit b)
      (λ _. by_test DataRead (is "0" b)
      (λ _. by_test DataRead (ltb at (length s) && is "\n" (get_or s (length s - 1) 0)) (λ _. (refl, or_left _ (le-leb (length s) (length s) (omega arith)))) (λ _. tt))
      (λ _. by_test DataRead (leb (at + n) (length s) && every is_digit (take n (drop at s)))
      (λ _. by_test DataRead (leb (at + n + value_of 10 (take n (drop at s))) (length s)) (λ _. followed_data _ _ _ refl) (λ _. tt))
      (λ _. tt))) (λ _. tt)

  hash_data_lem : (at : ℕ) → DataRead (hash_data s at)
  unfolding hash_data hash_by nondecimal_data
  hash_data_lem at =
      let b : ℕ = get_or s at 0 in
      by_test DataRead (leb (length s) at) (λ _. tt)
      (λ _. by_test DataRead (is_digit b) (λ _. block_data b (at + 1))
      (λ _. by_test DataRead (is "H" b || is "h" b) (λ _. nondecimal_of_lem (at + 1) (unsigned_at Hexadecimal s (at + 1)))
      (λ _. by_test DataRead (is "Q" b || is "q" b) (λ _. nondecimal_of_lem (at + 1) (unsigned_at Octal s (at + 1)))
      (λ _. by_test DataRead (is "B" b || is "b" b) (λ _. nondecimal_of_lem (at + 1) (unsigned_at Binary s (at + 1))) (λ _. tt)))))

-- What begins a number.
module _ (b : ℕ) where
  pub digit_begins' : (r : Bool) → r ≡ is_digit b → r ≡ true → true ≡ begins_number b
  unfolding begins_number
  digit_begins' r e q = sym (or_left (is_sign b || is "." b) (sym e ∙ q))

  pub sign_begins' : (r : Bool) → r ≡ is_sign b → r ≡ true → true ≡ begins_number b
  unfolding begins_number
  sign_begins' r e q = sym (or_right (is_digit b) (or_left (is "." b) (sym e ∙ q)))

  pub point_begins' : (r q : Bool) → r ≡ is_digit b → r ≡ false → q ≡ is_sign b → q ≡ false → eqb b 46 ≡ begins_number b
  unfolding begins_number
  point_begins' r q e h f k = rw (← e, h, ← f, k)

pub ruleset begins = (rules, digit_begins', sign_begins', point_begins')

-- the kinds of a sign, a point and a digit
abbrev of_number : Kind → Bool
of_number kind.Sign = true
of_number kind.Point = true
of_number kind.Digit = true
of_number k = false

numbers_of : ℕ → Bool
numbers_of b = not (begins_number b) || of_number (kind_of b)

of_numbers : (b : ℕ) → b < 58 → numbers_of b ≡ true
unfolding numbers_of kind_of begins_number is_white_space is_capital is_small is_digit is_sign is_quote is_ascii
of_numbers b h = agrees numbers_of (λ _. true) 58 b tt h

number_below : (b : ℕ) → begins_number b ≡ true → b < 58
unfolding begins_number is_digit is_sign
number_below b e =
    ⊎_elim (λ k. omega (arith, leb-true b 57 (and_right (leb 48 b) (leb b 57) k)))
    (λ k. ⊎_elim (λ l. ⊎_elim (λ m. omega (arith, eqb-true b 43 m)) (λ m. omega (arith, eqb-true b 45 m)) (either (eqb b 43) (eqb b 45) l)) (λ l. omega (arith, eqb-true b 46 l))
    (either (is_sign b) (is "." b) k))
    (either (is_digit b) (is_sign b || is "." b) e)

number_kind : (b : ℕ) → begins_number b ≡ true → of_number (kind_of b) ≡ true
unfolding numbers_of
number_kind b e = rw e at (of_numbers b (number_below b e))

-- The data at a newline.
module _ (s : List ℕ) (next : ℕ) (p : Result ℕ ErrorCode) (e : p ≡ newline_to s next) where
  pub newline_over' : (to : ℕ) → p ≡ Ok to → Ok (record { count = 0; place = to }) ≡ newline_data s next
  unfolding newline_data
  newline_over' to q = rw (← e, q)

  pub newline_wrong' : (c : ErrorCode) → p ≡ Err c → Err c ≡ newline_data s next
  unfolding newline_data
  newline_wrong' c q = rw (← e, q)

pub ruleset newlines = (rules, newline_over', newline_wrong')

-- What is answered at a byte that begins no data.
abbrev answered : Answer → Result (Token × ℕ) ErrorCode
answered (Answer.Token t) = Err SyntaxError
answered Answer.End = Err SyntaxError
answered (Answer.Refused e) = Err e

module _ (s : List ℕ) (at : ℕ) where
  abbrev st : State
  st = among at

  abbrev b : ℕ
  b = get_or s at 0

  abbrev Bare : Step → Type 0
  Bare x = met_at s st ≡ met_of x → ItemAt s at (answered x.answer)

  bare_passed : (t : Token) (p : Result ℕ ErrorCode) → ((next : State) → met_at s st ≡ met_with (token_entry t) next → ItemAt s at (Err SyntaxError)) → Bare (passed s st t false p)
  unfolding passed taken refusal
  bare_passed t (Ok next) f m = f _ m
  bare_passed t (Err e) f m = refuses m

  bare_ended : (p : Result ℕ ErrorCode) → ends_unit s at ≡ true → Bare (ended_by s st p)
  unfolding ended_by ended refusal
  bare_ended (Ok next) z m = at_end z m
  bare_ended (Err e) z m = refuses m

  module _ (n : begins_data b ≡ false) where
    bare_kind : Bare (by_kind s st at b (kind_of b))
    unfolding by_kind kind_of newline_before colon_before question_before comma_before mnemonic read_as taken refusal ends_unit begins_data begins_number is_letter
    bare_kind =
        by_test P (is "\n" b) (λ e. bare_ended (newline_to s (at + 1)) (or_right (leb (length s) at) (or_left (is ";" b) e)))
        (λ _. by_test P (is_white_space b) (λ e m. refuses m)
        (λ _. by_test P (is "*" b) (λ e. by_test (λ (r : Result (Token × ℕ) ErrorCode). Bare (read_as s st true r)) (leb (run_end in_mnemonic s (star_end s at) - at) 12) (λ _ m. refuses m) (λ _ m. refuses m))
        (λ _. by_test P (is ":" b) (λ e. bare_passed HeaderMnemonicSeparator (colon_to s (at + 1) false false) (λ _ m. refuses m))
        (λ _. by_test P (is "?" b) (λ e. bare_passed HeaderQuerySuffix (question_to s (at + 1) false) (λ _ m. refuses m))
        (λ _. by_test P (is ";" b) (λ e m. at_end (or_right (leb (length s) at) (or_right (is "\n" b) e)) m)
        (λ _. by_test P (is "," b) (λ e. bare_passed ProgramDataSeparator (comma_to s (at + 1) false) (λ _ m. at_comma m))
        (λ _. by_test P (is_sign b) (λ e. number (or_right (is_digit b) (or_left (is "." b) e)))
        (λ _. by_test P (is "." b) (λ e. number (or_right (is_digit b) (or_right (is_sign b) e)))
        (λ _. by_test P (is "#" b) (λ e. begun (or_right (is_letter b) (or_right (begins_number b) (or_right (is_quote b) (or_left (is "(" b) e)))))
        (λ _. by_test P (is_quote b) (λ e. begun (or_right (is_letter b) (or_right (begins_number b) (or_left (is "#" b || is "(" b) e))))
        (λ _. by_test P (is "(" b) (λ e. begun (or_right (is_letter b) (or_right (begins_number b) (or_right (is_quote b) (or_right (is "#" b) e)))))
        (λ _. by_test P (is "_" b) (λ e m. refuses m)
        (λ _. by_test P (is_digit b) (λ e. number (or_left (is_sign b || is "." b) e))
        (λ _. by_test P (is_small b) (λ e. letter (or_right (is_capital b) e))
        (λ _. by_test P (is_capital b) (λ e. letter (or_left (is_small b) e))
        (λ _. by_test P (is_ascii b) (λ e m. refuses m) (λ e m. refuses m)))))))))))))))))
      where
        P : Kind → Type 0
        P k = Bare (by_kind s st at b k)

        begun : {A : Type 0} → begins_data b ≡ true → A
        begun e = clash e n

        number : {A : Type 0} → begins_number b ≡ true → A
        number e = begun (or_right (is_letter b) (or_left (is_quote b || (is "#" b || is "(" b)) e))

        letter : {A : Type 0} → is_letter b ≡ true → A
        letter e = begun (or_left (begins_number b || (is_quote b || (is "#" b || is "(" b))) e)

    -- the answer of the token step there
    module _ (x : Step) (e : x ≡ step s st) where
      bare : (a : Answer) → x.answer ≡ a → ItemAt s at (answered a)
      unfolding ends_unit step
      bare a q =
          subst (λ (c : Answer). ItemAt s at (answered c)) q
          (⊎_elim (λ h. let z : by_kind s st at b (kind_of b) ≡ x = sym (e ∙ rw (lt-leb (length s) at h)) in subst Bare z bare_kind (met_step s st x e))
          (λ h. subst (λ (y : Step). ItemAt s at (answered y.answer)) (sym (claims.rests s st h) ∙ sym e) (at_end (or_left (is "\n" b || is ";" b) (le-leb (length s) at h)) (end_met s at h)))
          (less_or_not at (length s)))

      pub bare_end' : x.answer ≡ Answer.End → ItemAt s at (Err SyntaxError)
      bare_end' q = bare Answer.End q

      pub bare_refused' : (c : ErrorCode) → x.answer ≡ Answer.Refused c → ItemAt s at (Err c)
      bare_refused' c q = bare (Answer.Refused c) q

      pub bare_token' : (t : Token) → x.answer ≡ Answer.Token t → ItemAt s at (Err SyntaxError)
      bare_token' t q = bare (Answer.Token t) q

pub ruleset bares = (rules, bare_end', bare_refused', bare_token')

-- What is read at a place, by the byte there.
module _ (s : List ℕ) (at : ℕ) where
  as_item : (r : Result (Token × ℕ) ErrorCode) → DataRead s r → read_as s (among at) false r ≡ step s (among at) → ItemAt s at r
  unfolding read_as refusal
  as_item (Ok (t, next)) d f = takes (sym f) d.0 d.1
  as_item (Err e) d f = refuses (met_step s (among at) (refusal s (among at) e) f)

  pub none_read' : length s ≤ at → ItemAt s at (Err SyntaxError)
  unfolding ends_unit
  none_read' h = at_end (or_left (is "\n" (get_or s at 0) || is ";" (get_or s at 0)) (le-leb (length s) at h)) (end_met s at h)

  module _ (h : at < length s) (r : Result (Token × ℕ) ErrorCode) where
    abbrev x : Step
    x = read_as s (among at) false r

    abbrev k : Kind
    k = kind_of (get_or s at 0)

    pub word_read' : (q : Bool) → q ≡ is_letter (get_or s at 0) → q ≡ true → r ≡ character_data s at → ItemAt s at r
    word_read' q e p er = as_item r (rw er (character_data_lem s at)) (letter' s (among at) h q x e p (word_data' s (among at) at x refl r er refl))

    pub number_read' : (q : Bool) → q ≡ begins_number (get_or s at 0) → q ≡ true → r ≡ numeric_data s at → ItemAt s at r
    number_read' q e p er =
        as_item r (rw er (numeric_data_lem s at))
        (by k refl (number_kind (get_or s at 0) (sym e ∙ p)))
      where
        outer : x ≡ outside s (among at) (numeric_data s at)
        outer = outside_data' s (among at) at x (numeric_data s at) refl r er refl

        by : (j : Kind) → k ≡ j → of_number j ≡ true → x ≡ step s (among at)
        by kind.Sign f n = sign' s (among at) h k refl x f outer
        by kind.Point f n = point' s (among at) h k refl x f outer
        by kind.Digit f n = digit' s (among at) h k refl x f outer
        by j f n = absurd (false≢true n)

    pub expression_read' : get_or s at 0 ≡ 40 → r ≡ expression_data s (at + 1) → ItemAt s at r
    unfolding kind_of is_white_space is_sign is_quote
    expression_read' e er = as_item r (rw er (expression_data_lem s (at + 1))) (parenthesis' s (among at) h k refl x (rw e) (rw er))

    pub hash_read' : get_or s at 0 ≡ 35 → r ≡ hash_data s (at + 1) → ItemAt s at r
    unfolding kind_of is_white_space is_sign
    hash_read' e er =
        as_item r (rw er (hash_data_lem s (at + 1)))
        (hash' s (among at) h k refl x (rw e) (outside_data' s (among at) at x (hash_data s (at + 1)) refl r er refl))

    pub string_read' : (get_or s at 0 ≡ 34) ⊎ (get_or s at 0 ≡ 39) → r ≡ string_data (get_or s at 0) s (at + 1) → ItemAt s at r
    unfolding kind_of is_white_space is_sign is_quote
    string_read' e er =
        as_item r (rw er (string_data_lem s (get_or s at 0) (at + 1)))
        (quote' s (among at) h k refl x (⊎_elim (λ f. rw f) (λ f. rw f) e) (outside_data' s (among at) at x (string_data (get_or s at 0) s (at + 1)) refl r er refl))

-- a byte that no reader takes begins no data
pub none_begins' : (b : ℕ) → (b ≡ 40 → ⊥) → (l : Bool) → l ≡ is_letter b → l ≡ false → (n : Bool) → n ≡ begins_number b → n ≡ false → ((b ≡ 34) ⊎ (b ≡ 39) → ⊥) → (b ≡ 35 → ⊥)
    → begins_data b ≡ false
unfolding begins_data is_quote
none_begins' b p l el fl n en fn q h = rw (← el, fl, ← en, fn, ne_eqb b 34 (λ e. q (inl e)), ne_eqb b 39 (λ e. q (inr e)), ne_eqb b 35 h, ne_eqb b 40 p)

pub ruleset forms = (rules, none_read', word_read', number_read', expression_read', hash_read', string_read', none_begins')
