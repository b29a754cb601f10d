-- What the private functions answer. No promise of a public function rests on this.
use Rattle.std.specs.Prelude.{ℕ, ◌≡◌, List, Bool, true, false, ◌||◌, leb, length, get_or, Result, Ok, Err}
use Rattle.error.specs.declared.ErrorCode.{ErrorCode}
use Rattle.error.specs.declared.ErrorCode.TheVariants.{SyntaxError}
use Rattle.kind.specs.Class.{is, is_letter, is_digit, is_sign, is_quote}
use Rattle.token.specs.declared.Token.{Token}
use Rattle.item.specs.Follow.{ends_data}
use Rattle.separator.specs.Separator.{newline_to}
use Rattle.tokenizer.specs.Step.{state_of, taken, step}
use Rattle.tokenizer.specs.declared.State.{State}
use Rattle.items.specs.Entry.{token_entry, met_with, met_at}
use Rattle.items.specs.Entry as entry
use Rattle.items.specs.declared.Data.{Data}

-- IEEE 488.2 7.7.2: a digit, a sign or a point
unfoldable pub begins_number : ℕ → Bool
begins_number b = is_digit b || (is_sign b || is "." b)

-- IEEE 488.2 7.7: a word, a number, a string, what a `#` begins, or an expression
unfoldable pub begins_data : ℕ → Bool
begins_data b = is_letter b || (begins_number b || (is_quote b || (is "#" b || is "(" b)))

-- the end of the text, a newline or `;`
unfoldable pub ends_unit : List ℕ → ℕ → Bool
ends_unit s at = leb (length s) at || (is "\n" (get_or s at 0) || is ";" (get_or s at 0))

-- the state of the token step at a place among the data
abbrev pub among : ℕ → State
among at = state_of at false false

-- ItemAt s at r: the item of data at a place is answered r. It is the token of data that the step takes there, or a refusal: the step's own, and
-- -102 where a comma or the end of the data is met.
pub data ItemAt (s : List ℕ) (at : ℕ) : Result (Token × ℕ) ErrorCode → Type 0 where
  takes : {t : Token} {next : ℕ} → step s (among at) ≡ taken t next false false → token_entry t ≡ entry.Item → ends_data s next ≡ true
      → ItemAt s at (Ok (t, next))
  refuses : {e : ErrorCode} {next : State} → met_at s (among at) ≡ met_with (entry.Refused e) next → ItemAt s at (Err e)
  at_comma : {next : State} → met_at s (among at) ≡ met_with entry.Comma next → ItemAt s at (Err SyntaxError)
  at_end : {next : State} → ends_unit s at ≡ true → met_at s (among at) ≡ met_with entry.End next → ItemAt s at (Err SyntaxError)

-- no items, before a newline that ends the text
abbrev pub no_items : Result ℕ ErrorCode → Result Data ErrorCode
no_items (Ok place) = Ok (record { count = 0; place = place })
no_items (Err e) = Err e

-- the data at a newline, from the place after it
unfoldable pub newline_data : List ℕ → ℕ → Result Data ErrorCode
newline_data s next = no_items (newline_to s next)
