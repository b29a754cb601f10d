-- The data of a message unit: no items, or items with single commas between them, IEEE 488.2 7.4.2.
use Rattle.std.specs.Prelude.{ℕ, ◌+◌, ◌≡◌, List, Result, Ok, Err}
use Rattle.error.specs.declared.ErrorCode.{ErrorCode}
use Rattle.error.specs.declared.ErrorCode.TheVariants.{SyntaxError}
use Rattle.tokenizer.specs.declared.State.{State}
use Rattle.items.specs.Entry.{met_with, met_at}
use Rattle.items.specs.Entry as entry
use Rattle.items.specs.declared.Data.{Data}

-- Joined s n st r: after n items, the last of which ends before the state st, the data are answered r.
pub data Joined (s : List ℕ) : ℕ → State → Result Data ErrorCode → Type 0 where
  ended : {n : ℕ} {st next : State} → met_at s st ≡ met_with entry.End next → Joined s n st (Ok (record { count = n; place = next.place }))
  -- a comma and one more item
  more : {n : ℕ} {st behind next : State} {r : Result Data ErrorCode} → met_at s st ≡ met_with entry.Comma behind → met_at s behind ≡ met_with entry.Item next
      → Joined s (n + 1) next r → Joined s n st r
  -- A comma without an item after it is -102, and so is an item without a comma before it. The token step itself refuses `,,` and `,;`, and
  -- lets no item touch another, so that of these three only a comma at the end of the text is met.
  missing : {n : ℕ} {st behind next : State} → met_at s st ≡ met_with entry.Comma behind → met_at s behind ≡ met_with entry.End next → Joined s n st (Err SyntaxError)
  doubled : {n : ℕ} {st behind next : State} → met_at s st ≡ met_with entry.Comma behind → met_at s behind ≡ met_with entry.Comma next → Joined s n st (Err SyntaxError)
  touching : {n : ℕ} {st next : State} → met_at s st ≡ met_with entry.Item next → Joined s n st (Err SyntaxError)
  -- a token that is refused, after an item or after a comma
  refused : {n : ℕ} {st next : State} {e : ErrorCode} → met_at s st ≡ met_with (entry.Refused e) next → Joined s n st (Err e)
  refused_item : {n : ℕ} {st behind next : State} {e : ErrorCode} → met_at s st ≡ met_with entry.Comma behind → met_at s behind ≡ met_with (entry.Refused e) next
      → Joined s n st (Err e)

-- Items s st r: the data after the header separator, from the state st on, are answered r: how many items there are, and the place after what ends them.
pub data Items (s : List ℕ) : State → Result Data ErrorCode → Type 0 where
  none : {st next : State} → met_at s st ≡ met_with entry.End next → Items s st (Ok (record { count = 0; place = next.place }))
  some : {st next : State} {r : Result Data ErrorCode} → met_at s st ≡ met_with entry.Item next → Joined s 1 next r → Items s st r
  -- a comma without an item before it
  first_missing : {st next : State} → met_at s st ≡ met_with entry.Comma next → Items s st (Err SyntaxError)
  first_refused : {st next : State} {e : ErrorCode} → met_at s st ≡ met_with (entry.Refused e) next → Items s st (Err e)
