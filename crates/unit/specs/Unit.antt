-- A message unit: a header, its form and its items, IEEE 488.2 7.3.
use Rattle.std.specs.Prelude.{ℕ, List, Bool, false, Result, Ok, Err}
use Rattle.error.specs.declared.ErrorCode.{ErrorCode}
use Rattle.tokenizer.specs.Step.{state_of}
use Rattle.header.specs.Header.{Begins}
use Rattle.ahead.specs.declared.Seen.{Seen}
use Rattle.ahead.specs.declared.Stop.{Stop}
use Rattle.ahead.specs.declared.Stop.TheVariants as stop
use Rattle.record.specs.declared.Record.{Record}
use Rattle.items.specs.Items.{Items}
use Rattle.items.specs.declared.Data.{Data}

-- Behind s x p r: the data after a header that x ended before the place p. IEEE 488.2 7.4.3: data follow white space; a header that `;` or the
-- end of the text ends has none. Whether the header began with a star makes no
-- difference to its data (`star_apart` of items), so that they are read with in-common false.
pub data Behind (s : List ℕ) : Stop → ℕ → Result Data ErrorCode → Type 0 where
  separated : {p : ℕ} {r : Result Data ErrorCode} → Items s (state_of p false false) r → Behind s stop.Separator p r
  at_unit : {p : ℕ} → Behind s stop.Unit p (Ok (record { count = 0; place = p }))
  at_end : {p : ℕ} → Behind s stop.Text p (Ok (record { count = 0; place = p }))

abbrev pub record_of : ℕ → Bool → ℕ → ℕ → Record
record_of c query kept n = record { command = c; query = query; branch = kept; items = n }

-- Reads t names s b seen r: the unit from the branch b on, with its first token seen, is answered r. The header is read first, and then
-- the items.
pub data Reads (t names s : List ℕ) (b : ℕ) (seen : Seen) : Result (Record × ℕ) ErrorCode → Type 0 where
  no_command : {e : ErrorCode} → Begins t names s b seen (Err e) → Reads t names s b seen (Err e)
  no_data : {c : ℕ} {query : Bool} {kept : ℕ} {x : Stop} {p : ℕ} {e : ErrorCode}
      → Begins t names s b seen (Ok (record { command = c; query = query; branch = kept; stop = x; place = p })) → Behind s x p (Err e)
      → Reads t names s b seen (Err e)
  whole : {c : ℕ} {query : Bool} {kept : ℕ} {x : Stop} {p next : ℕ} {n : ℕ}
      → Begins t names s b seen (Ok (record { command = c; query = query; branch = kept; stop = x; place = p })) → Behind s x p (Ok (record { count = n; place = next }))
      → Reads t names s b seen (Ok (record_of c query kept n, next))
