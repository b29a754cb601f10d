-- What is proved of records, besides the promises of the functions. The proofs are in proofs/RecordClaims.
use Rattle.std.specs.Prelude.{ℕ, ◌%◌, ◌<◌, ◌^◌, ◌≡◌}
use Rattle.record.specs.Word.{word_of, record_in}
use Rattle.record.specs.declared.Record.{Record}

-- each field has room for its value
pub record Fits (u : Record) : Type 0 where
  pub command : u.command < 2 ^ 16
  pub branch : u.branch < 2 ^ 16
  pub items : u.items < 2 ^ 16

pub record Claims : Type 0 where
  -- a record that fits is found again in its word
  pub again : (u : Record) → Fits u → record_in (word_of u) ≡ u
  -- and a word whose last 15 bits are zero in its record
  pub same_word : (w : ℕ) → w < 2 ^ 64 → w % 2 ^ 15 ≡ 0 → word_of (record_in w) ≡ w
  -- the last 15 bits are zero
  pub zero_below : (u : Record) → word_of u % 2 ^ 15 ≡ 0
  -- and the word has 64 bits
  pub word_fits : (u : Record) → word_of u < 2 ^ 64
