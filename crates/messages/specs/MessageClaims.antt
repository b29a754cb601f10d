-- What is proved of messages, besides the promises of the functions. The proofs are in proofs/MessageClaims.
use Rattle.std.specs.Prelude.{ℕ, ◌≤◌, ◌≡◌, Bool, true, length, take, drop, Result, Ok, Err}
use mathlib.Core.List.{List, [], ◌∷◌, map, Memᴰ}
use Rattle.error.specs.declared.ErrorCode.{ErrorCode}
use Rattle.error.specs.declared.ErrorCode.TheVariants.{SyntaxError}
use Rattle.node.specs.Tree.{branch}
use Rattle.record.specs.Word.{word_of, record_in}
use Rattle.table.specs.Fault.{Accepted}
use Rattle.tree.specs.Alone.{Resolves}
use Rattle.unit.specs.Unit.{record_of}
use Rattle.record.specs.declared.Record.{Record}
use Rattle.message.specs.Message.{Ending, complete, refused, Message, CheckedMessage, Walks}
use Rattle.message.specs.declared.Stopped.{Stopped}

-- how many units were written
abbrev pub counted : Result ℕ Stopped → ℕ
counted (Ok n) = n
counted (Err h) = h.units

pub record Claims : Type 1 where
  -- every message has units and an ending, from every start and in every table
  pub some_message : (t names : List ℕ) (b : ℕ) (s : List ℕ) → (us : List Record) × (e : Ending) × Message t names b s us e
  -- and these are the only ones
  pub one_message : (t names : List ℕ) (b : ℕ) (s : List ℕ) (us vs : List Record) (e f : Ending) → Message t names b s us e → Message t names b s vs f
      → (us ≡ vs) × (e ≡ f)
  -- so a walk has one answer, and leaves the slots in one way
  pub one_walk : (t names : List ℕ) (b : ℕ) (s slots : List ℕ) (r q : Result ℕ Stopped) (after later : List ℕ) → Walks (CheckedMessage t names b s) slots r after
      → Walks (CheckedMessage t names b s) slots q later → (r ≡ q) × (after ≡ later)
  pub one_unchecked : (t names : List ℕ) (b : ℕ) (s slots : List ℕ) (r q : Result ℕ Stopped) (after later : List ℕ) → Walks (Message t names b s) slots r after
      → Walks (Message t names b s) slots q later → (r ≡ q) × (after ≡ later)
  -- there is a walk over any slots
  pub some_walk : (t names : List ℕ) (b : ℕ) (s slots : List ℕ) → (r : Result ℕ Stopped) × (after : List ℕ) × Walks (Message t names b s) slots r after
  -- the count is of slots that are there; those before it hold the words of the first units, and the others what they held
  pub slots_kept : (M : List Record → Ending → Type 0) (slots : List ℕ) (r : Result ℕ Stopped) (after : List ℕ) (w : Walks M slots r after)
      → (counted r ≤ length slots) × (take (counted r) after ≡ take (counted r) (map word_of w.units)) × (drop (counted r) after ≡ drop (counted r) slots)
  -- without the check the walk is the same in an accepted table
  pub unchecked : (t names : List ℕ) (b : ℕ) (s slots : List ℕ) (r q : Result ℕ Stopped) (after later : List ℕ) → Accepted t names
      → Walks (CheckedMessage t names b s) slots r after → Walks (Message t names b s) slots q later → (r ≡ q) × (after ≡ later)
  -- a message has no more units than bytes
  pub few_units : (t names : List ℕ) (b : ℕ) (s : List ℕ) (us : List Record) (e : Ending) → Message t names b s us e → length us ≤ length s
  -- in an accepted table each unit keeps a branch of it, and its record is found again in its word
  pub whole_records : (t names : List ℕ) (b : ℕ) (s : List ℕ) (us : List Record) (e : Ending) → Accepted t names → Message t names b s us e
      → (u : Record) → Memᴰ u us → (branch t u.branch ≡ true) × (record_in (word_of u) ≡ u)
  -- a header that resolution alone gives a command is, as a message, one unit of that command without items
  pub single : (t names : List ℕ) (b : ℕ) (s : List ℕ) (c : ℕ) (query : Bool) (kept : ℕ) → Resolves t names b s (Ok (record { command = c; query = query; branch = kept }))
      → Message t names b s (record_of c query kept 0 ∷ []) complete
  -- and one that is refused is refused so, as a message, but for -102: there are texts that are no header, and fine as a message
  pub refused_alike : (t names : List ℕ) (b : ℕ) (s : List ℕ) (e : ErrorCode) → (e ≡ SyntaxError → ⊥) → Resolves t names b s (Err e) → Message t names b s [] (refused e)
