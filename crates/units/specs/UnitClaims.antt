-- What is proved of units, besides the promises of the functions. The proofs are in proofs/UnitClaims.
use Rattle.std.specs.Prelude.{ℕ, ◌≤◌, ◌<◌, ◌≡◌, List, true, length, Result, Ok}
use Rattle.node.specs.Tree.{branch}
use Rattle.ahead.specs.declared.Seen.{Seen}
use Rattle.record.specs.declared.Record.{Record}
use Rattle.unit.specs.Unit.{Reads}
use Rattle.error.specs.declared.ErrorCode.{ErrorCode}

pub record Claims : Type 0 where
  -- there is an answer to every unit, in every table and from every start, and one only
  pub some_answer : (t names s : List ℕ) (b : ℕ) (seen : Seen) → (r : Result (Record × ℕ) ErrorCode) × Reads t names s b seen r
  pub one_answer : (t names s : List ℕ) (b : ℕ) (seen : Seen) (r q : Result (Record × ℕ) ErrorCode) → Reads t names s b seen r → Reads t names s b seen q → r ≡ q
  -- a unit that is read does not go back in the text
  pub onward : (t names s : List ℕ) (b : ℕ) (seen : Seen) (u : Record) (p : ℕ) → Reads t names s b seen (Ok (u, p))
      → seen.state.place ≤ p
  -- it has no more items than the text has bytes
  pub few_items : (t names s : List ℕ) (b : ℕ) (seen : Seen) (u : Record) (p : ℕ) → Reads t names s b seen (Ok (u, p))
      → u.items ≤ length s
  -- its command has 16 bits
  pub command_fits : (t names s : List ℕ) (b : ℕ) (seen : Seen) (u : Record) (p : ℕ) → Reads t names s b seen (Ok (u, p)) → u.command < 65536
  -- and, in a table whose root is a branch, it keeps a branch
  pub keeps : (t names s : List ℕ) (b : ℕ) (seen : Seen) (u : Record) (p : ℕ) → Reads t names s b seen (Ok (u, p))
      → branch t 0 ≡ true → branch t u.branch ≡ true
