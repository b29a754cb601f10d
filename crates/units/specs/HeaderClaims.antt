-- What is proved of the reading of headers, besides the promises of the functions. The proofs are in proofs/HeaderClaims.
use Rattle.std.specs.Prelude.{ℕ, ◌≤◌, ◌<◌, ◌≡◌, List, Bool, true, length, Result, Ok}
use Rattle.node.specs.Tree.{branch}
use Rattle.header.specs.Header.{Begins}
use Rattle.ahead.specs.declared.Seen.{Seen}
use Rattle.ahead.specs.declared.Stop.{Stop}
use Rattle.ahead.specs.declared.Stop.TheVariants as stop
use Rattle.error.specs.declared.ErrorCode.{ErrorCode}
use Rattle.header.specs.declared.Header.{Header}

pub record Claims : Type 0 where
  -- there is an answer to every header, in every table and from every start, and one only
  pub some_answer : (t names s : List ℕ) (b : ℕ) (seen : Seen) → (r : Result Header ErrorCode) × Begins t names s b seen r
  pub one_answer : (t names s : List ℕ) (b : ℕ) (seen : Seen) (r q : Result Header ErrorCode) → Begins t names s b seen r → Begins t names s b seen q → r ≡ q
  -- a header that is found does not go back in the text
  pub onward : (t names s : List ℕ) (b c : ℕ) (query : Bool) (kept : ℕ) (x : Stop) (seen : Seen) (p : ℕ) → Begins t names s b seen (Ok (record { command = c; query = query; branch = kept; stop = x; place = p }))
      → seen.state.place ≤ p
  -- after a header that ends with the text, the place is at the end of the text
  pub over : (t names s : List ℕ) (b c : ℕ) (query : Bool) (kept : ℕ) (seen : Seen) (p : ℕ) → Begins t names s b seen (Ok (record { command = c; query = query; branch = kept; stop = stop.Text; place = p }))
      → length s ≤ p
  -- its command has 16 bits
  pub command_fits : (t names s : List ℕ) (b c : ℕ) (query : Bool) (kept : ℕ) (x : Stop) (seen : Seen) (p : ℕ) → Begins t names s b seen (Ok (record { command = c; query = query; branch = kept; stop = x; place = p }))
      → c < 65536
  -- and, in a table whose root is a branch, it keeps a branch
  pub keeps : (t names s : List ℕ) (b c : ℕ) (query : Bool) (kept : ℕ) (x : Stop) (seen : Seen) (p : ℕ) → Begins t names s b seen (Ok (record { command = c; query = query; branch = kept; stop = x; place = p }))
      → branch t 0 ≡ true → branch t kept ≡ true
