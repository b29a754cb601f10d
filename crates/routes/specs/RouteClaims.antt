-- What is proved of resolution, besides the promises of the functions. The proofs are in proofs/RouteClaims.
use Rattle.std.specs.Prelude.{ℕ, ◌≡◌, ◌⊎◌, ◌↔◌, List, [], ◌∷◌, Bool, true, cond, Result, Ok, Err}
use Rattle.error.specs.declared.ErrorCode.TheVariants.{UndefinedHeader}
use Rattle.node.specs.Tree.{branch}
use Rattle.table.specs.Fault.{Accepted}
use Rattle.token.specs.declared.View.{View}
use Rattle.token.specs.declared.Token.{Token}
use Rattle.token.specs.declared.Token.TheVariants.{HeaderMnemonicSeparator}
use Rattle.tokenizer.specs.Step.{of_message}
use Rattle.tokenizer.specs.declared.State.{State}
use Rattle.ahead.specs.Seen.{seen_at}
use Rattle.header.specs.Header.{is_common, keeping, Begins}
use Rattle.ahead.specs.declared.Stop.{Stop}
use Rattle.ahead.specs.declared.Ahead.TheVariants as ahead
use Rattle.routes.specs.Route.{Stage, Route, Leads}
use Rattle.tree.specs.Alone.{Resolves, ResolvesAlone}
use Rattle.routes.specs.WellFormed.{WellFormed, Common, Tokens, Shown}
use Rattle.routes.specs.Heard.{Hears, Spoken}
use Rattle.error.specs.declared.ErrorCode.{ErrorCode}
use Rattle.header.specs.declared.Header.{Header}
use Rattle.tree.specs.declared.Resolved.{Resolved}

-- The answer r to a header of these words from the branch b, where `found c kept` is how a command c and a branch kept are
-- answered, and `no` is how -113 is.
pub record Routed {A : Type 0} (found : ℕ → ℕ → A) (no : A) (t names : List ℕ) (b : ℕ) (words : List (List ℕ)) (r : A) : Type 0 where
  -- it gets a command exactly when some route spells it, and the command and the branch kept are that route's
  pub command : (c kept : ℕ) → (r ≡ found c kept) ↔ Leads t names b words c kept
  -- there is one such route only: the same nodes, and the same of them spoken
  pub one_route : (stages stages' : List Stage) (leaf leaf' kept kept' : ℕ) → Route t names b b words stages leaf kept → Route t names b b words stages' leaf' kept'
      → (stages ≡ stages') × (leaf ≡ leaf') × (kept ≡ kept')
  -- it is -113 exactly when there is no route
  pub undefined : (r ≡ no) ↔ ((c kept : ℕ) → Leads t names b words c kept → ⊥)
  -- and it is one or the other
  pub either : ((c : ℕ) × (kept : ℕ) × (r ≡ found c kept)) ⊎ (r ≡ no)

-- resolution alone, of a header in the form of a query or not
abbrev pub Answers : List ℕ → List ℕ → ℕ → List (List ℕ) → Bool → Result Resolved ErrorCode → Type 0
Answers t names b words query r = Routed (λ c kept. Ok (record { command = c; query = query; branch = kept })) (Err UndefinedHeader) t names b words r

-- the same answer, with the branch b kept
abbrev pub with_branch : ℕ → Result Resolved ErrorCode → Result Resolved ErrorCode
with_branch b (Ok h) = Ok (record h { branch = b })
with_branch b (Err e) = Err e

pub record Claims : Type 0 where
  -- Take a table that the check accepts, any branch of it as the start, and a well-formed header of one or more mnemonics without star
  -- within the limits: its answer is so. A leading colon starts at the root.
  pub demand : (t names : List ℕ) (b : ℕ) (s : List ℕ) (rooted : Bool) (words : List (List ℕ)) (query : Bool) (r : Result Resolved ErrorCode)
      → Accepted t names → branch t b ≡ true → WellFormed s rooted words query → ResolvesAlone t names b s r
      → Answers t names (cond rooted 0 b) words query r
  -- The same at any place of a message: of a header that is heard as these words, and is ended by `end` with the place `behind` it.
  pub anywhere : (t names : List ℕ) (b : ℕ) (s : List ℕ) (at : State) (rooted : Bool) (words : List (List ℕ)) (query : Bool) (end : Stop) (behind : ℕ) (r : Result Header ErrorCode)
      → Accepted t names → branch t b ≡ true → Spoken s end behind words query at rooted → Begins t names s b (seen_at s at) r
      → Routed (λ c kept. Ok (record { command = c; query = query; branch = kept; stop = end; place = behind })) (Err UndefinedHeader) t names (cond rooted 0 b) words r
  -- the header of a common command is answered as from the root, and the branch stays
  pub common : (t names : List ℕ) (b : ℕ) (s word : List ℕ) (query : Bool) (r : Result Resolved ErrorCode)
      → Accepted t names → branch t b ≡ true → Common s word query → ResolvesAlone t names b s r
      → (a : Result Resolved ErrorCode) × Answers t names 0 (word ∷ []) query a × (r ≡ with_branch b a)
  -- the same of a common command at any place of a message
  pub common_anywhere : (t names : List ℕ) (b : ℕ) (s : List ℕ) (at : State) (v : View) (words : List (List ℕ)) (query : Bool) (end : Stop) (behind : ℕ) (r : Result Header ErrorCode)
      → Accepted t names → branch t b ≡ true → (seen_at s at).ahead ≡ ahead.Word v → is_common s v ≡ true → Hears s end behind words query (seen_at s at)
      → Begins t names s b (seen_at s at) r
      → (a : Result Header ErrorCode) × Routed (λ c kept. Ok (record { command = c; query = query; branch = kept; stop = end; place = behind })) (Err UndefinedHeader) t names 0 words a × (r ≡ keeping b a)
  -- the token step reads a well-formed header as its mnemonics
  pub reads : (s : List ℕ) (rooted : Bool) (words : List (List ℕ)) (query : Bool) → WellFormed s rooted words query
      → (tokens : List Token) × Tokens s of_message (cond rooted (HeaderMnemonicSeparator ∷ tokens) tokens) × Shown s words query tokens
  -- without the check the answer is the same in an accepted table
  pub unchecked : (t names : List ℕ) (b : ℕ) (s : List ℕ) (r q : Result Resolved ErrorCode) → Accepted t names → ResolvesAlone t names b s r → Resolves t names b s q → r ≡ q
  -- there is an answer to every text, in every table
  pub some_unchecked : (t names : List ℕ) (b : ℕ) (s : List ℕ) → (r : Result Resolved ErrorCode) × Resolves t names b s r
  -- and one only
  pub one_alone : (t names : List ℕ) (b : ℕ) (s : List ℕ) (r q : Result Resolved ErrorCode) → ResolvesAlone t names b s r → ResolvesAlone t names b s q → r ≡ q
  pub one_unchecked : (t names : List ℕ) (b : ℕ) (s : List ℕ) (r q : Result Resolved ErrorCode) → Resolves t names b s r → Resolves t names b s q → r ≡ q
