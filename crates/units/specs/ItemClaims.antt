-- What is proved of the data of a message unit, besides the promises of the functions. The proofs are in proofs/ItemClaims.
use Rattle.std.specs.Prelude.{ℕ, ◌≤◌, ◌≡◌, ◌↔◌, List, Bool, false, length, Result, Ok}
use Rattle.tokenizer.specs.Step.{state_of}
use Rattle.tokenizer.specs.declared.State.{State}
use Rattle.items.specs.Items.{Items}
use Rattle.items.specs.declared.Data.{Data}
use Rattle.error.specs.declared.ErrorCode.{ErrorCode}

pub record Claims : Type 0 where
  -- for every text and every state there is an answer, and one only
  pub some_answer : (s : List ℕ) (st : State) → (r : Result Data ErrorCode) × Items s st r
  pub one_answer : (s : List ℕ) (st : State) (r q : Result Data ErrorCode) → Items s st r → Items s st q → r ≡ q
  -- the place after the items is not before the state's place
  pub onward : (s : List ℕ) (st : State) (n place : ℕ) → Items s st (Ok (record { count = n; place = place })) → st.place ≤ place
  -- there are no more items than the text has bytes
  pub few_items : (s : List ℕ) (st : State) (n place : ℕ) → Items s st (Ok (record { count = n; place = place })) → n ≤ length s
  -- whether the header was a common command's makes no difference to its data
  pub star_apart : (s : List ℕ) (p : ℕ) (c : Bool) (r : Result Data ErrorCode) → Items s (state_of p false c) r ↔ Items s (state_of p false false) r
