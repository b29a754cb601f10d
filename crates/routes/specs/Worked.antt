-- A worked tree, that of the program commandcheck, and routes through it.
use Rattle.std.specs.Prelude.{ℕ, ◌+◌, ◌*◌, ◌^◌, ◌≡◌, List, [], ◌∷◌, false, Result, Ok}
use Rattle.kind.specs.Text.{ascii}
use Rattle.table.specs.Fault.{Accepted}
use Rattle.routes.specs.Route.{Leads}
use Rattle.tree.specs.Alone.{ResolvesAlone}
use Rattle.error.specs.declared.ErrorCode.{ErrorCode}
use Rattle.tree.specs.declared.Resolved.{Resolved}

-- a leaf and a branch: their default bit, the length and the start of their name, and a leaf's command or a branch's first child and
-- child count
abbrev pub leaf_of : ℕ → ℕ → ℕ → ℕ → ℕ
leaf_of default length start command = default * 2 ^ 62 + length * 2 ^ 58 + start * 2 ^ 42 + command * 2 ^ 26

abbrev pub branch_of : ℕ → ℕ → ℕ → ℕ → ℕ → ℕ
branch_of default length start first count =
    2 ^ 63 + default * 2 ^ 62 + length * 2 ^ 58 + start * 2 ^ 42 + first * 2 ^ 26 + count * 2 ^ 10

abbrev pub names : List ℕ
names = ascii "*IDNROUTeSENSeABORtCLOSeOPENVOLTageCURRentDCAC2"

abbrev pub nodes : List ℕ
nodes =
    branch_of 0 0 0 1 4
    ∷ leaf_of 0 4 0 1
    ∷ branch_of 0 5 4 5 2
    ∷ branch_of 1 5 9 7 2
    ∷ leaf_of 0 5 14 2
    ∷ leaf_of 0 5 19 3
    ∷ leaf_of 0 4 24 4
    ∷ branch_of 0 7 28 9 2
    ∷ leaf_of 0 7 35 5
    ∷ leaf_of 1 2 42 6
    ∷ leaf_of 0 3 44 7
    ∷ []

-- the words lead from a branch to a command, and keep a branch
abbrev pub Here : ℕ → List (List ℕ) → ℕ → ℕ → Type 0
Here = Leads nodes names

pub record Worked : Type 0 where
  -- the check accepts it
  pub accepted : Accepted nodes names
  -- both nodes spoken
  pub route_close : Here 0 (ascii "ROUT" ∷ ascii "CLOS" ∷ []) 3 2
  -- from ROUTe its child alone
  pub open_from_route : Here 2 (ascii "OPEN" ∷ []) 4 2
  -- a common command
  pub identify : Here 0 (ascii "*IDN" ∷ []) 1 0
  -- SENSe and DC unsaid: SENSe holds the node spoken last
  pub voltage : Here 0 (ascii "VOLT" ∷ []) 6 3
  -- and so this is what the text is answered
  pub voltage_text : (r : Result Resolved ErrorCode) → ResolvesAlone nodes names 0 (ascii "VOLT") r → r ≡ Ok (record { command = 6; query = false; branch = 3 })
  -- DC spoken: VOLTage holds it
  pub voltage_dc : Here 0 (ascii "VOLTage" ∷ ascii "DC" ∷ []) 6 7
  -- SENSe spoken, DC unsaid
  pub sense_voltage : Here 0 (ascii "SENS" ∷ ascii "VOLT" ∷ []) 6 3
  -- a number that must be spoken
  pub ac_two : Here 7 (ascii "ac2" ∷ []) 7 7
