-- The worked tree.
use Rattle.std.specs.Prelude.{Result, Ok}
use Prim.Native.Nat.{ℕ, ◌+◌}
use mathlib.Core.Path.{◌≡◌, refl}
use mathlib.Core.List.{List, [], ◌∷◌}
use mathlib.Core.Bool.{true, false}
use lib.Dec.{leb, ltb}
use lib.ListN.{get_or}
use borrow.Author.Tests.{leb-true, ltb-true}
use Rattle.kind.specs.Text.{ascii}
use Rattle.kind.specs.Class.{is_capital, is_small, is_digit, is_letter, in_mnemonic}
use Rattle.util.specs.Run.{run, every}
use Rattle.mnemonic.specs.Mnemonic.{pairs, folded, either_case, not_small, last_end, numeric_suffix_start, same_numeric_suffix}
use Rattle.mnemonic.specs.Spelling.{spells}
use Rattle.node.specs.Word.{is_branch, is_default, name_length, name_start, first_child, command_number, child_count, name_in}
use Rattle.node.specs.Tree.{branch, first, count, Child}
use Rattle.routes.specs.Route.{Stage, Route, here, said, unsaid}
use Rattle.tree.specs.{Alone.ResolvesAlone}
use Rattle.routes.specs.WellFormed.{last, WellFormed}
use Rattle.routes.specs.Worked.{nodes, names, Here, Worked}
use Rattle.routes.proofs.{Faultless.accepted, RouteClaims.claims}
use Rattle.error.specs.declared.ErrorCode.{ErrorCode}
use Rattle.tree.specs.declared.Resolved.{Resolved}

-- a child, told by tests that compute
child : (b k : ℕ) → branch nodes b ≡ true → leb (first nodes b) k ≡ true → ltb k (first nodes b + count nodes b) ≡ true → Child nodes b k
child b k m l u = record { holder = m; from = leb-true _ _ l; below = ltb-true _ _ u }

way : {b : ℕ} {words : List (List ℕ)} {c kept leaf : ℕ} {stages : List Stage} → Route nodes names b b words stages leaf kept
    → command_number (get_or nodes leaf 0) ≡ c → Here b words c kept
way {leaf = leaf} {stages} r e = record { stages = stages; leaf = leaf; route = r; command = e }

-- SENSe and DC unsaid
voltage : Here 0 (ascii "VOLT" ∷ []) 6 3
unfolding is_branch is_default name_length name_start first_child command_number child_count name_in spells pairs folded either_case not_small last_end numeric_suffix_start same_numeric_suffix run every is_capital is_small is_digit
voltage = way (unsaid (child 0 3 refl refl refl) refl (said (child 3 7 refl refl refl) refl (unsaid (child 7 9 refl refl refl) refl (here refl)))) refl

well_formed : WellFormed (ascii "VOLT") false (ascii "VOLT" ∷ []) false
unfolding is_capital is_small is_letter is_digit in_mnemonic every
well_formed =
    record {
      mnemonics = ascii "VOLT";
      joins = last (record { begins = refl; all = refl; short = leb-true 4 12 refl });
      text = refl;
      fits = leb-true 4 65535 refl;
    }

voltage_text : (r : Result Resolved ErrorCode) → ResolvesAlone nodes names 0 (ascii "VOLT") r → r ≡ Ok (record { command = 6; query = false; branch = 3 })
unfolding is_branch
voltage_text r x =
    ((claims.demand nodes names 0 (ascii "VOLT") false (ascii "VOLT" ∷ []) false r accepted refl well_formed x).command 6 3).1 voltage

pub worked : Worked
unfolding is_branch is_default name_length name_start first_child command_number child_count name_in spells pairs folded either_case not_small last_end numeric_suffix_start same_numeric_suffix run every is_capital is_small is_digit
worked =
    record {
      accepted = accepted;
      route_close = way (said (child 0 2 refl refl refl) refl (said (child 2 5 refl refl refl) refl (here refl))) refl;
      open_from_route = way (said (child 2 6 refl refl refl) refl (here refl)) refl;
      identify = way (said (child 0 1 refl refl refl) refl (here refl)) refl;
      voltage = voltage;
      voltage_text = voltage_text;
      voltage_dc = way (unsaid (child 0 3 refl refl refl) refl (said (child 3 7 refl refl refl) refl (said (child 7 9 refl refl refl) refl (here refl)))) refl;
      sense_voltage = way (said (child 0 3 refl refl refl) refl (said (child 3 7 refl refl refl) refl (unsaid (child 7 9 refl refl refl) refl (here refl)))) refl;
      ac_two = way (said (child 7 10 refl refl refl) refl (here refl)) refl;
    }
