-- What `search` is handed at the needs of this crate.
use Rattle.std.specs.Prelude.{Result, Ok, Err}
use Prim.Native.Nat.{ℕ, ◌≤◌}
use mathlib.Core.Path.{◌≡◌, ap, subst, ◌∙◌}
use mathlib.Core.List.{List, map}
use native.Mathlib.Omega.{arith}
use lib.ListN.{length}
use Rattle.record.specs.Word.{word_of}
use Rattle.messages.specs.MessageClaims.{counted}
use Rattle.message.specs.Message.{CheckedMessage, Outcome, recorded, Walks}
use Rattle.message.proofs.Walks.{written_length}
use Rattle.messages.proofs.MessageClaims.{claims}
use Rattle.message.specs.declared.Stopped.{Stopped}

-- the units of a walk stand in its slots
module _ (t names : List ℕ) (b : ℕ) (s slots : List ℕ) (r : Result ℕ Stopped) (after : List ℕ) (w : Walks (CheckedMessage t names b s) slots r after) where
  as_many : length after ≡ length slots
  unfolding recorded
  as_many = ap (λ (o : Outcome). length o.slots) w.outcome ∙ written_length (map word_of w.units) slots

  room : counted r ≤ length after
  room = omega (arith, (claims.slots_kept (CheckedMessage t names b s) slots r after w).0, as_many)

  pub all_in_slots' : (n : ℕ) → r ≡ Ok n → n ≤ length after
  all_in_slots' n e = subst (λ (x : Result ℕ Stopped). counted x ≤ length after) e room

  pub some_in_slots' : (x : Stopped) → r ≡ Err x → x.units ≤ length after
  some_in_slots' x q = subst (λ (x : Result ℕ Stopped). counted x ≤ length after) q room
