-- Laws of the ways in, as the code meets them.
use Rattle.std.specs.Prelude.{Result, Ok, Err}
use Prim.Native.Nat.{ℕ, ◌≤◌, ◌<◌}
use mathlib.Core.Path.{◌≡◌, sym, ◌∙◌}
use mathlib.Core.List.{List, []}
use mathlib.Core.Bool.{Bool, true, false, not}
use native.Mathlib.Omega.{arith}
use lib.ListN.{length, get_or}
use borrow.Author.Rules.{rules}
use borrow.Author.Tests.{not-true, not-false, le-leb}
use Rattle.error.specs.declared.ErrorCode.{ErrorCode}
use Rattle.node.specs.Word.{is_branch}
use Rattle.table.specs.{Fault.Verdict}
use Rattle.table.proofs.Told.{faultless}
use Rattle.record.specs.declared.Record.{Record}
use Rattle.message.specs.Message.{Ending, refused, Units, Message, no_branch, too_long, text, CheckedMessage, fault, sound, written, recorded, Walks}
use Rattle.message.specs.declared.Stopped.{Stopped}

-- a message that is refused before its first unit leaves the slots as they are
at_once : {M : List Record → Ending → Type 0} {e : ErrorCode} (slots : List ℕ) → M [] (refused e) → Walks M slots (Err (record { units = 0; error = e })) slots
unfolding recorded written
at_once slots h = record { units = []; ending = refused _; reads = h; outcome = rw (le-leb 0 (length slots) (omega arith)) }

-- a walk over the units of one thing is one over those of another
as_well : {M N : List Record → Ending → Type 0} {slots after : List ℕ} {r : Result ℕ Stopped} → ((us : List Record) (e : Ending) → M us e → N us e)
    → Walks M slots r after → Walks N slots r after
as_well f w = record { units = w.units; ending = w.ending; reads = f w.units w.ending w.reads; outcome = w.outcome }

-- without the check

module _ (t names : List ℕ) (b : ℕ) (s slots : List ℕ) (r : Bool) (e : r ≡ is_branch (get_or t b 0)) where
  pub no_start' : not r ≡ true → Walks (Message t names b s) slots (Err (record { units = 0; error = ErrorCode.StartIsNoBranch })) slots
  no_start' q = at_once slots (no_branch (sym e ∙ not-true r q))

  module _ (q : not r ≡ false) where
    pub too_long' : 65535 < length s → Walks (Message t names b s) slots (Err (record { units = 0; error = ErrorCode.MessageTooLong })) slots
    too_long' h = at_once slots (too_long (sym e ∙ not-false r q) h)

    pub text' : length s ≤ 65535 → (w : Result ℕ Stopped) (after : List ℕ) → Walks (Units t names s b 0) slots w after → Walks (Message t names b s) slots w after
    text' h w after x = as_well (λ us f. text (sym e ∙ not-false r q) h) x

pub ruleset accepted_laws = (rules, no_start', too_long', text')

-- with the table's check

module _ (t names : List ℕ) (x : Result Unit ErrorCode) (v : Verdict t names x) (b : ℕ) (s slots : List ℕ) where
  pub fault' : (c : ErrorCode) → x ≡ Err c → Walks (CheckedMessage t names b s) slots (Err (record { units = 0; error = c })) slots
  fault' c e = at_once slots (fault (rw e at v))

  pub sound' : x ≡ Ok tt → (w : Result ℕ Stopped) (after : List ℕ) → Walks (Message t names b s) slots w after → Walks (CheckedMessage t names b s) slots w after
  sound' e w after y = as_well (λ us f. sound (faultless v e)) y

pub ruleset checked_laws = (rules, fault', sound')
