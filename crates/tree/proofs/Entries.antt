-- Laws of resolution alone, as the code meets them.
use Rattle.std.specs.Prelude.{Result, Ok, Err}
use Prim.Native.Nat.{ℕ, ◌≤◌, ◌<◌}
use mathlib.Core.Path.{◌≡◌, sym, ap, ◌∙◌}
use mathlib.Core.List.{List}
use mathlib.Core.Bool.{Bool, true, false, not}
use lib.ListN.{length, get_or}
use borrow.Author.Rules.{rules}
use borrow.Author.Tests.{not-true, not-false}
use Rattle.error.specs.declared.ErrorCode.{ErrorCode}
use Rattle.node.specs.Word.{is_branch}
use Rattle.table.specs.{Fault.Verdict}
use Rattle.table.proofs.Told.{faultless}
use Rattle.tokenizer.specs.Step.{of_message}
use Rattle.ahead.specs.{Seen.seen_at, declared.Stop.Stop}
use Rattle.header.specs.{Header.Begins}
use Rattle.tree.specs.Alone.{alone_with, closing, longest_message, Resolves, no_branch, too_long, one_header, ResolvesAlone, fault, sound}
use Rattle.header.specs.declared.Header.{Header}
use Rattle.tree.specs.declared.Resolved.{Resolved}

-- told by what ends the header
pub alone_told' : (c : ℕ) (query : Bool) (kept : ℕ) (r : Result Resolved ErrorCode) (x y : Stop) → x ≡ y → r ≡ alone_with c query kept y → r ≡ alone_with c query kept x
alone_told' c query kept r x y e h = h ∙ sym (ap (alone_with c query kept) e)

pub ruleset stop_laws = (rules, alone_told')

-- without the check

module _ (t names : List ℕ) (b : ℕ) (s : List ℕ) (r : Bool) (e : r ≡ is_branch (get_or t b 0)) where
  pub no_start' : not r ≡ true → Resolves t names b s (Err ErrorCode.StartIsNoBranch)
  no_start' q = no_branch (sym e ∙ not-true r q)

  module _ (q : not r ≡ false) where
    pub too_long' : longest_message < length s → Resolves t names b s (Err ErrorCode.MessageTooLong)
    too_long' h = too_long (sym e ∙ not-false r q) h

    module _ (h : length s ≤ longest_message) (x : Result Header ErrorCode) (g : Begins t names s b (seen_at s of_message) x) where
      whole : Resolves t names b s (closing x)
      whole = one_header (sym e ∙ not-false r q) h g

      pub refused' : (c : ErrorCode) → x ≡ Err c → Resolves t names b s (Err c)
      refused' c y = rw y at whole

      pub found' : (h : Header) → x ≡ Ok h → (a : Result Resolved ErrorCode) → a ≡ alone_with h.command h.query h.branch h.stop → Resolves t names b s a
      found' h y a ea = rw ea (rw y at whole)

pub ruleset accepted_laws = (rules, no_start', too_long', refused', found')

-- with the table's check

module _ (t names : List ℕ) (x : Result Unit ErrorCode) (v : Verdict t names x) where
  pub fault' : (b : ℕ) (s : List ℕ) (c : ErrorCode) → x ≡ Err c → ResolvesAlone t names b s (Err c)
  fault' b s c e = fault (rw e at v)

  pub sound' : x ≡ Ok tt → (b : ℕ) (s : List ℕ) (r : Result Resolved ErrorCode) → Resolves t names b s r → ResolvesAlone t names b s r
  sound' e b s r o = sound (faultless v e) o

pub ruleset alone_laws = (rules, fault', sound')
