-- The first `/` of a part of a line.
use Prim.Native.Nat.{ℕ, min}
use mathlib.Core.Path.{◌≡◌}
use mathlib.Core.Logic.{⊎_elim}
use mathlib.Core.List.{List}
use native.Mathlib.Omega.{arith}
use lib.ListN.{length, take}
use lib.Seq.{take_all}
use borrow.Author.Rules.{rules}
use Rattle.kind.proofs.Tests.{less_or_not}
use Rattle.util.specs.Run.{run_end}
use Rattle.request.specs.Slash.{is_other, slash_at}

-- the front of a text, as far as it goes
front : (s : List ℕ) (to n : ℕ) → n ≡ min to (length s) → take n s ≡ take to s
front s to n e = ⊎_elim (λ h. let k : n ≡ to = omega arith in rw k) (λ h. rw (take_all n s (omega arith), take_all to s h)) (less_or_not to (length s))

pub slash' : (s : List ℕ) (from to n r : ℕ) → n ≡ min to (length s) → r ≡ run_end (is_other 47) (take n s) from → r ≡ slash_at s from to
unfolding slash_at
slash' s from to n r e q = rw (front s to n e) at q

pub ruleset laws = (rules, slash')
