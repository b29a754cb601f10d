-- A part of a line, and what is none.
use Prim.Native.Nat.{ℕ, ◌+◌, ◌-◌, ◌≤◌, ◌<◌}
use mathlib.Core.Path.{◌≡◌, sym}
use mathlib.Core.Logic.{◌⊎◌, inl, inr}
use mathlib.Core.List.{List}
use mathlib.Core.Bool.{true, false, ◌&&◌, and-false}
use native.Mathlib.Omega.{arith}
use lib.Dec.{leb}
use lib.ListN.{length, take, drop}
use lib.Seq.{slice, take-add, drop_at, length-take-le}
use borrow.Author.Tests.{le-leb, lt-leb}

module _ (s : List ℕ) (from to : ℕ) where
  pub part : from ≤ to → to ≤ length s → take (to - from) (drop from s) ≡ slice from to s
  part h l =
      let e : from + (to - from) ≡ to = omega arith in
      let d = drop_at (take from s) (take (to - from) (drop from s)) from (length-take-le from s (omega arith)) in
      sym ((rw (← take-add, e) at d))

  pub inside : from ≤ to → to ≤ length s → (leb from to && leb to (length s)) ≡ true
  inside h l = rw (le-leb from to h, le-leb to (length s) l)

  pub outside : (to < from) ⊎ (length s < to) → (leb from to && leb to (length s)) ≡ false
  outside (inl h) = rw (lt-leb from to h)
  outside (inr h) = rw (lt-leb to (length s) h, and-false)
