-- A line that begins at its front.
use Prim.Native.Nat.{ℕ, ◌≤◌}
use mathlib.Core.Path.{◌≡◌, ap}
use mathlib.Core.List.{List}
use native.Mathlib.Omega.{arith}
use lib.ListN.{length, take, drop, length-take}
use Rattle.io.specs.Counts.{IsPrefixLen}
use Rattle.report.specs.Added.{Added}

module _ (l o t : List ℕ) (r : ℕ) (a : Added l 0 t o r) where
  pub counted' : r ≡ length (take r o)
  unfolding Added
  counted' = let e : length (take r o) ≡ length t = ap length a.1 in omega arith

  pub ends' : r ≤ length o
  ends' = omega (arith, counted', length-take r o)

-- its bytes, and what stands behind them
pub whole : (l t o : List ℕ) (r : ℕ) → Added l 0 t o r → IsPrefixLen r o × (take r o ≡ t) × (drop r o ≡ drop r l)
unfolding Added
whole l t o r a = ((ends' l o t r a, counted' l o t r a), a.1, a.2)
