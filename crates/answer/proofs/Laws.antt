-- Where a text that was written ends.
use Rattle.std.specs.Prelude.{Option, Some, None, IfSome}
use Prim.Native.Nat.{ℕ, ◌≤◌}
use mathlib.Core.Path.{◌≡◌}
use mathlib.Core.List.{List}
use lib.ListN.{length}
use Rattle.request.specs.{Unhex.unhexed}
use Rattle.request.proofs.Claims.{claims}

pub ends : (s o o' : List ℕ) (from to at : ℕ) (r : Option ℕ) → record { says = r; slots = o' } ≡ unhexed s from to o at → IfSome r (λ n. (at ≤ n) × (n ≤ length o'))
ends s o o' from to at None e = tt
ends s o o' from to at (Some n) e = claims.ends s from to o at n o' e
