-- What a verdict says of a table.
use Rattle.std.specs.Prelude.{Result, Ok, Err}
use Prim.Native.Nat.{ℕ}
use mathlib.Core.Path.{◌≡◌}
use mathlib.Core.List.{List}
use native.Mathlib.Omega.{arith}
use Rattle.error.specs.declared.ErrorCode.{ErrorCode}
use Rattle.table.specs.Fault.{Accepted, Verdict, accepts, refuses}

pub no_fault : {A : Type 0} {e : ErrorCode} → ◌≡◌ {A = Result Unit ErrorCode} (Err e) (Ok tt) → A
no_fault q = let z : ◌≡◌ {A = ℕ} 0 1 = cc in absurd (omega arith)

pub faultless : {t names : List ℕ} {x : Result Unit ErrorCode} → Verdict t names x → x ≡ Ok tt → Accepted t names
faultless (accepts a) q = a
faultless (refuses f g) q = no_fault q
