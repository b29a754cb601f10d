-- One answer only: what resolution alone may answer is determined by table, start and text.
use Rattle.std.specs.Prelude.{Result}
use Prim.Native.Nat.{ℕ}
use mathlib.Core.Path.{◌≡◌, refl, sym, ap}
use mathlib.Core.List.{List}
use native.Mathlib.Omega.{arith}
use Rattle.kind.proofs.Tests.{clash}
use Rattle.table.specs.{Fault.Accepted, Fault.accepts}
use Rattle.table.proofs.Told.{no_fault}
use Rattle.routes.proofs.TableClaims.{claims}
use Rattle.header.proofs.Once.{one_begins}
use Rattle.tree.specs.Alone.{closing, Resolves, no_branch, too_long, one_header, ResolvesAlone, fault, sound}
use Rattle.error.specs.declared.ErrorCode.{ErrorCode}
use Rattle.tree.specs.declared.Resolved.{Resolved}

module _ {t names : List ℕ} {b : ℕ} {s : List ℕ} where
  pub one_resolves : (r r' : Result Resolved ErrorCode) → Resolves t names b s r → Resolves t names b s r' → r ≡ r'
  one_resolves r r' (no_branch l) (no_branch m) = refl
  one_resolves r r' (no_branch l) (too_long m h) = clash m l
  one_resolves r r' (no_branch l) (one_header m h g) = clash m l
  one_resolves r r' (too_long l h) (no_branch m) = clash l m
  one_resolves r r' (too_long l h) (too_long m k) = refl
  one_resolves r r' (too_long l h) (one_header m k g) = absurd (omega arith)
  one_resolves r r' (one_header l h f) (no_branch m) = clash l m
  one_resolves r r' (one_header l h f) (too_long m k) = absurd (omega arith)
  one_resolves r r' (one_header l h f) (one_header m k g) = ap closing (one_begins _ _ f g)

  -- on an accepted table the check says nothing
  pub past_check : {r : Result Resolved ErrorCode} → Accepted t names → ResolvesAlone t names b s r → Resolves t names b s r
  past_check a (fault v) = no_fault (claims.one_verdict t names _ _ v (accepts a))
  past_check a (sound _ x) = x

  pub unchecked : (r r' : Result Resolved ErrorCode) → Accepted t names → ResolvesAlone t names b s r → Resolves t names b s r' → r ≡ r'
  unchecked r r' a x y = one_resolves r r' (past_check a x) y

  pub one_alone : (r r' : Result Resolved ErrorCode) → ResolvesAlone t names b s r → ResolvesAlone t names b s r' → r ≡ r'
  one_alone r r' (fault v) (fault u) = cc (claims.one_verdict t names _ _ v u)
  one_alone r r' (fault v) (sound a y) = unchecked r r' a (fault v) y
  one_alone r r' (sound a x) y = sym (unchecked r' r a y x)
