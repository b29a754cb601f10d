-- Questions answered by a test.
use mathlib.Core.Path.{◌≡◌, refl}
use mathlib.Core.Bool.{Bool, true, false}
use Rattle.kind.proofs.Tests.{clash}
use Rattle.util.specs.Decides.{Decides, holds, fails}

-- a test that passes exactly where P holds answers for P
pub by_both : {P : Type 0} (r : Bool) → (r ≡ true → P) → (P → r ≡ true) → Decides P r
by_both true f g = holds (f refl)
by_both false f g = fails (λ p. clash (g p) refl)

pub it_holds : {P : Type 0} {r : Bool} → Decides P r → r ≡ true → P
it_holds (holds p) e = p
it_holds (fails f) e = clash e refl

pub it_fails : {P : Type 0} {r : Bool} → Decides P r → r ≡ false → P → ⊥
it_fails (holds p) e q = clash refl e
it_fails (fails f) e q = f q

-- two answers to one question are the same
pub one_answer : {P : Type 0} {r q : Bool} → Decides P r → Decides P q → r ≡ q
one_answer (holds p) (holds q) = refl
one_answer (holds p) (fails f) = absurd (f p)
one_answer (fails f) (holds q) = absurd (f q)
one_answer (fails f) (fails g) = refl
