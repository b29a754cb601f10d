-- Numbers with a sign.
use Prim.Native.Char.{code}
use Prim.Native.Nat.{ℕ}
use mathlib.Core.Path.{◌≡◌, refl, ap, ◌∙◌}
use mathlib.Core.List.{List, [], ◌∷◌}
use mathlib.Core.Bool.{true, false}
use native.Mathlib.Omega.{arith}
use lib.IntN.{ℤ, pos, negsuc, nat_abs}
use lib.Signed.{lt_z}
use borrow.Author.Tests.{ltb-true}
use mir.Syntax.{w32, w64}
use mir.Val.{SFits, to_z, of_z}
use mir.ValLaws.{to_z-of_z}
use Rattle.report.specs.{Added.Added, Number.decimal, Number.signed}
use Rattle.report.proofs.Adds.{join}

-- a minus and the number without it; the number alone
minus : (n : ℤ) → lt_z n (pos 0) ≡ true → code "-" ∷ decimal (nat_abs n) ≡ signed n
unfolding signed
minus (pos n) e = absurd (omega (arith, ltb-true n 0 e))
minus (negsuc n) e = refl

plus : (n : ℤ) → lt_z n (pos 0) ≡ false → decimal (nat_abs n) ≡ signed n
unfolding signed
plus (pos n) e = refl
plus (negsuc n) e = absurd (let z : ◌≡◌ {A = ℕ} 0 1 = cc in omega arith)

module _ (n : ℤ) (f : SFits w32 n) where
  here : to_z w32 (of_z w32 n) ≡ n
  here = to_z-of_z w32 n f

  pub wider' : SFits w64 (to_z w32 (of_z w32 n))
  wider' = rw here (record { sfits = omega arith })

  -- the size of the number as one of 64 bits
  pub wide_size' : (g : ℤ) (k : ℕ) → g ≡ to_z w32 (of_z w32 n) → k ≡ nat_abs (to_z w64 (of_z w64 g)) → k ≡ nat_abs (to_z w32 (of_z w32 n))
  wide_size' g k e h = h ∙ ap (λ x. nat_abs (to_z w64 (of_z w64 x))) e ∙ ap nat_abs (to_z-of_z w64 (to_z w32 (of_z w32 n)) wider')

  module _ (l o : List ℕ) (at r k : ℕ) (e : k ≡ nat_abs (to_z w32 (of_z w32 n))) where
    size : k ≡ nat_abs n
    size = e ∙ ap nat_abs here

    pub minus' : (o' : List ℕ) (m : ℕ) → lt_z (to_z w32 (of_z w32 n)) (pos 0) ≡ true → Added l at (code "-" ∷ []) o m → Added o m (decimal k) o' r → Added l at (signed n) o' r
    minus' o' m q a b = rw (← minus n (rw here at q), ← size) (join l o o' at m r (code "-" ∷ []) (decimal k) a b)

    pub plus' : lt_z (to_z w32 (of_z w32 n)) (pos 0) ≡ false → Added l at (decimal k) o r → Added l at (signed n) o r
    plus' q a = rw (← plus n (rw here at q), ← size) a
