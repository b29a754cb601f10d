-- Definite blocks: what is accepted has the form, and what has the form is accepted; the claims.
use Prim.Native.Nat.{ℕ, ◌+◌, ◌-◌, ◌≤◌, ◌<◌}
use mathlib.Core.Path.{◌≡◌, ap, ◌∙◌}
use mathlib.Core.List.{List, ◌++◌}
use mathlib.Core.Bool.{true, false, cond, ◌&&◌}
use native.Mathlib.Omega.{arith}
use lib.Dec.{eqb, leb}
use lib.ListN.{length, take, drop, length-append}
use lib.Seq.{take-append_seam}
use borrow.Author.Tests.{leb-true, le-leb, eqb-false}
use Rattle.error.specs.declared.ErrorCode.TheVariants.{SuffixNotAllowed, InvalidBlockData}
use Rattle.kind.specs.Class.{is_digit}
use Rattle.kind.proofs.Tests.{and_left, and_right}
use Rattle.util.specs.Run.{every}
use Rattle.integer.specs.Digit.{value_of}
use Rattle.token.specs.{Token.view_in, View.view_of, declared.View.View, declared.Token.TheVariants.ArbitraryBlockData}
use Rattle.item.specs.Follow.{token, followed}
use Rattle.forms.specs.{ItemForm.Follows, ItemForm.Ended, HashForm.BlockForm}
use Rattle.forms.proofs.ItemAccepted.{only_then, only_followed, ended}
use Rattle.forms.proofs.ItemSeams.{here_next, here_length, well_followed}
use Rattle.hash.specs.Block.{payload, definite, indefinite, arbitrary_data}
use Rattle.forms.specs.HashClaims.{Claims}

module _ (s : List ℕ) (at : ℕ) where
  definite_form : (n : ℕ) (v : View) (next : ℕ) → definite s at n ≡ token (ArbitraryBlockData v) next → BlockForm n s at v × Ended s v.end next
  unfolding definite payload
  definite_form n v next h =
      let c = only_then _ next _ _ _ h in
      let d = only_then _ next _ _ _ c.1 in
      let e : view_of (at + n) (at + n + value_of 10 (take n (drop at s))) ≡ v = ap view_in (only_followed (ArbitraryBlockData v) next (ArbitraryBlockData _) _ _ _ d.1) in (
        record { start = rw (← e); all_digit = and_right (leb (at + n) (length s)) _ c.0; as_long = rw (← e); inside = rw (← e) (leb-true _ (length s) d.0) },
        rw (← e) (ended _ _ _ _ _ next d.1),
      )

  definite_read : (ds t after : List ℕ) → drop at s ≡ ds ++ (t ++ after) → 0 < length ds → every is_digit ds ≡ true → value_of 10 ds ≡ length t → (f : Follows after)
      → definite s at (length ds) ≡ token (ArbitraryBlockData (view_of (at + length ds) (at + length ds + length t))) (at + length ds + length t + length f.white)
  unfolding definite payload
  definite_read ds t after h p a m f =
      let l : length s - at ≡ length ds + (length t + length after) = here_length s at (ds ++ (t ++ after)) h ∙ length-append ds (t ++ after) ∙ ap (λ (k : ℕ). length ds + k) (length-append t after) in
      let w : take (length ds) (drop at s) ≡ ds = rw h (take-append_seam ds (t ++ after)) in
      let n : drop (at + length ds) s ≡ t ++ after = here_next s at ds (t ++ after) h in
      let i : at + length ds ≤ length s = omega (arith, l, p) in
      let j : at + length ds + length t ≤ length s = omega (arith, l, p) in
      rw (w, le-leb (at + length ds) (length s) i, a, m, le-leb (at + length ds + length t) (length s) j)
      (well_followed (ArbitraryBlockData (view_of (at + length ds) (at + length ds + length t))) SuffixNotAllowed s (at + length ds + length t) after (here_next s (at + length ds) t after n) f)

module _ (b : ℕ) (s : List ℕ) (at : ℕ) where
  pub block_form : (v : View) (next : ℕ) → eqb b 48 ≡ false → arbitrary_data b s at ≡ token (ArbitraryBlockData v) next
      → BlockForm (b - 48) s at v × Ended s v.end next
  unfolding arbitrary_data
  block_form v next z h =
      definite_form s at (b - 48) v next
      (rw z at (only_then _ next (is_digit b) (cond (eqb b 48) (indefinite s at) (definite s at (b - 48))) InvalidBlockData h).1)

  -- a digit that is no 0 says one digit at least
  some : is_digit b ≡ true → eqb b 48 ≡ false → 0 < b - 48
  unfolding is_digit
  some d z = omega (arith, leb-true 48 b (and_left (leb 48 b) (leb b 57) d), eqb-false b 48 z)

  pub block_read : (ds t after : List ℕ) → is_digit b ≡ true → eqb b 48 ≡ false → length ds ≡ b - 48 → drop at s ≡ ds ++ (t ++ after) → every is_digit ds ≡ true
      → value_of 10 ds ≡ length t → (f : Follows after)
      → arbitrary_data b s at ≡ token (ArbitraryBlockData (view_of (at + length ds) (at + length ds + length t))) (at + length ds + length t + length f.white)
  unfolding arbitrary_data
  block_read ds t after d z e h a m f = rw (d, z, ← e) (definite_read s at ds t after h (omega (arith, e, some d z)) a m f)

pub claims : Claims
claims = record { block_form = block_form; block_read = block_read }
