-- Laws of the unsigned forms, as the code meets them.
use Rattle.std.specs.Prelude.{Result, Ok, Err}
use Rattle.std.specs.Int.{FitsUnsignedBits}
use Prim.Native.Nat.{ℕ, ◌^◌, ◌<◌}
use mathlib.Core.Path.{◌≡◌, refl, sym, ap, ◌∙◌}
use mathlib.Core.Bool.{Bool, true, false, cond, true≢false}
use native.Mathlib.Omega.{arith}
use lib.IntN.{ℤ, pos, negsuc, nat_abs}
use lib.Signed.{mag}
use borrow.Author.Rules.{rules}
use mir.Syntax.{w64}
use mir.Val.{SFits, to_z, of_z}
use mir.ValLaws.{to_z-of_z}
use Rattle.error.specs.{declared.ErrorCode.ErrorCode, declared.ErrorCode.TheVariants.IllegalParameterValue}
use Rattle.unsigned_coordinate.specs.Unsigned.{is_negative, unsigned_of, unsigned_pair_of, unsigned_triple_of}

-- a coordinate that is no negative, and what is said of one that is
module _ (a : ℤ) where
  passed : (n : ℕ) → Ok n ≡ unsigned_of (Ok a) → (is_negative a ≡ false) × (n ≡ nat_abs a)
  unfolding unsigned_of
  passed n e = go (is_negative a) e
    where
      go : (b : Bool) → Ok n ≡ cond b (Err IllegalParameterValue) (Ok (nat_abs a)) → (b ≡ false) × (n ≡ nat_abs a)
      go true q = absurd (true≢false (cc))
      go false q = (refl, cc)

  kept_back : (e : ErrorCode) → Err e ≡ unsigned_of (Ok a) → (is_negative a ≡ true) × (e ≡ IllegalParameterValue)
  unfolding unsigned_of
  kept_back e q = go (is_negative a) q
    where
      go : (b : Bool) → Err e ≡ cond b (Err IllegalParameterValue) (Ok (nat_abs a)) → (b ≡ true) × (e ≡ IllegalParameterValue)
      go true q = (refl, cc)
      go false q = absurd (true≢false (cc))

-- a coordinate and what it is as an unsigned number, where it is one
module _ (v : ℤ) (f : SFits w64 v) where
  pub number' : (n : ℕ) → FitsUnsignedBits 64 (to_z w64 (of_z w64 v)) × (n ≡ nat_abs (to_z w64 (of_z w64 v))) → Ok n ≡ unsigned_of (Ok v)
  unfolding unsigned_of
  number' n h = go v (rw (to_z-of_z w64 v f) at h)
    where
      go : (v : ℤ) → FitsUnsignedBits 64 v × (n ≡ nat_abs v) → Ok n ≡ cond (is_negative v) (Err IllegalParameterValue) (Ok (nat_abs v))
      go (pos m) k = ap Ok k.1
      go (negsuc m) k = absurd k.0

  pub negative' : (FitsUnsignedBits 64 (to_z w64 (of_z w64 v)) → ⊥) → Err IllegalParameterValue ≡ unsigned_of (Ok v)
  unfolding unsigned_of
  negative' h = go v f.sfits (rw (to_z-of_z w64 v f) at h)
    where
      go : (v : ℤ) → mag v < 2 ^ 63 → (FitsUnsignedBits 64 v → ⊥) → Err IllegalParameterValue ≡ cond (is_negative v) (Err IllegalParameterValue) (Ok (nat_abs v))
      go (pos m) l k = absurd (k (omega (arith, l)))
      go (negsuc m) l k = refl

-- what was read, by its case
module _ (c r : Result ℤ ErrorCode) (er : r ≡ c) where
  pub one_refused' : (e : ErrorCode) → r ≡ Err e → (x : Result ℕ ErrorCode) → x ≡ Err e → x ≡ unsigned_of c
  unfolding unsigned_of
  one_refused' e q x ex = ex ∙ rw (← er, q)

  pub one' : (a : ℤ) → r ≡ Ok a → (x : Result ℕ ErrorCode) → x ≡ unsigned_of (Ok a) → x ≡ unsigned_of c
  one' a q x ex = ex ∙ rw (← er, q)

module _ (c r : Result (ℤ × ℤ) ErrorCode) (er : r ≡ c) where
  pub two_refused' : (e : ErrorCode) → r ≡ Err e → (x : Result (ℕ × ℕ) ErrorCode) → x ≡ Err e → x ≡ unsigned_pair_of c
  unfolding unsigned_pair_of
  two_refused' e q x ex = ex ∙ rw (← er, q)

  module _ (a b : ℤ) (q : r ≡ Ok (a, b)) (u : Result ℕ ErrorCode) (eu : u ≡ unsigned_of (Ok a)) where
    pub two_first' : (e : ErrorCode) → u ≡ Err e → (x : Result (ℕ × ℕ) ErrorCode) → x ≡ Err e → x ≡ unsigned_pair_of c
    unfolding unsigned_pair_of
    two_first' e k x ex = let l = kept_back a e (sym k ∙ eu) in ex ∙ rw (← er, q, l.0, l.1)

    module _ (m : ℕ) (k : u ≡ Ok m) (v : Result ℕ ErrorCode) (ev : v ≡ unsigned_of (Ok b)) where
      pub two_second' : (e : ErrorCode) → v ≡ Err e → (x : Result (ℕ × ℕ) ErrorCode) → x ≡ Err e → x ≡ unsigned_pair_of c
      unfolding unsigned_pair_of
      two_second' e l x ex =
          let i = passed a m (sym k ∙ eu) in
          let j = kept_back b e (sym l ∙ ev) in
          ex ∙ rw (← er, q, i.0, j.0, j.1)

      pub two' : (n : ℕ) → v ≡ Ok n → Ok (m, n) ≡ unsigned_pair_of c
      unfolding unsigned_pair_of
      two' n l =
          let i = passed a m (sym k ∙ eu) in
          let j = passed b n (sym l ∙ ev) in
          rw (← er, q, i.0, j.0, i.1, j.1)

module _ (c r : Result (ℤ × ℤ × ℤ) ErrorCode) (er : r ≡ c) where
  pub three_refused' : (e : ErrorCode) → r ≡ Err e → (x : Result (ℕ × ℕ × ℕ) ErrorCode) → x ≡ Err e → x ≡ unsigned_triple_of c
  unfolding unsigned_triple_of
  three_refused' e q x ex = ex ∙ rw (← er, q)

  module _ (a b d : ℤ) (q : r ≡ Ok (a, b, d)) (u : Result ℕ ErrorCode) (eu : u ≡ unsigned_of (Ok a)) where
    pub three_first' : (e : ErrorCode) → u ≡ Err e → (x : Result (ℕ × ℕ × ℕ) ErrorCode) → x ≡ Err e → x ≡ unsigned_triple_of c
    unfolding unsigned_triple_of
    three_first' e k x ex = let l = kept_back a e (sym k ∙ eu) in ex ∙ rw (← er, q, l.0, l.1)

    module _ (m : ℕ) (k : u ≡ Ok m) (v : Result ℕ ErrorCode) (ev : v ≡ unsigned_of (Ok b)) where
      pub three_second' : (e : ErrorCode) → v ≡ Err e → (x : Result (ℕ × ℕ × ℕ) ErrorCode) → x ≡ Err e → x ≡ unsigned_triple_of c
      unfolding unsigned_triple_of
      three_second' e l x ex =
          let i = passed a m (sym k ∙ eu) in
          let j = kept_back b e (sym l ∙ ev) in
          ex ∙ rw (← er, q, i.0, j.0, j.1)

      module _ (n : ℕ) (l : v ≡ Ok n) (w : Result ℕ ErrorCode) (ew : w ≡ unsigned_of (Ok d)) where
        pub three_third' : (e : ErrorCode) → w ≡ Err e → (x : Result (ℕ × ℕ × ℕ) ErrorCode) → x ≡ Err e → x ≡ unsigned_triple_of c
        unfolding unsigned_triple_of
        three_third' e o x ex =
            let i = passed a m (sym k ∙ eu) in
            let j = passed b n (sym l ∙ ev) in
            let h = kept_back d e (sym o ∙ ew) in
            ex ∙ rw (← er, q, i.0, j.0, h.0, h.1)

        pub three' : (p : ℕ) → w ≡ Ok p → Ok (m, n, p) ≡ unsigned_triple_of c
        unfolding unsigned_triple_of
        three' p o =
            let i = passed a m (sym k ∙ eu) in
            let j = passed b n (sym l ∙ ev) in
            let h = passed d p (sym o ∙ ew) in
            rw (← er, q, i.0, j.0, h.0, i.1, j.1, h.1)

pub ruleset laws = (rules, number', negative')
