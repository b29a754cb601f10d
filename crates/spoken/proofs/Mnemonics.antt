-- The mnemonic at a place, by letters that it begins with and what is left of it after them.
use Rattle.std.specs.Prelude.{Result, Ok, Err, Some, None}
use Prim.Native.Nat.{ℕ, suc, ◌+◌, ◌-◌, ◌≤◌, ◌<◌}
use mathlib.Core.Path.{◌≡◌, refl, sym, ap, ◌∙◌}
use mathlib.Core.Logic.{◌⊎◌, inl, inr, ⊎_elim}
use mathlib.Core.List.{List, [], ◌∷◌, ◌++◌}
use mathlib.Core.Bool.{Bool, true, false, cond, ◌&&◌, ◌||◌, and-false}
use native.Mathlib.Omega.{arith}
use lib.Dec.{eqb, leb, ltb}
use lib.ListN.{length, get_or, take, drop, length-append, length-drop, drop_of_length-le}
use lib.Seq.{drop-cons, drop-drop, get_or-drop, length-take-le, take-append-add}
use borrow.Author.Rules.{rules}
use borrow.Author.Tests.{leb-false, le-leb, lt-leb, lt-ltb, le-ltb, ltb-true}
use Rattle.error.specs.{declared.ErrorCode.ErrorCode}
use Rattle.kind.specs.Class.{is_letter, in_mnemonic}
use Rattle.kind.proofs.Tests.{by_test, either, and_left, and_right, and_both, clash, less_or_not}
use Rattle.util.specs.Run.{run, run_end, stands_at, every}
use Rattle.util.proofs.Every.{every_weaker, run_within}
use Rattle.mnemonic.specs.Mnemonic.{matches}
use Rattle.token.specs.{View.part_of, View.view_of, declared.Token.Token, declared.Token.TheVariants.ProgramMnemonic}
use Rattle.item.specs.{Word.star_end, Word.mnemonic}
use Rattle.spoken.specs.{Spoken.spelled_as, Spoken.spelled_at, Internal.opens, Internal.goes_on_at}
use Rattle.spoken.proofs.Bytes.{letter_in, goes_on_at_lem}

-- the place after the mnemonic at a place
pub mnemonic_end : List ℕ → ℕ → ℕ
mnemonic_end s at = run_end in_mnemonic s (star_end s at)

module _ (s : List ℕ) (at : ℕ) where
  -- a mnemonic with a character ends in the text
  pub end_within : at < mnemonic_end s at → mnemonic_end s at ≤ length s
  unfolding mnemonic_end star_end run_end stands_at
  end_within = go (ltb at (length s)) refl (eqb (get_or s at 0) 42)
    where
      by : (i : ℕ) → (i ≤ length s) ⊎ (i ≡ at) → at < i + run in_mnemonic (drop i s) → i + run in_mnemonic (drop i s) ≤ length s
      by i (inl l) h = omega (arith, l, run_within in_mnemonic (drop i s), length-drop i s)
      by i (inr e) h = omega (arith, e, h, run_within in_mnemonic (drop i s), length-drop i s)

      go : (a : Bool) → ltb at (length s) ≡ a → (b : Bool) → at < cond (a && b) (at + 1) at + run in_mnemonic (drop (cond (a && b) (at + 1) at) s)
          → cond (a && b) (at + 1) at + run in_mnemonic (drop (cond (a && b) (at + 1) at) s) ≤ length s
      go true e true h = by (at + 1) (inl (omega (arith, ltb-true at (length s) e))) h
      go true e false h = by at (inr refl) h
      go false e b h = by at (inr refl) h

  pub part_is : at < mnemonic_end s at → part_of s (view_of at (mnemonic_end s at)) ≡ take (mnemonic_end s at - at) (drop at s)
  unfolding part_of
  part_is h = rw (le-leb (mnemonic_end s at) (length s) (end_within h), le-leb at (mnemonic_end s at) (omega (arith, h)))

  module _ (x : List ℕ) where
    pub unspelled : (ltb at (mnemonic_end s at) && matches x (part_of s (view_of at (mnemonic_end s at)))) ≡ false → None ≡ spelled_at x s at
    unfolding spelled_at mnemonic mnemonic_end
    unspelled h = by_test (λ (r : Result (Token × ℕ) ErrorCode). None ≡ spelled_as x s at r) (leb (mnemonic_end s at - at) 12) (λ _. rw h) (λ _. refl)

    pub too_long : 12 < mnemonic_end s at - at → None ≡ spelled_at x s at
    unfolding spelled_at mnemonic mnemonic_end
    too_long h = rw (lt-leb (mnemonic_end s at - at) 12 h)

    pub spelled_so : mnemonic_end s at - at ≤ 12 → at < mnemonic_end s at → matches x (part_of s (view_of at (mnemonic_end s at))) ≡ true → Some (mnemonic_end s at) ≡ spelled_at x s at
    unfolding spelled_at mnemonic mnemonic_end
    spelled_so h l m = rw (le-leb (mnemonic_end s at - at) 12 h, lt-ltb at (mnemonic_end s at) l, m)

-- what is left of a mnemonic from a place on
pub remainder : List ℕ → ℕ → List ℕ
remainder s p = take (run in_mnemonic (drop p s)) (drop p s)

pub goes_in : (s : List ℕ) (p : ℕ) → goes_on_at s p ≡ true → p < length s
unfolding goes_on_at
goes_in s p h = by_test (λ (b : Bool). b ≡ true → p < length s) (leb (length s) p) (λ _ f. clash f refl) (λ e _. leb-false (length s) p e) h

pub remainder_none : (s : List ℕ) (p : ℕ) → goes_on_at s p ≡ false → remainder s p ≡ []
unfolding remainder run
remainder_none s p h = ⊎_elim (λ l. rw (drop-cons s p 0 l, sym (goes_on_at_lem s p) ∙ h)) (λ l. rw (drop_of_length-le s l)) (less_or_not p (length s))

pub remainder_some : (s : List ℕ) (p : ℕ) → goes_on_at s p ≡ true → remainder s p ≡ get_or s p 0 ∷ remainder s (suc p)
unfolding remainder run
remainder_some s p h = rw (drop-cons s p 0 (goes_in s p h), sym (goes_on_at_lem s p) ∙ h)

run_after : (p : ℕ → Bool) (d t : List ℕ) → every p d ≡ true → run p (d ++ t) ≡ length d + run p t
unfolding run every
run_after p [] t h = omega arith
run_after p (b ∷ d) t h = rw (and_left (p b) (every p d) h) (omega (arith, run_after p d t (and_right (p b) (every p d) h)))

pub remainder_after : (s : List ℕ) (p q : ℕ) (d : List ℕ) → drop p s ≡ d ++ drop q s → every in_mnemonic d ≡ true → remainder s p ≡ d ++ remainder s q
unfolding remainder
remainder_after s p q d e h = rw (e, run_after in_mnemonic d (drop q s) h) (take-append-add d (drop q s) (run in_mnemonic (drop q s)))

pub remainder_long : (s : List ℕ) (p : ℕ) → length (remainder s p) ≡ run in_mnemonic (drop p s)
unfolding remainder
remainder_long s p = length-take-le (run in_mnemonic (drop p s)) (drop p s) (run_within in_mnemonic (drop p s))

-- A mnemonic that begins with the letters v, up to a place.
module _ (s : List ℕ) (at : ℕ) (v : List ℕ) (place : ℕ) (text : drop at s ≡ v ++ drop place s) (v-opens : opens v ≡ true) where
  some : 0 < length v
  unfolding opens
  some = (elim v as (λ (v : List ℕ). opens v ≡ true → 0 < length v) [ [] ↦ λ o. clash o refl | d ∷ v ↦ λ _. omega arith ]) v-opens

  pub begins_in : at < length s
  unfolding opens
  begins_in = omega (arith, some, length-drop at s, simp length-append at (ap length text))

  end_is : mnemonic_end s at ≡ at + (length v + length (remainder s place))
  unfolding opens mnemonic_end star_end run_end stands_at every
  end_is = rw (remainder_long s place, lt-ltb at (length s) begins_in) (go v text v-opens)
    where
      first : (d : ℕ) (t : List ℕ) → drop at s ≡ d ∷ t → get_or s at 0 ≡ d
      first d t e = let z : at + 0 ≡ at = omega arith in sym (rw z at (get_or-drop at s 0 0)) ∙ ap (λ (l : List ℕ). get_or l 0 0) e

      go : (v : List ℕ) → drop at s ≡ v ++ drop place s → opens v ≡ true
          → cond (eqb (get_or s at 0) 42) (at + 1) at + run in_mnemonic (drop (cond (eqb (get_or s at 0) 42) (at + 1) at) s) ≡ at + (length v + run in_mnemonic (drop place s))
      go [] e o = clash o refl
      go (d ∷ v) e o = rw (first d (v ++ drop place s) e) (by (eqb d 42) refl)
        where
          letters : every in_mnemonic v ≡ true
          letters = every_weaker is_letter in_mnemonic letter_in v (and_right (is_letter d || eqb d 42) (every is_letter v) o)

          by : (b : Bool) → eqb d 42 ≡ b → cond b (at + 1) at + run in_mnemonic (drop (cond b (at + 1) at) s) ≡ at + (suc (length v) + run in_mnemonic (drop place s))
          by true q = rw (← drop-drop 1 at s, e) (omega (arith, run_after in_mnemonic v (drop place s) letters))
          by false q =
              let in-it : in_mnemonic d ≡ true = letter_in d (⊎_elim (λ h. h) (λ h. clash h q) (either (is_letter d) (eqb d 42) (and_left (is_letter d || eqb d 42) (every is_letter v) o))) in
              rw e (omega (arith, run_after in_mnemonic (d ∷ v) (drop place s) (and_both in-it letters)))

  whole : part_of s (view_of at (mnemonic_end s at)) ≡ v ++ remainder s place
  unfolding remainder
  whole =
      let n : mnemonic_end s at - at ≡ length v + run in_mnemonic (drop place s) = omega (arith, end_is, remainder_long s place) in
      part_is s at (omega (arith, end_is, some)) ∙ rw (n, text) (take-append-add v (drop place s) (run in_mnemonic (drop place s)))

  module _ (x : List ℕ) where
    -- what follows the letters in the mnemonic settles it
    settled : (z w : List ℕ) → x ≡ z → remainder s place ≡ w → (b : Bool) → matches z (v ++ w) ≡ b → matches x (part_of s (view_of at (mnemonic_end s at))) ≡ b
    settled z w ex ew b h =
        ap (λ (t : List ℕ). matches x t) whole ∙ ap (λ (t : List ℕ). matches t (v ++ remainder s place)) ex ∙ ap (λ (t : List ℕ). matches z (v ++ t)) ew ∙ h

    pub no_match : (z w : List ℕ) → x ≡ z → remainder s place ≡ w → matches z (v ++ w) ≡ false → None ≡ spelled_at x s at
    no_match z w ex ew h = unspelled s at x (rw (settled z w ex ew false h) (and-false (ltb at (mnemonic_end s at))))

    pub over_long : 12 < length v + length (remainder s place) → None ≡ spelled_at x s at
    over_long h = too_long s at x (omega (arith, h, end_is))

    pub match : (z w : List ℕ) → x ≡ z → remainder s place ≡ w → matches z (v ++ w) ≡ true → length v + length w ≤ 12
        → (e : ℕ) → e ≡ at + (length v + length w) → Some e ≡ spelled_at x s at
    match z w ex ew m h e q =
        let n : length (remainder s place) ≡ length w = ap length ew in
        let l : e ≡ mnemonic_end s at = omega (arith, q, end_is, n) in
        rw l (spelled_so s at x (omega (arith, h, n, end_is)) (omega (arith, end_is, some)) (settled z w ex ew true m))

-- the whole mnemonic read and compared

module _ (x s : List ℕ) (at : ℕ) (r : Result (Token × ℕ) ErrorCode) (e : r ≡ mnemonic s at) where
  pub refused' : (c : ErrorCode) → r ≡ Err c → None ≡ spelled_at x s at
  unfolding spelled_at
  refused' c q = rw (← e, q)

  module _ (t : Token) (next : ℕ) (q : r ≡ Ok (t, next)) where
    pub no_character' : next ≤ at → None ≡ spelled_at x s at
    unfolding spelled_at
    no_character' h = rw (← e, q, le-ltb at next h)

    module _ (l : at < next) where
      next_is : next ≡ mnemonic_end s at
      unfolding mnemonic mnemonic_end
      next_is =
          by_test (λ (r : Result (Token × ℕ) ErrorCode). Ok (t, next) ≡ r → next ≡ mnemonic_end s at) (leb (mnemonic_end s at - at) 12)
          (λ _ f.
          let z : ◌≡◌ {A = Token × ℕ} (t, next) (ProgramMnemonic (view_of at (mnemonic_end s at)), mnemonic_end s at) = cc in
          ap (λ (p : Token × ℕ). p.1) z)
          (λ _ f. let z : ◌≡◌ {A = ℕ} 0 1 = cc in absurd (omega arith)) (sym q ∙ e)

      pub ends_within' : next ≤ length s
      ends_within' = omega (arith, next_is, end_within s at (omega (arith, next_is, l)))

      part_next : part_of s (view_of at next) ≡ take (next - at) (drop at s)
      part_next = rw next_is (part_is s at (omega (arith, next_is, l)))

      module _ (m : Bool) (em : m ≡ matches x (take (next - at) (drop at s))) where
        pub matched' : m ≡ true → Some next ≡ spelled_at x s at
        unfolding spelled_at
        matched' k = rw (← e, q, lt-ltb at next l, part_next, ← em, k)

        pub unmatched' : m ≡ false → None ≡ spelled_at x s at
        unfolding spelled_at
        unmatched' k = rw (← e, q, lt-ltb at next l, part_next, ← em, k)

pub ruleset matched_laws = (rules, refused', no_character', ends_within', matched', unmatched')
