-- Laws of words, of a run among the next n characters, and of what follows an item of data, as the code meets them.
use Rattle.std.specs.Prelude.{Result}
use Prim.Native.Nat.{ℕ, zero, suc, ◌+◌, ◌-◌, ◌≤◌, ◌<◌}
use mathlib.Core.Path.{◌≡◌, refl, sym, ap, ◌∙◌}
use mathlib.Core.List.{List, [], ◌∷◌}
use mathlib.Core.Bool.{Bool, true, false, cond, not}
use mathlib.Core.Logic.{◌⊎◌, inl, inr, ⊎_elim}
use native.Mathlib.Nat.{le_refl}
use native.Mathlib.Omega.{arith}
use native.Mathlib.Numerals.{add-one}
use lib.ListN.{length, get_or, take, drop, drop_of_length-le}
use lib.Seq.{drop-cons}
use borrow.Author.Rules.{rules}
use borrow.Author.Tests.{not-true, not-false, lt-ltb, le-ltb, le-leb, lt-leb, ne_eqb}
use Rattle.kind.proofs.Tests.{less_or_not, by_test}
use Rattle.util.specs.Run.{run, run_end, stands_at}
use Rattle.item.specs.Near.{near_end, run_end_among}
use lib.Dec.{eqb}
use Rattle.error.specs.declared.ErrorCode.{ErrorCode}
use Rattle.kind.specs.Class.{is_white_space, in_mnemonic}
use Rattle.token.specs.declared.Token.{Token}
use Rattle.item.specs.Follow.{token, refused, ends_data, followed}
use Rattle.error.specs.declared.ErrorCode.TheVariants.{ProgramMnemonicTooLong, InvalidCharacterData, CharacterDataTooLong}
use Rattle.token.specs.View.{view_of}
use Rattle.token.specs.declared.Token.TheVariants.{ProgramMnemonic, CharacterProgramData}
use Rattle.item.specs.Word.{star_end, mnemonic, character_data}

module _ (p : ℕ → Bool) where
  take_none : (t : List ℕ) → run p (take 0 t) ≡ 0
  unfolding run
  take_none [] = refl
  take_none (b ∷ t) = refl

  take_past : (n : ℕ) → run p (take n []) ≡ 0
  unfolding run
  take_past zero = refl
  take_past (suc n) = refl

  -- among fewer characters it goes no further
  pub among_most : (n : ℕ) (t : List ℕ) → run p (take n t) ≤ run p t
  unfolding run
  among_most zero t = omega (arith, take_none t)
  among_most (suc n) [] = le_refl 0
  among_most (suc n) (b ∷ t) = go (p b) (among_most n t)
    where
      go : (c : Bool) → run p (take n t) ≤ run p t → cond c (suc (run p (take n t))) 0 ≤ cond c (suc (run p t)) 0
      go true ih = omega (arith, ih)
      go false ih = le_refl 0

  -- and where it stops short of them, it stops there anyhow
  pub among_all : (n : ℕ) (t : List ℕ) → run p (take n t) < n → run p (take n t) ≡ run p t
  unfolding run
  among_all zero t h = absurd (omega arith)
  among_all (suc n) [] h = refl
  among_all (suc n) (b ∷ t) h = go (p b) (among_all n t) h
    where
      go : (c : Bool) → (run p (take n t) < n → run p (take n t) ≡ run p t) → cond c (suc (run p (take n t))) 0 < suc n
          → cond c (suc (run p (take n t))) 0 ≡ cond c (suc (run p t)) 0
      go true ih k = ap suc (ih (omega (arith, k)))
      go false ih k = refl

module _ (n : ℕ) (p : ℕ → Bool) (s : List ℕ) (at : ℕ) where
  pub among_from : at ≤ run_end_among n p s at
  unfolding run_end_among
  among_from = omega arith

  pub among_under : run_end_among n p s at ≤ run_end p s at
  unfolding run_end_among run_end
  among_under = omega (arith, among_most p n (drop at s))

  pub among_whole : run_end_among n p s at - at < n → run_end_among n p s at ≡ run_end p s at
  unfolding run_end_among run_end
  among_whole h = ap (λ (k : ℕ). at + k) (among_all p n (drop at s) (omega (arith, h)))

  -- the loop begins with all n to go
  pub begins' : run_end_among n p s at ≡ run_end_among (n - (at - at)) p s at
  begins' = let e : n - (at - at) ≡ n = omega arith in rw e

  module _ (i : ℕ) (inv : run_end_among n p s at ≡ run_end_among (n - (i - at)) p s i) where
    full' : n ≤ i - at → i ≡ run_end_among n p s at
    unfolding run_end_among
    full' h = let e : n - (i - at) ≡ 0 = omega arith in sym (inv ∙ rw e (omega (arith, take_none p (drop i s))))

    past' : length s ≤ i → i ≡ run_end_among n p s at
    unfolding run_end_among
    past' h = sym (inv ∙ rw (drop_of_length-le s h) (omega (arith, take_past p (n - (i - at)))))

    module _ (l : i < length s) (h : i - at < n) (r : Bool) (er : r ≡ p (get_or s i 0)) where
      pub stop' : not r ≡ true → i ≡ run_end_among n p s at
      unfolding run_end_among run
      stop' q =
          let e : n - (i - at) ≡ suc (n - (i - at) - 1) = omega arith in
          sym (inv ∙ rw (e, drop-cons s i 0 l, ← er, not-true r q) (omega arith))

      pub more' : (j : ℕ) → at ≤ i → j ≡ i + 1 → not r ≡ false → run_end_among n p s at ≡ run_end_among (n - (j - at)) p s j
      unfolding run_end_among run
      more' j k ej q =
          let e : n - (i - at) ≡ suc (n - (j - at)) = omega arith in
          inv ∙ rw (e, drop-cons s i 0 l, ← er, not-false r q, ej, add-one) (omega arith)

-- the place that a loop over 13 characters stops before
module _ (s : List ℕ) (at : ℕ) where
  pub near_past' : length s ≤ at → length s ≡ near_end s at
  unfolding near_end
  near_past' h = rw (lt-ltb (length s - at) 13 (omega arith))

  pub near_text' : length s - at < 13 → length s ≡ near_end s at
  unfolding near_end
  near_text' h = rw (lt-ltb (length s - at) 13 h)

  pub near_on' : 13 ≤ length s - at → at + 13 ≡ near_end s at
  unfolding near_end
  near_on' h = rw (le-ltb (length s - at) 13 h)

  module _ (limit : ℕ) (e : limit ≡ near_end s at) (i : ℕ) where
    near : ((limit ≡ length s) × (length s - at < 13)) ⊎ ((limit ≡ at + 13) × (13 ≤ length s - at))
    near = ⊎_elim (λ k. inl (e ∙ sym (near_text' k), k)) (λ k. inr (e ∙ sym (near_on' k), k)) (less_or_not (length s - at) 13)

    pub near_inside' : i < limit → i < length s
    near_inside' h = ⊎_elim (λ q. omega (arith, h, q.0)) (λ q. omega (arith, h, q.0, q.1)) near

    pub near_short' : at ≤ i → i < limit → i - at < 13
    near_short' k h = ⊎_elim (λ q. omega (arith, h, k, q.0, q.1)) (λ q. omega (arith, h, k, q.0)) near

    pub near_through' : (p : ℕ → Bool) → run_end_among 13 p s at ≡ run_end_among (13 - (i - at)) p s i → at ≤ i → limit ≤ i → i ≡ run_end_among 13 p s at
    near_through' p inv k h =
        ⊎_elim (λ q. past' 13 p s at i inv (omega (arith, h, q.0))) (λ q. full' 13 p s at i inv (omega (arith, h, k, q.0)))
        near

pub ruleset among = (rules, begins', stop', more', near_inside', near_short', near_through')

pub ruleset limits = (rules, near_past', near_text', near_on')

module _ (s : List ℕ) (at : ℕ) where
  pub ends_past' : length s ≤ at → true ≡ ends_data s at
  unfolding ends_data
  ends_past' h = rw (le-leb (length s) at h)

  pub ends_comma' : at < length s → get_or s at 0 ≡ 44 → true ≡ ends_data s at
  unfolding ends_data
  ends_comma' h e = rw (lt-leb (length s) at h, e)

  pub ends_other' : at < length s → (get_or s at 0 ≡ 44 → ⊥) → eqb (get_or s at 0) 59 ≡ ends_data s at
  unfolding ends_data
  ends_other' h n = rw (lt-leb (length s) at h, ne_eqb (get_or s at 0) 44 n)

module _ (t : Token) (e : ErrorCode) (s : List ℕ) (end next : ℕ) (en : next ≡ run_end is_white_space s end) (r : Bool) (er : r ≡ ends_data s next) where
  pub followed_well' : r ≡ true → token t next ≡ followed t e s end
  unfolding followed
  followed_well' q = rw (← en, ← er, q)

  pub followed_ill' : r ≡ false → refused e ≡ followed t e s end
  unfolding followed
  followed_ill' q = rw (← en, ← er, q)

pub ruleset follows = (rules, ends_past', ends_comma', ends_other', followed_well', followed_ill')

module _ (s : List ℕ) (at : ℕ) where
  pub star_past' : length s ≤ at → at ≡ star_end s at
  unfolding star_end stands_at
  star_past' h = rw (le-ltb at (length s) h)

  pub star_there' : at < length s → get_or s at 0 ≡ 42 → at + 1 ≡ star_end s at
  unfolding star_end stands_at
  star_there' h e = rw (lt-ltb at (length s) h, e)

  pub star_none' : at < length s → (get_or s at 0 ≡ 42 → ⊥) → at ≡ star_end s at
  unfolding star_end stands_at
  star_none' h n = rw (lt-ltb at (length s) h, ne_eqb (get_or s at 0) 42 n)

  -- a star moves the place by one at most
  star_from : at ≤ star_end s at
  unfolding star_end
  star_from = by_test (λ (i : ℕ). at ≤ i) (stands_at 42 s at) (λ _. omega arith) (λ _. omega arith)

  module _ (end : ℕ) (e : end ≡ run_end_among 13 in_mnemonic s at) where
    pub word_forward' : at ≤ end
    word_forward' = rw e (among_from 13 in_mnemonic s at)

    pub word_long' : 12 < end - at → refused CharacterDataTooLong ≡ character_data s at
    unfolding character_data
    word_long' h =
        let k : 12 < run_end in_mnemonic s at - at = omega (arith, h, e, among_under 13 in_mnemonic s at) in
        rw (lt-leb (run_end in_mnemonic s at - at) 12 k)

    pub word_short' : end - at ≤ 12 → (r : Result (Token × ℕ) ErrorCode) → r ≡ followed (CharacterProgramData (view_of at end)) InvalidCharacterData s end → r ≡ character_data s at
    unfolding character_data
    word_short' h r er =
        let f : end ≡ run_end in_mnemonic s at = e ∙ among_whole 13 in_mnemonic s at (omega (arith, h, e)) in
        er ∙ rw (← f, le-leb (end - at) 12 h)

  module _ (from : ℕ) (ef : from ≡ star_end s at) (end : ℕ) (e : end ≡ run_end_among 13 in_mnemonic s from) where
    pub mnemonic_forward' : at ≤ end
    mnemonic_forward' = omega (arith, ef, e, star_from, among_from 13 in_mnemonic s from)

    pub mnemonic_long' : 12 < end - at → refused ProgramMnemonicTooLong ≡ mnemonic s at
    unfolding mnemonic
    mnemonic_long' h =
        let k : 12 < run_end in_mnemonic s from - at = omega (arith, h, e, among_under 13 in_mnemonic s from) in
        rw (← ef, lt-leb (run_end in_mnemonic s from - at) 12 k)

    pub mnemonic_short' : end - at ≤ 12 → token (ProgramMnemonic (view_of at end)) end ≡ mnemonic s at
    unfolding mnemonic
    mnemonic_short' h =
        let f : end ≡ run_end in_mnemonic s from = e ∙ among_whole 13 in_mnemonic s from (omega (arith, h, e, ef, star_from)) in
        rw (← ef, ← f, le-leb (end - at) 12 h)

pub ruleset laws = (rules, star_past', star_there', star_none', word_forward', word_long', word_short', mnemonic_forward', mnemonic_long', mnemonic_short')
