-- Laws of the letters that a name and a text have alike, as the code meets them.
use Prim.Native.Nat.{ℕ, suc, ◌+◌, ◌-◌, ◌*◌, ◌^◌, ◌≤◌, ◌<◌, max}
use mathlib.Core.Path.{◌≡◌, refl, sym, ap, ◌∙◌}
use mathlib.Core.Logic.{◌⊎◌, inl, inr, ⊎_elim}
use mathlib.Core.List.{List, [], ◌∷◌, ◌++◌}
use mathlib.Core.Bool.{Bool, true, false, not, cond}
use native.Mathlib.Omega.{arith}
use native.Mathlib.Numerals.{add-one}
use lib.ListN.{length, get_or, drop, drop_of_length-le}
use lib.Seq.{drop-cons}
use mir.Syntax.{w64}
use mir.Val.{Fits}
use borrow.Author.Rules.{rules}
use borrow.Author.Tests.{not-true, not-false}
use Rattle.kind.specs.Class.{is_capital, is_small, is_letter}
use Rattle.kind.proofs.Tests.{by_test, and_both, less_or_not}
use Rattle.util.specs.Run.{least, every}
use Rattle.util.proofs.Runs.{least_le, not_least}
use Rattle.mnemonic.specs.Mnemonic.{alike, pairs}
use Rattle.spoken.specs.Internal.{agrees, common}
use Rattle.spoken.proofs.Bytes.{agreed_class, agreed_case, agreed_first, agreed_letter}

-- how far letters go

module _ (r : ℕ → ℕ → Bool) (x s : List ℕ) (at i : ℕ) where
  common_more : i < length x → at + i < length s → r (get_or x i 0) (get_or s (at + i) 0) ≡ true
      → i + common r (drop i x) (drop (at + i) s) ≡ (i + 1) + common r (drop (i + 1) x) (drop (at + (i + 1)) s)
  unfolding common
  common_more h k e =
      let n : at + (i + 1) ≡ suc (at + i) = omega arith in
      rw (n, add-one, drop-cons x i 0 h, drop-cons s (at + i) 0 k, e) (omega arith)

  common_stop : i < length x → at + i < length s → r (get_or x i 0) (get_or s (at + i) 0) ≡ false → i + common r (drop i x) (drop (at + i) s) ≡ i
  unfolding common
  common_stop h k e = rw (drop-cons x i 0 h, drop-cons s (at + i) 0 k, e) (omega arith)

  common_past : (length x ≤ i) ⊎ (length s ≤ at + i) → i + common r (drop i x) (drop (at + i) s) ≡ i
  unfolding common
  common_past (inl h) = rw (drop_of_length-le x h) (omega arith)
  common_past (inr h) =
      rw (drop_of_length-le s h) (elim (drop i x) as (λ (y : List ℕ). i + common r y [] ≡ i) [ [] ↦ omega arith | c ∷ y ↦ omega arith ])

-- what the loop keeps: the letters before i are passed
abbrev pub Gone : Bool → List ℕ → List ℕ → ℕ → ℕ → ℕ → Type 0
Gone small x s at from i =
    from + common (agrees small) (drop from x) (drop (at + from) s) ≡ i + common (agrees small) (drop i x) (drop (at + i) s)

module _ (small : Bool) (x s : List ℕ) (at from : ℕ) (fits : at + from ≤ length s) where
  pub at_fits' : at ≤ length s
  at_fits' = omega (arith, fits)

  pub letters_begin' : Gone small x s at from from
  letters_begin' = refl

  module _ (end : ℕ) (e : end ≡ least (length x) (length s - at)) (i : ℕ) (inv : Gone small x s at from i) where
    pub name_holds' : i < end → i < length x
    name_holds' h = omega (arith, h, e, (least_le (length x) (length s - at)).0)

    pub text_holds' : i < end → at + i < length s
    text_holds' h = omega (arith, h, e, (least_le (length x) (length s - at)).1, fits)

    pub place_fits' : i < end → length s * 1 < 2 ^ 63 → Fits w64 (at + i)
    place_fits' h room = record { fits = omega (arith, text_holds' h, room) }

    module _ (h : i < end) (r : Bool) (er : r ≡ agrees small (get_or x i 0) (get_or s (at + i) 0)) where
      pub letters_stop' : not r ≡ true → i ≡ from + common (agrees small) (drop from x) (drop (at + from) s)
      letters_stop' q = sym (inv ∙ common_stop (agrees small) x s at i (name_holds' h) (text_holds' h) (sym er ∙ not-true r q))

      pub letters_more' : not r ≡ false → Gone small x s at from (i + 1)
      letters_more' q = inv ∙ common_more (agrees small) x s at i (name_holds' h) (text_holds' h) (sym er ∙ not-false r q)

    at_end : end ≤ i → i ≡ from + common (agrees small) (drop from x) (drop (at + from) s)
    at_end h =
        sym (inv ∙ common_past (agrees small) x s at i (⊎_elim inl (λ z. inr (omega (arith, z, fits))) (not_least (length x) (length s - at) i (omega (arith, h, e)))))

  -- a loop that is not left before its end, or begins behind it, ends at the later of the two
  pub letters_past' : (end : ℕ) → end ≡ least (length x) (length s - at) → (i : ℕ) → Gone small x s at from i → (m : ℕ) → m ≡ max from end → (from ≤ end → i ≤ end) → end ≤ i
      → m ≡ from + common (agrees small) (drop from x) (drop (at + from) s)
  letters_past' end e i inv m em f h = go (less_or_not end from)
    where
      go : (end < from) ⊎ (from ≤ end) → m ≡ from + common (agrees small) (drop from x) (drop (at + from) s)
      go (inl k) = let z : m ≡ from = omega arith in z ∙ at_end end e from letters_begin' (omega arith)
      go (inr k) = let z : m ≡ i = omega (arith, f k) in z ∙ at_end end e i inv h

pub ruleset letters_laws = (rules, at_fits', letters_begin', name_holds', text_holds', place_fits', letters_stop', letters_more', letters_past')

-- The letters that a name and a text have alike from their fronts, and what follows in each.
pub record Front (small : Bool) (x y : List ℕ) (n : ℕ) : Type 0 where
  pub said : List ℕ
  pub letters : List ℕ
  pub name : x ≡ said ++ drop n x
  pub text : y ≡ letters ++ drop n y
  pub said_long : length said ≡ n
  pub letters_long : length letters ≡ n
  pub same : alike said letters ≡ true
  pub class : every (λ c. cond small (is_small c) (is_capital c)) said ≡ true
  pub said_letters : every is_letter said ≡ true
  pub all_letters : every is_letter letters ≡ true

no_front : (small : Bool) (x y : List ℕ) → Front small x y 0
unfolding pairs every
no_front small x y = record { said = []; letters = []; name = refl; text = refl; said_long = refl; letters_long = refl; same = refl; class = refl; said_letters = refl; all_letters = refl }

pub front : (small : Bool) (x y : List ℕ) → Front small x y (common (agrees small) x y)
unfolding common pairs every
front small [] y = no_front small [] y
front small (c ∷ x) [] = no_front small (c ∷ x) []
front small (c ∷ x) (d ∷ y) = go (agrees small c d) refl (front small x y)
  where
    go : (r : Bool) → agrees small c d ≡ r → Front small x y (common (agrees small) x y) → Front small (c ∷ x) (d ∷ y) (cond r (suc (common (agrees small) x y)) 0)
    go true e f =
        record {
          said = c ∷ f.said;
          letters = d ∷ f.letters;
          name = ap (λ l. c ∷ l) f.name;
          text = ap (λ l. d ∷ l) f.text;
          said_long = ap suc f.said_long;
          letters_long = ap suc f.letters_long;
          same = and_both (agreed_case small c d e) f.same;
          class = and_both (agreed_class small c d e) f.class;
          said_letters = and_both (agreed_first small c d e) f.said_letters;
          all_letters = and_both (agreed_letter small c d e) f.all_letters;
        }
    go false e f = no_front small (c ∷ x) (d ∷ y)

pub common_within : (r : ℕ → ℕ → Bool) (x y : List ℕ) → common r x y ≤ length y
unfolding common
common_within r [] y = omega arith
common_within r (c ∷ x) [] = omega arith
common_within r (c ∷ x) (d ∷ y) = by_test (λ (k : ℕ). k ≤ suc (length y)) (r c d) (λ _. omega (arith, common_within r x y)) (λ _. omega arith)
