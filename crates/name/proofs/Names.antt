-- The runs that the code passes over are the parts of a name.
use Prim.Native.Nat.{ℕ, suc, ◌+◌, ◌≤◌, ◌<◌}
use mathlib.Core.Path.{◌≡◌, refl, sym, ap, ◌∙◌}
use mathlib.Core.Logic.{◌⊎◌, inl, inr, ⊎_elim}
use mathlib.Core.List.{List, [], ◌∷◌, ◌++◌}
use mathlib.Core.Bool.{Bool, true, false, not, ◌&&◌}
use native.Mathlib.Nat.{add-zero}
use native.Mathlib.Omega.{arith}
use lib.Dec.{eqb, ltb}
use lib.ListN.{length, get_or, take, drop, take-append-drop, length-drop, get_or-eq_default}
use lib.Seq.{drop-drop, drop-append_seam, get_or-drop, length-take-le}
use borrow.Author.Rules.{rules}
use borrow.Author.Tests.{not-true, ltb-true, eqb-true, lt-ltb, eq-eqb, le-ltb}
use Rattle.kind.specs.Class.{is_capital, is_small, is_digit}
use Rattle.kind.proofs.Tests.{both_ways, and_left, and_right, and_both, clash, less_or_not}
use Rattle.kind.proofs.Classes.{small_no_capital, digit_no_capital, small_no_digit}
use Rattle.util.specs.Decides.{Decides, holds, fails}
use Rattle.util.specs.Run.{run, run_end, stands_at, every}
use Rattle.util.proofs.Decided.{by_both}
use Rattle.util.proofs.Every.{every_run, run_every, run_whole, every_run_front, run_within}
use Rattle.mnemonic.specs.Spelling.{Name}
use Rattle.name.specs.Parts.{ends_from, names_from}

-- a name behind its star
record Plain (x : List ℕ) : Type 0 where
  capitals : List ℕ
  smalls : List ℕ
  digits : List ℕ
  parts : x ≡ capitals ++ (smalls ++ digits)
  some_capital : capitals ≡ [] → ⊥
  all_capital : every is_capital capitals ≡ true
  all_small : every is_small smalls ≡ true
  all_digit : every is_digit digits ≡ true
  no_zero : eqb (get_or digits 0 0) 48 ≡ false

-- a text of the class q has no run of the class p, if no character is of both
no_run : (p q : ℕ → Bool) → ((b : ℕ) → q b ≡ true → p b ≡ false) → (x y : List ℕ) → every q x ≡ true → run p y ≡ 0 → run p (x ++ y) ≡ 0
unfolding every run
no_run p q f [] y h k = k
no_run p q f (b ∷ x) y h k = rw (f b (and_left (q b) (every q x) h))

no_run_alone : (p q : ℕ → Bool) → ((b : ℕ) → q b ≡ true → p b ≡ false) → (x : List ℕ) → every q x ≡ true → run p x ≡ 0
unfolding every run
no_run_alone p q f [] h = refl
no_run_alone p q f (b ∷ x) h = rw (f b (and_left (q b) (every q x) h))

digit_no_small : (b : ℕ) → is_digit b ≡ true → is_small b ≡ false
digit_no_small b h = both_ways (is_small b) false (λ e. clash h (small_no_digit b e)) (λ e. clash e refl)

-- whether a zero stands at a place, by the text from there on
stands_drop : (s : List ℕ) (i : ℕ) → stands_at 48 s i ≡ eqb (get_or (drop i s) 0 0) 48
unfolding stands_at
stands_drop s i =
    rw (get_or-drop i s 0 0, add-zero i)
    (⊎_elim (λ h. rw (lt-ltb i (length s) h)) (λ h. rw (le-ltb i (length s) h, get_or-eq_default s 0 h)) (less_or_not i (length s)))

filled : (x : List ℕ) → (x ≡ [] → ⊥) → 0 < length x
filled [] h = absurd (h refl)
filled (b ∷ x) h = omega arith

module _ (s : List ℕ) (at : ℕ) where
  x : List ℕ
  x = drop at s

  c : ℕ
  c = run is_capital x

  y : List ℕ
  y = drop c x

  l : ℕ
  l = run is_small y

  z : List ℕ
  z = drop l y

  capitals_end : run_end is_capital s at ≡ at + c
  unfolding run_end x c
  capitals_end = refl

  letters_end : run_end is_small s (at + c) ≡ at + c + l
  unfolding run_end x c y l
  letters_end = rw (← drop-drop (run is_capital (drop at s)) at s)

  rest : drop (at + c + l) s ≡ z
  unfolding x c y l z
  rest = sym (rw (← drop-drop (run is_small (drop (run is_capital (drop at s)) (drop at s))) (at + run is_capital (drop at s)) s, ← drop-drop (run is_capital (drop at s)) at s))

  inside : at ≤ length s → at + c + l + length z ≡ length s
  unfolding x c y l z
  inside h =
      omega
      (arith, run_within is_capital (drop at s), run_within is_small (drop (run is_capital (drop at s)) (drop at s)), length-drop at s, length-drop (run is_capital (drop at s)) (drop at s), length-drop (run is_small (drop (run is_capital (drop at s)) (drop at s))) (drop (run is_capital (drop at s)) (drop at s)))

  -- what the test says of the text from the place on
  record Told : Type 0 where
    some : 0 < c
    no_zero : eqb (get_or z 0 0) 48 ≡ false
    digits : run is_digit z ≡ length z

  told : at ≤ length s → names_from s at ≡ true → Told
  unfolding names_from ends_from run_end
  told h e =
      let k = rw (capitals_end, letters_end, stands_drop s (at + c + l), rest) at e in
      let b = and_right (ltb at (at + c)) (not (eqb (get_or z 0 0) 48) && eqb (at + c + l + run is_digit z) (length s)) k in
      record {
        some = omega (arith, ltb-true at (at + c) (and_left (ltb at (at + c)) _ k));
        no_zero = not-true (eqb (get_or z 0 0) 48) (and_left (not (eqb (get_or z 0 0) 48)) (eqb (at + c + l + run is_digit z) (length s)) b);
        digits =
            omega (arith, inside h, eqb-true (at + c + l + run is_digit z) (length s) (and_right (not (eqb (get_or z 0 0) 48)) (eqb (at + c + l + run is_digit z) (length s)) b));
      }

  tells : at ≤ length s → Told → names_from s at ≡ true
  unfolding names_from ends_from run_end
  tells h t =
      rw (capitals_end, letters_end, stands_drop s (at + c + l), rest)
      (and_both (lt-ltb at (at + c) (omega (arith, t.some)))
      (and_both {a = not (eqb (get_or z 0 0) 48)} (rw t.no_zero) (eq-eqb (at + c + l + run is_digit z) (length s) (omega (arith, inside h, t.digits)))))

  plain_from : Told → Plain x
  unfolding x c y l z
  plain_from t =
      record {
        capitals = take c x;
        smalls = take l y;
        digits = z;
        parts = sym (take-append-drop c x) ∙ ap (λ (w : List ℕ). take c x ++ w) (sym (take-append-drop l y));
        some_capital = λ e. omega (arith, t.some, ap length e, length-take-le c x (run_within is_capital x));
        all_capital = every_run_front is_capital x;
        all_small = every_run_front is_small y;
        all_digit = run_every is_digit z t.digits;
        no_zero = t.no_zero;
      }

  to_plain : Plain x → Told
  unfolding x c y l z
  to_plain p =
      let cs = p.capitals in
      let ls = p.smalls in
      let ds = p.digits in
      let no-capital : run is_capital (ls ++ ds) ≡ 0 =
      no_run is_capital is_small small_no_capital ls ds p.all_small (no_run_alone is_capital is_digit digit_no_capital ds p.all_digit) in
      let ec : c ≡ length cs = rw p.parts (run_whole is_capital cs (ls ++ ds) p.all_capital no-capital) in
      let ey : y ≡ ls ++ ds = rw (ec, p.parts) (drop-append_seam cs (ls ++ ds)) in
      let el : l ≡ length ls = rw ey (run_whole is_small ls ds p.all_small (no_run_alone is_small is_digit digit_no_small ds p.all_digit)) in
      let ez : z ≡ ds = rw (el, ey) (drop-append_seam ls ds) in
      record {
        some = omega (arith, ec, filled cs p.some_capital);
        no_zero = rw ez p.no_zero;
        digits = rw ez (every_run is_digit ds p.all_digit);
      }

  plain_exact : at ≤ length s → ((names_from s at ≡ true) → Plain x) × (Plain x → names_from s at ≡ true)
  plain_exact h = (λ e. plain_from (told h e), λ p. tells h (to_plain p))

-- a name is a plain one, perhaps behind a star
from_plain : (star rest s : List ℕ) → s ≡ star ++ rest → (star ≡ []) ⊎ (star ≡ 42 ∷ []) → Plain rest → Name s
from_plain star rest s e h p =
    record {
      star = star;
      capitals = p.capitals;
      smalls = p.smalls;
      digits = p.digits;
      parts = e ∙ ap (λ (t : List ℕ). star ++ t) p.parts;
      star_or_none = h;
      some_capital = p.some_capital;
      all_capital = p.all_capital;
      all_small = p.all_small;
      all_digit = p.all_digit;
      no_zero = p.no_zero;
    }

behind_star : (s : List ℕ) (n : Name s) (x : List ℕ) → n.star ≡ x → Plain (drop (length x) s)
behind_star s n x e =
    record {
      capitals = n.capitals;
      smalls = n.smalls;
      digits = n.digits;
      parts = rw (← e) (ap (λ (t : List ℕ). drop (length n.star) t) n.parts ∙ drop-append_seam n.star (n.capitals ++ (n.smalls ++ n.digits)));
      some_capital = n.some_capital;
      all_capital = n.all_capital;
      all_small = n.all_small;
      all_digit = n.all_digit;
      no_zero = n.no_zero;
    }

-- a plain name begins with a capital, and so with no star
no_star : (s : List ℕ) → Plain s → stands_at 42 s 0 ≡ true → ⊥
unfolding stands_at every is_capital
no_star s p h = go p.capitals p.some_capital p.all_capital p.parts
  where
    first : get_or s 0 0 ≡ 42
    first = eqb-true (get_or s 0 0) 42 (and_right (ltb 0 (length s)) (eqb (get_or s 0 0) 42) h)

    go : (cs : List ℕ) → (cs ≡ [] → ⊥) → every is_capital cs ≡ true → s ≡ cs ++ (p.smalls ++ p.digits) → ⊥
    go [] some all e = some refl
    go (b ∷ cs) some all e =
        let f : b ≡ 42 = sym (ap (λ (t : List ℕ). get_or t 0 0) e) ∙ first in
        let g : is_capital 42 ≡ true = rw f at (and_left (is_capital b) (every is_capital cs) all) in
        clash g refl

star_first : (s : List ℕ) (n : Name s) → n.star ≡ 42 ∷ [] → stands_at 42 s 0 ≡ true
unfolding stands_at
star_first s n e = rw (n.parts, e) (and_both (lt-ltb 0 (suc (length (n.capitals ++ (n.smalls ++ n.digits)))) (omega arith)) refl)

long : (s : List ℕ) → stands_at 42 s 0 ≡ true → (b : ℕ) × (u : List ℕ) × (s ≡ b ∷ u) × (b ≡ 42)
unfolding stands_at
long [] h = clash h refl
long (b ∷ u) h = (b, u, refl, eqb-true b 42 (and_right (ltb 0 (suc (length u))) (eqb b 42) h))

module _ (s : List ℕ) (t r : Bool) (e : t ≡ stands_at 42 s 0) where
  pub starred' : t ≡ true → r ≡ names_from s 1 → Decides (Name s) r
  unfolding x
  starred' q k = rw k (by_both (names_from s 1) out into)
    where
      stands : stands_at 42 s 0 ≡ true
      stands = sym e ∙ q

      within : 1 ≤ length s
      within = let w = long s stands in omega (arith, ap length w.2)

      out : names_from s 1 ≡ true → Name s
      out h = let w = long s stands in from_plain (42 ∷ []) w.1 s (w.2 ∙ ap (λ (b : ℕ). b ∷ w.1) w.3) (inr refl) (rw w.2 at ((plain_exact s 1 within).0 h))

      into : Name s → names_from s 1 ≡ true
      into n =
          ⊎_elim (λ f. absurd (no_star s (behind_star s n [] f) stands)) (λ f. (plain_exact s 1 within).1 (behind_star s n (42 ∷ []) f)) n.star_or_none

  pub unstarred' : t ≡ false → r ≡ names_from s 0 → Decides (Name s) r
  unfolding x
  unstarred' q k = rw k (by_both (names_from s 0) out into)
    where
      out : names_from s 0 ≡ true → Name s
      out h = from_plain [] s s refl (inl refl) ((plain_exact s 0 (omega arith)).0 h)

      into : Name s → names_from s 0 ≡ true
      into n =
          ⊎_elim (λ f. (plain_exact s 0 (omega arith)).1 (behind_star s n [] f)) (λ f. clash (star_first s n f) (sym e ∙ q)) n.star_or_none

-- a text that cannot fail to be a name is one
pub surely : (s : List ℕ) → ((Name s → ⊥) → ⊥) → Name s
surely s h = go (stands_at 42 s 0) refl
  where
    by : {r : Bool} → Decides (Name s) r → Name s
    by (holds n) = n
    by (fails f) = absurd (h f)

    go : (t : Bool) → t ≡ stands_at 42 s 0 → Name s
    go true e = by (starred' s true (names_from s 1) e refl refl)
    go false e = by (unstarred' s false (names_from s 0) e refl refl)

pub ruleset laws = (rules, starred', unstarred')
