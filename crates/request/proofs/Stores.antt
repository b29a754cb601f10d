-- What is between commas, cut off one piece after the other, and words written one after the other.
use Rattle.std.specs.Prelude.{Option, Some, None}
use Rattle.std.specs.Bool.{MatchBool}
use Rattle.std.specs.List.{IsFirstMatchOrLen}
use Prim.Native.Nat.{ℕ, suc, ◌+◌, ◌-◌, ◌≤◌, ◌<◌}
use mathlib.Core.Path.{◌≡◌, refl, sym, ap, ◌∙◌}
use mathlib.Core.Logic.{◌⊎◌}
use mathlib.Core.List.{List, [], ◌∷◌, ◌++◌}
use mathlib.Core.Bool.{Bool, true, false, cond}
use native.Mathlib.Nat.{add-suc, suc-add}
use native.Mathlib.Numerals.{add-one}
use native.Mathlib.Omega.{arith}
use lib.Dec.{eqb}
use lib.ListN.{length, get_or, set, take, drop, length-append}
use lib.Seq.{sets, set_out, take-nil, get_or_at}
use borrow.Author.Rules.{rules}
use Rattle.std.proofs.Common.{eqb-true}
use Rattle.kind.proofs.Tests.{by_test}
use Rattle.integer.specs.Digit.{value_of}
use Rattle.request.specs.{Hex.is_dash, Number.is_number, Number.number_of}
use Rattle.request.specs.Words.{Outcome, on_first, pieces, pieces_of, are_numbers, numbers_of, over, written, words_in}
use Rattle.request.proofs.Parts.{part, inside, outside}

-- no comma in front of a place
NoComma : List ℕ → ℕ → Type 0
NoComma s n = (k d : ℕ) → 0 ≤ k → k < n → eqb (get_or s k d) 44 ≡ false

-- a text with no comma is one piece
last_piece : (x : List ℕ) → NoComma x (length x) → pieces x ≡ x ∷ []
unfolding pieces on_first NoComma
last_piece [] h = refl
last_piece (b ∷ x) h = rw (h 0 0 (omega arith) (omega arith), last_piece x (λ k d l m. h (suc k) d (omega arith) (omega arith)))

-- what stands before the first comma is a piece
first_piece : (x t : List ℕ) → NoComma (x ++ (44 ∷ t)) (length x) → pieces (x ++ (44 ∷ t)) ≡ x ∷ pieces t
unfolding pieces on_first NoComma
first_piece [] t h = refl
first_piece (b ∷ x) t h = rw (h 0 0 (omega arith) (omega arith), first_piece x t (λ k d l m. h (suc k) d (omega arith) (omega arith)))

-- the pieces that are left, and how many there are at most
abbrev pub left : Bool → List ℕ → List (List ℕ)
left true s = []
left false s = pieces s

abbrev pub most : Bool → List ℕ → ℕ
most true s = 0
most false s = length s + 1

-- As the walk over the pieces meets them: the text that is left, the piece cut off it, and what is left then.
module _ (s x t : List ℕ) (here end : Bool) (more : here ≡ false) (e : MatchBool end (s ≡ x) ((y : ℕ) × (s ≡ x ++ (y ∷ t)))) where
  pub cut : IsFirstMatchOrLen (λ b. eqb b 44) s (length x) → left here s ≡ x ∷ left end t
  unfolding NoComma
  cut h = rw more (go end e)
    where
      go : (end : Bool) → MatchBool end (s ≡ x) ((y : ℕ) × (s ≡ x ++ (y ∷ t))) → pieces s ≡ x ∷ left end t
      go true e = rw e (last_piece x (rw e at h.0))
      go false (y, e) =
          let c : y ≡ 44 = eqb-true y 44 (rw (e, get_or_at x y t 0 (length x) refl) at (h.1 (omega (arith, ap length e, length-append x (y ∷ t))) 0)) in
          let f : s ≡ x ++ (44 ∷ t) = rw c at e in
          ap pieces f ∙ first_piece x t (rw f at h.0)

  pub fewer : (n m : ℕ) → n + most here s ≤ m → n + 1 + most end t ≤ m
  fewer n m l = go end e (rw more at l)
    where
      go : (end : Bool) → MatchBool end (s ≡ x) ((y : ℕ) × (s ≡ x ++ (y ∷ t))) → n + (length s + 1) ≤ m → n + 1 + most end t ≤ m
      go true e l = omega arith
      go false (y, e) l = omega (arith, ap length e, length-append x (y ∷ t))

pub room : (s : List ℕ) (here : Bool) (n m : ℕ) → here ≡ false → n + most here s ≤ m + 1 → n ≤ m
room s here n m e l = let k : n + (length s + 1) ≤ m + 1 = rw e at l in omega arith

-- n words are written: what becomes of the pieces behind them
unfoldable pub onward : List ℕ → ℕ → List (List ℕ) → Outcome
onward out n [] = record { says = Some n; slots = out }
onward out n (p ∷ ps) = cond (is_number p) (onward (set out n (value_of 10 p)) (suc n) ps) (record { says = None; slots = out })

stored : (ps : List (List ℕ)) (out : List ℕ) (n : ℕ)
    → onward out n ps ≡ record { says = cond (are_numbers ps) (Some (n + length ps)) None; slots = sets out n (numbers_of ps) }
unfolding onward are_numbers numbers_of
stored [] out n = let z : n + 0 ≡ n = omega arith in rw z
stored (p ∷ ps) out n =
    by_test (λ (o : Outcome). o ≡ record { says = cond (are_numbers (p ∷ ps)) (Some (n + suc (length ps))) None; slots = sets out n (numbers_of (p ∷ ps)) }) (is_number p)
    (λ e. rw e (stored ps (set out n (value_of 10 p)) (suc n) ∙ rw (suc-add n (length ps), add-suc n (length ps)))) (λ e. rw e)

-- stores behind the end change nothing, and those behind the first leave it
nowhere : (ws : List ℕ) (n : ℕ) → sets [] n ws ≡ []
nowhere [] n = refl
nowhere (w ∷ ws) n = nowhere ws (suc n)

behind_first : (ws out : List ℕ) (x n : ℕ) → sets (x ∷ out) (suc n) ws ≡ x ∷ sets out n ws
behind_first [] out x n = refl
behind_first (w ∷ ws) out x n = behind_first ws (set out n w) x (suc n)

at_front : (ws out : List ℕ) → sets out 0 ws ≡ over out ws
at_front [] [] = refl
at_front [] (x ∷ out) = refl
at_front (w ∷ ws) [] = nowhere ws 1
at_front (w ∷ ws) (x ∷ out) = behind_first ws out w 0 ∙ ap (λ (l : List ℕ). w ∷ l) (at_front ws out)

start : (s o : List ℕ) → written o (pieces s) ≡ onward o 0 (pieces s)
unfolding written
start s o = let z : 0 + length (pieces s) ≡ length (pieces s) = omega arith in sym (stored (pieces s) o 0 ∙ rw (z, at_front))

-- what a piece is, told by the number that was read
is_none : (p : List ℕ) → number_of p ≡ None → is_number p ≡ false
unfolding number_of
is_none p = by_test (λ (r : Option ℕ). r ≡ None → is_number p ≡ false) (is_number p) (λ q e. cc) (λ q e. q)

is_some : (p : List ℕ) (w : ℕ) → number_of p ≡ Some w → (is_number p ≡ true) × (value_of 10 p ≡ w)
unfolding number_of
is_some p w = by_test (λ (r : Option ℕ). r ≡ Some w → (is_number p ≡ true) × (value_of 10 p ≡ w)) (is_number p) (λ q e. (q, (cc))) (λ q e. ((cc), (cc)))

-- As the walk meets them: the buffer, how many words were written, and what becomes of the pieces behind them.
module _ (w : Outcome) (out : List ℕ) (n : ℕ) (p : List ℕ) (ps left : List (List ℕ)) (cut : left ≡ p ∷ ps) (inv : w ≡ onward out n left) where
  pub no_word' : (x : Option ℕ) → x ≡ None → None ≡ number_of p → record { says = x; slots = out } ≡ w
  unfolding onward
  no_word' x e q = sym (inv ∙ rw (cut, is_none p (sym q), e))

  pub word' : (v : ℕ) → Some v ≡ number_of p → w ≡ onward (set out n v) (n + 1) ps
  unfolding onward
  word' v q = inv ∙ rw (cut, (is_some p v (sym q)).0, (is_some p v (sym q)).1, add-one)

pub no_slot : (out : List ℕ) (n w : ℕ) → length out ≤ n → out ≡ set out n w
no_slot out n w h = sym (set_out out n w h)

-- where no piece is left, the walk is done
pub done' : (w : Outcome) (out s : List ℕ) (n : ℕ) (end : Bool) → w ≡ onward out n (left end s) → end ≡ true → record { says = Some n; slots = out } ≡ w
unfolding onward
done' w out s n end inv e = sym (rw e at inv)

pub start' : (s t o : List ℕ) (end : Bool) → s ≡ t → end ≡ false → written o (pieces t) ≡ onward o 0 (left end s)
start' s t o end e f = rw (e, f) (start t o)

pub few' : (s t : List ℕ) (end : Bool) → s ≡ t → end ≡ false → 0 + most end s ≤ length t + 1
few' s t end e f = rw (e, f) (omega arith)

-- A part of a line.
module _ (s : List ℕ) (from to : ℕ) (o : List ℕ) where
  pub no_part' : (x : Option ℕ) → x ≡ None → (to < from) ⊎ (length s < to) → record { says = x; slots = o } ≡ words_in s from to o
  unfolding words_in
  no_part' x e h = rw (e, outside s from to h)

  module _ (h : from ≤ to) (l : to ≤ length s) (t : List ℕ) (et : t ≡ take (to - from) (drop from s)) (d : Bool) (ed : d ≡ is_dash t) where
    whole : written o (cond d [] (pieces t)) ≡ words_in s from to o
    unfolding words_in pieces_of
    whole = rw (inside s from to h l, ← part s from to h l, ← et, ed)

    pub no_words' : d ≡ true → record { says = Some 0; slots = o } ≡ words_in s from to o
    unfolding written are_numbers numbers_of
    no_words' q = rw (q, take-nil) at whole

    pub words' : d ≡ false → (x : Outcome) → x ≡ written o (pieces t) → x ≡ words_in s from to o
    words' q x e = e ∙ (rw q at whole)

pub ruleset walk = (rules, start', few', no_word', word', done')

pub ruleset laws = (rules, no_part', no_words', words')
