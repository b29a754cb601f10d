-- Texts written to a line, one behind the other.
use Prim.Native.Nat.{ℕ, ◌+◌, ◌-◌, ◌≤◌}
use mathlib.Core.Path.{◌≡◌, refl, sym, ap, ◌∙◌}
use mathlib.Core.List.{List, ◌++◌, append_assoc}
use native.Mathlib.Omega.{arith}
use lib.ListN.{length, drop, length-append}
use lib.Seq.{drop-drop}
use borrow.Rule.Slice.PartMut.{put_mid}
use borrow.Author.Rules.{rules}
use Rattle.std.proofs.lemmas.Slice.{take-put_mid, drop-put_mid}
use Rattle.report.specs.Added.{Added}

-- what is the same from one place on is so from any behind it
behind : (o l : List ℕ) (a b : ℕ) → a ≤ b → drop a o ≡ drop a l → drop b o ≡ drop b l
behind o l a b h e =
    let f : a + (b - a) ≡ b = omega arith in
    let back : (t : List ℕ) → drop b t ≡ drop (b - a) (drop a t) = λ t. sym (drop-drop (b - a) a t ∙ rw f) in
    back o ∙ ap (λ (t : List ℕ). drop (b - a) t) e ∙ sym (back l)

-- a text copied over a part of the line
pub copied' : (l t u : List ℕ) (at k : ℕ) → k ≡ length t → at + length t ≤ length l → u ≡ t → Added l at t (put_mid at k l u) (at + length t)
unfolding Added
copied' l t u at k e h f =
    rw (e, f) (refl, take-put_mid at (length t) l t (at + length t) refl (omega arith), drop-put_mid at (length t) l t (at + length t) (omega arith) (omega arith) refl)

pub ruleset laws = (rules, copied')

-- one text behind another
pub join : (l o p : List ℕ) (at a r : ℕ) (t u : List ℕ) → Added l at t o a → Added o a u p r → Added l at (t ++ u) p r
unfolding Added
join l o p at a r t u x y =
    (rw length-append (omega arith), y.1 ∙ rw (x.1, append_assoc), y.2 ∙ behind o l a r (omega (arith, y.0)) x.2)

pub join3 : (l o p q : List ℕ) (at a b r : ℕ) (t u w : List ℕ) → Added l at t o a → Added o a u p b → Added p b w q r → Added l at (t ++ u ++ w) q r
join3 l o p q at a b r t u w x y z = join l p q at b r (t ++ u) w (join l o p at a b t u x y) z
