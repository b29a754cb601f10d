-- What stands at a place of a text, told from what the text is made of from there on.
use Prim.Native.Nat.{ℕ, suc, ◌+◌, ◌-◌, ◌<◌}
use mathlib.Core.Path.{◌≡◌, refl, sym, ap, ◌∙◌}
use mathlib.Core.List.{List, [], ◌∷◌, ◌++◌}
use mathlib.Core.Bool.{Bool, true, false, ◌||◌}
use mathlib.Core.Logic.{⊎_elim}
use native.Mathlib.Omega.{arith}
use native.Mathlib.Nat.{add-zero}
use lib.Dec.{eqb}
use lib.ListN.{length, get_or, drop, length-drop}
use lib.Seq.{drop-append_seam, drop-drop, get_or-drop}
use borrow.Author.Tests.{eq-eqb, eqb-true, le-leb, lt-leb, lt-ltb}
use Rattle.error.specs.declared.ErrorCode.{ErrorCode}
use Rattle.kind.specs.Class.{is_white_space}
use Rattle.kind.proofs.Tests.{either, and_left}
use Rattle.util.specs.Run.{run, run_end, every, stands_at}
use Rattle.util.proofs.Every.{run_whole}
use Rattle.token.specs.declared.Token.{Token}
use Rattle.item.specs.Follow.{token, ends_data, followed}
use Rattle.forms.specs.ItemForm.{Follows}

-- no character of the class p begins the text
pub none_first : (p : ℕ → Bool) (y : List ℕ) → p (get_or y 0 0) ≡ false → run p y ≡ 0
unfolding run
none_first p [] e = refl
none_first p (b ∷ y) e = rw e

module _ (s : List ℕ) (i : ℕ) where
  pub here_get : (y : List ℕ) → drop i s ≡ y → get_or s i 0 ≡ get_or y 0 0
  here_get y h = rw (← h, get_or-drop i s 0 0, add-zero i)

  pub here_inside : (b : ℕ) (y : List ℕ) → drop i s ≡ b ∷ y → i < length s
  here_inside b y h = omega (arith, sym (length-drop i s) ∙ ap length h)

  pub here_stands : (b : ℕ) (y : List ℕ) → drop i s ≡ b ∷ y → stands_at b s i ≡ true
  unfolding stands_at
  here_stands b y h = rw (lt-ltb i (length s) (here_inside b y h), here_get (b ∷ y) h, eq-eqb b b refl)

  module _ (x y : List ℕ) (h : drop i s ≡ x ++ y) where
    pub here_next : drop (i + length x) s ≡ y
    here_next = rw (← drop-drop (length x) i s, h) (drop-append_seam x y)

    pub here_run : (p : ℕ → Bool) → every p x ≡ true → p (get_or y 0 0) ≡ false → run_end p s i ≡ i + length x
    unfolding run_end
    here_run p a e = ap (λ (n : ℕ). i + n) (rw h (run_whole p x y a (none_first p y e)))

  pub here_length : (y : List ℕ) → drop i s ≡ y → length s - i ≡ length y
  here_length y h = sym (length-drop i s) ∙ ap length h

-- white space is one of five bytes
pub white_none : (p : ℕ → Bool) → p 9 ≡ false → p 10 ≡ false → p 12 ≡ false → p 13 ≡ false → p 32 ≡ false → (b : ℕ) → is_white_space b ≡ true → p b ≡ false
unfolding is_white_space
white_none p t n f r w b e =
    ⊎_elim (λ k. at_byte 9 t k) (λ e₁.
    ⊎_elim (λ k. at_byte 10 n k) (λ e₂.
    ⊎_elim (λ k. at_byte 12 f k) (λ e₃.
    ⊎_elim (λ k. at_byte 13 r k) (λ k. at_byte 32 w k) (either (eqb b 13) (eqb b 32) e₃))
    (either (eqb b 12) (eqb b 13 || eqb b 32) e₂)) (either (eqb b 10) (eqb b 12 || (eqb b 13 || eqb b 32)) e₁))
    (either (eqb b 9) (eqb b 10 || (eqb b 12 || (eqb b 13 || eqb b 32))) e)
  where
    at_byte : (c : ℕ) → p c ≡ false → eqb b c ≡ true → p b ≡ false
    at_byte c q k = rw (eqb-true b c k) q

end_byte : (b : ℕ) (y : List ℕ) → ends_data (b ∷ y) 0 ≡ true → (eqb b 44 || eqb b 59) ≡ true
unfolding ends_data
end_byte b y e = rw (lt-leb (suc (length y)) 0 (omega arith)) at e

-- an item ends before nothing, `,` or `;`
pub end_none : (p : ℕ → Bool) → p 0 ≡ false → p 44 ≡ false → p 59 ≡ false → (y : List ℕ) → ends_data y 0 ≡ true → p (get_or y 0 0) ≡ false
end_none p z c u [] e = z
end_none p z c u (b ∷ y) e =
    ⊎_elim (λ k. rw (eqb-true b 44 k) c) (λ k. rw (eqb-true b 59 k) u) (either (eqb b 44) (eqb b 59) (end_byte b y e))

pub ends_here : (s : List ℕ) (i : ℕ) (y : List ℕ) → drop i s ≡ y → ends_data y 0 ≡ true → ends_data s i ≡ true
unfolding ends_data
ends_here s i [] h e = rw (le-leb (length s) i (omega (arith, here_length s i [] h)))
ends_here s i (b ∷ y) h e = rw (lt-leb (length s) i (here_inside s i b y h), here_get s i (b ∷ y) h) (end_byte b y e)

-- what begins the text behind an item is of no class but these
pub after_none : (p : ℕ → Bool) → ((b : ℕ) → is_white_space b ≡ true → p b ≡ false) → p 0 ≡ false → p 44 ≡ false → p 59 ≡ false
    → (y : List ℕ) → Follows y → p (get_or y 0 0) ≡ false
unfolding every
after_none p w z c u y f = rw f.parts (go f.white f.all_white)
  where
    go : (x : List ℕ) → every is_white_space x ≡ true → p (get_or (x ++ f.rest) 0 0) ≡ false
    go [] a = end_none p z c u f.rest f.ends
    go (b ∷ x) a = w b (and_left (is_white_space b) (every is_white_space x) a)

-- an item that ends at a place, and what may follow it there
module _ (t : Token) (e : ErrorCode) (s : List ℕ) (end : ℕ) (y : List ℕ) (h : drop end s ≡ y) (f : Follows y) where
  pub white_run : run_end is_white_space s end ≡ end + length f.white
  unfolding is_white_space
  white_run = here_run s end f.white f.rest (h ∙ f.parts) is_white_space f.all_white (end_none is_white_space refl refl refl f.rest f.ends)

  pub well_followed : followed t e s end ≡ token t (end + length f.white)
  unfolding followed
  well_followed =
      rw (white_run, ends_here s (end + length f.white) f.rest (here_next s end f.white f.rest (h ∙ f.parts)) f.ends)
