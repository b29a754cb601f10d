-- The kinds of the bytes that begin a word.
use Prim.Native.Nat.{ℕ, ◌<◌}
use mathlib.Core.Path.{◌≡◌, refl}
use mathlib.Core.Logic.{◌⊎◌, inl, inr, ⊎_elim}
use mathlib.Core.Bool.{Bool, true, false, not, ◌||◌, false≢true}
use native.Mathlib.Omega.{arith}
use lib.Dec.{leb}
use borrow.Author.Tests.{leb-true}
use Rattle.kind.specs.Class.{is_white_space, is_capital, is_small, is_digit, is_letter, is_sign, is_quote, is_ascii}
use Rattle.kind.specs.Kind.{kind_of}
use Rattle.kind.specs.declared.Kind.{Kind}
use Rattle.kind.specs.declared.Kind.TheVariants as kind
use Rattle.kind.proofs.{Bytes.agrees, Tests.either, Tests.and_right}

-- letters have one of two kinds
abbrev of_word : Kind → Bool
of_word kind.Small = true
of_word kind.Capital = true
of_word k = false

letters_of : ℕ → Bool
letters_of b = not (is_letter b) || of_word (kind_of b)

of_letters : (b : ℕ) → b < 123 → letters_of b ≡ true
unfolding letters_of kind_of is_letter is_white_space is_capital is_small is_digit is_sign is_quote is_ascii
of_letters b h = agrees letters_of (λ _. true) 123 b tt h

letter_below : (b : ℕ) → is_letter b ≡ true → b < 123
unfolding is_letter is_capital is_small
letter_below b e =
    ⊎_elim (λ k. omega (arith, leb-true b 90 (and_right (leb 65 b) (leb b 90) k))) (λ k. omega (arith, leb-true b 122 (and_right (leb 97 b) (leb b 122) k)))
    (either (is_capital b) (is_small b) e)

word_kind : (k : Kind) → of_word k ≡ true → (k ≡ kind.Small) ⊎ (k ≡ kind.Capital)
word_kind kind.Small e = inl refl
word_kind kind.Capital e = inr refl
word_kind k e = absurd (false≢true e)

pub letter_kind : (b : ℕ) → is_letter b ≡ true → (kind_of b ≡ kind.Small) ⊎ (kind_of b ≡ kind.Capital)
unfolding letters_of
letter_kind b e = word_kind (kind_of b) (rw e at (of_letters b (letter_below b e)))
