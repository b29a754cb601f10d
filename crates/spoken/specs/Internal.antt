-- What the private functions promise and rest on. No promise of a public function rests on this.
use Rattle.std.specs.Prelude.{ℕ, suc, ◌+◌, ◌-◌, ◌%◌, ◌≤◌, ◌<◌, ◌≡◌, List, [], ◌∷◌, ◌++◌, Bool, true, false, cond, not, ◌&&◌, ◌||◌, eqb, leb, length, get_or, drop, Option, Some, None}
use Prim.Native.Char.{code}
use Rattle.kind.specs.Class.{is_capital, is_small, is_digit, is_letter, in_mnemonic}
use Rattle.util.specs.Run.{every, stands_at}
use Rattle.mnemonic.specs.Mnemonic.{either_case, alike, not_small}

-- c is a letter of the case, and d the same letter in either case
unfoldable pub agrees : Bool → ℕ → ℕ → Bool
agrees small c d = cond small (is_small c) (is_capital c) && either_case c d

-- a name and a mnemonic that begin so begin with the same capital, in either case, or with a star
unfoldable pub begin_alike : ℕ → ℕ → Bool
begin_alike c d = agrees false c d || (eqb c (code "*") && eqb d (code "*"))

-- for how many characters from their fronts two texts have the relation r
unfoldable pub common : (ℕ → ℕ → Bool) → List ℕ → List ℕ → ℕ
common r [] y = 0
common r (c ∷ x) [] = 0
common r (c ∷ x) (d ∷ y) = cond (r c d) (suc (common r x y)) 0

-- a mnemonic goes on at the place
unfoldable pub goes_on_at : List ℕ → ℕ → Bool
goes_on_at s at = cond (leb (length s) at) false (in_mnemonic (get_or s at 0))

-- the name ends at the place, or has another character there than the letter b
unfoldable pub departs_at : List ℕ → ℕ → ℕ → Bool
departs_at x i b = cond (leb (length x) i) true (not (eqb (get_or x i 0 % 32) (b % 32)))

-- a mnemonic that begins at `at` and has come to the place ends after a `1` there, with 12 characters at most
unfoldable pub one_added : List ℕ → ℕ → ℕ → Option ℕ
one_added s at place =
    cond (stands_at (code "1") s place && (not (goes_on_at s (place + 1)) && leb (place - at) 11)) (Some (place + 1)) None

-- a letter or a star, and then letters
unfoldable pub opens : List ℕ → Bool
opens [] = false
opens (c ∷ u) = (is_letter c || eqb c (code "*")) && every is_letter u

-- Form said left rest: of a name, `said` was spoken and `left` left out, and `rest` follows. The short form has only capitals and leaves all
-- small letters out; the long one has a small letter and leaves none out.
pub data Form (said left rest : List ℕ) : Type 0 where
  short_form : every not_small said ≡ true → every is_small left ≡ true → is_small (get_or rest 0 0) ≡ false → Form said left rest
  long_form : every not_small said ≡ false → left ≡ [] → Form said left rest

-- The mnemonic at `at` has no more letters at `place`, and up to there it has the letters of a form of the name x up to `from`.
pub record Reached (x s : List ℕ) (at from place : ℕ) : Type 0 where
  pub said : List ℕ
  pub left : List ℕ
  pub letters : List ℕ
  pub name : x ≡ (said ++ left) ++ drop from x
  pub text : drop at s ≡ letters ++ drop place s
  pub place_is : place ≡ at + length letters
  pub same : alike said letters ≡ true
  pub said_opens : opens said ≡ true
  pub letters_open : opens letters ≡ true
  pub form : Form said left (drop from x)
  pub no_letter : is_letter (get_or s place 0) ≡ false
  pub size : length x ≤ 12

-- And from there on the name up to `i` and the text up to `next` have the same digits.
pub record Counted (x s : List ℕ) (at from i next : ℕ) : Type 0 where
  pub place : ℕ
  pub digits : List ℕ
  pub reached : Reached x s at from place
  pub name : drop from x ≡ digits ++ drop i x
  pub text : drop place s ≡ digits ++ drop next s
  pub all_digits : every is_digit digits ≡ true
  pub index_is : i ≡ from + length digits
  pub next_is : next ≡ place + length digits

-- And the name has a digit at `i` that is not at `next`.
pub record Missing (x s : List ℕ) (at from i next : ℕ) : Type 0 where
  pub counted : Counted x s at from i next
  pub inside : i < length x
  pub digit : is_digit (get_or x i 0) ≡ true
  pub absent : stands_at (get_or x i 0) s next ≡ false
