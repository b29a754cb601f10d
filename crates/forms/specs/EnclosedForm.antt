-- The grammar of strings, IEEE 488.2 7.7.5, and of expressions, 7.7.7: what a text must be made of to be one.
use Rattle.std.specs.Prelude.{ℕ, ◌≤◌, ◌≡◌, List, [], ◌∷◌, true, false, eqb}
use Prim.Native.Char.{code}
use Rattle.kind.specs.Class.{is_ascii}
use Rattle.util.specs.Run.{every, stands_at}
use Rattle.token.specs.View.{part_of}
use Rattle.token.specs.declared.View.{View}
use Rattle.enclosed.specs.Expression.{in_expression}

-- IEEE 488.2 7.7.5.2: what stands between the quotes q of a string: ASCII other than q, and q twice.
pub data StringBody (q : ℕ) : List ℕ → Type 0 where
  empty : StringBody q []
  plain : (b : ℕ) (t : List ℕ) → eqb b q ≡ false → is_ascii b ≡ true → StringBody q t → StringBody q (b ∷ t)
  doubled : (t : List ℕ) → StringBody q t → StringBody q (q ∷ q ∷ t)

-- A string's view, and the quote behind it.
pub record StringForm (q : ℕ) (s : List ℕ) (v : View) : Type 0 where
  pub forward : v.start ≤ v.end
  pub body : StringBody q (part_of s v)
  pub closing : stands_at q s v.end ≡ true

-- IEEE 488.2 7.7.7.2: an expression's view, and the bracket behind it.
pub record ExpressionForm (s : List ℕ) (v : View) : Type 0 where
  pub forward : v.start ≤ v.end
  pub body : every in_expression (part_of s v) ≡ true
  pub closing : stands_at (code ")") s v.end ≡ true
