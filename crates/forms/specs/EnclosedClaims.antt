-- What is proved of these definitions, besides the promises of the functions: a string or expression that is accepted has the form
-- of the grammar, and what has the form is accepted, with exactly that view. The proofs are in proofs/EnclosedClaims.
use Rattle.std.specs.Prelude.{ℕ, ◌+◌, ◌≡◌, List, ◌∷◌, ◌++◌, true, length, drop}
use Prim.Native.Char.{code}
use Rattle.kind.specs.Class.{is_quote}
use Rattle.util.specs.Run.{every}
use Rattle.token.specs.View.{view_of}
use Rattle.token.specs.declared.View.{View}
use Rattle.token.specs.declared.Token.TheVariants.{StringProgramData, ExpressionProgramData}
use Rattle.item.specs.Follow.{token}
use Rattle.forms.specs.ItemForm.{Follows, Ended}
use Rattle.enclosed.specs.String.{string_data}
use Rattle.enclosed.specs.Expression.{in_expression, expression_data}
use Rattle.forms.specs.EnclosedForm.{StringBody, StringForm, ExpressionForm}

pub record Claims : Type 0 where
  -- a string that was accepted begins at the place and has the form, and is followed as an item is
  pub string_form : (q : ℕ) (s : List ℕ) (at : ℕ) (v : View) (next : ℕ) → string_data q s at ≡ token (StringProgramData v) next
      → (v.start ≡ at) × StringForm q s v × Ended s (v.end + 1) next
  -- a string's body, its quote, and what may follow it, is accepted with that view
  pub string_read : (q : ℕ) (s : List ℕ) (at : ℕ) (t after : List ℕ) → is_quote q ≡ true → drop at s ≡ t ++ q ∷ after → StringBody q t → (f : Follows after)
      → string_data q s at ≡ token (StringProgramData (view_of at (at + length t))) (at + length t + 1 + length f.white)
  -- an expression that was accepted begins at the place and has the form, and is followed as an item is
  pub expression_form : (s : List ℕ) (at : ℕ) (v : View) (next : ℕ) → expression_data s at ≡ token (ExpressionProgramData v) next
      → (v.start ≡ at) × ExpressionForm s v × Ended s (v.end + 1) next
  -- an expression's body, its bracket, and what may follow it, is accepted with that view
  pub expression_read : (s : List ℕ) (at : ℕ) (t after : List ℕ) → drop at s ≡ t ++ code ")" ∷ after → every in_expression t ≡ true → (f : Follows after)
      → expression_data s at ≡ token (ExpressionProgramData (view_of at (at + length t))) (at + length t + 1 + length f.white)
