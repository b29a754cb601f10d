-- Laws of expressions, as the code meets them.
use Rattle.std.specs.Prelude.{Result}
use Prim.Native.Nat.{ℕ, ◌+◌, ◌≤◌, ◌<◌}
use mathlib.Core.Path.{◌≡◌, sym, ◌∙◌}
use mathlib.Core.List.{List}
use mathlib.Core.Bool.{true, false, and-true}
use native.Mathlib.Omega.{arith}
use lib.Dec.{leb}
use lib.ListN.{length, get_or}
use borrow.Author.Rules.{rules}
use borrow.Author.Tests.{lt-ltb, le-ltb, le-leb, ne_eqb}
use Rattle.error.specs.declared.ErrorCode.TheVariants.{SuffixNotAllowed, InvalidExpression}
use Rattle.kind.specs.Class.{is_quote, is_ascii}
use Rattle.util.specs.Run.{run_end, stands_at}
use Rattle.token.specs.{View.view_of, declared.Token.TheVariants.ExpressionProgramData}
use Rattle.item.specs.{Follow.refused, Follow.followed}
use Rattle.enclosed.specs.Expression.{in_expression, bracketed, expression_data}
use Rattle.error.specs.declared.ErrorCode.{ErrorCode}
use Rattle.token.specs.declared.Token.{Token}

module _ (b : ℕ) where
  pub double_quote' : b ≡ 34 → false ≡ in_expression b
  unfolding in_expression is_quote is_ascii
  double_quote' e = rw e

  pub single_quote' : b ≡ 39 → false ≡ in_expression b
  unfolding in_expression is_quote is_ascii
  single_quote' e = rw e

  pub semicolon' : b ≡ 59 → false ≡ in_expression b
  unfolding in_expression is_quote is_ascii
  semicolon' e = rw e

  pub opening' : b ≡ 40 → false ≡ in_expression b
  unfolding in_expression is_quote is_ascii
  opening' e = rw e

  pub closing' : b ≡ 41 → false ≡ in_expression b
  unfolding in_expression is_quote is_ascii
  closing' e = rw e

  pub ascii' : (b ≡ 34 → ⊥) → (b ≡ 39 → ⊥) → (b ≡ 59 → ⊥) → (b ≡ 40 → ⊥) → (b ≡ 41 → ⊥) → leb b 127 ≡ in_expression b
  unfolding in_expression is_quote is_ascii
  ascii' d q c o p = rw (ne_eqb b 34 d, ne_eqb b 39 q, ne_eqb b 59 c, ne_eqb b 40 o, ne_eqb b 41 p) (sym (and-true (leb b 127)))

  pub between' : 42 ≤ b → b ≤ 58 → true ≡ in_expression b
  between' l h = sym (le-leb b 127 (omega arith)) ∙ ascii' (λ e. omega arith) (λ e. omega arith) (λ e. omega arith) (λ e. omega arith) (λ e. omega arith)

module _ (s : List ℕ) (at end : ℕ) (e : end ≡ run_end in_expression s at) where
  pub unclosed' : length s ≤ end → refused InvalidExpression ≡ expression_data s at
  unfolding expression_data bracketed stands_at
  unclosed' h = rw (← e, le-ltb end (length s) h)

  module _ (h : end < length s) where
    pub foreign' : (get_or s end 0 ≡ 41 → ⊥) → refused InvalidExpression ≡ expression_data s at
    unfolding expression_data bracketed stands_at
    foreign' n = rw (← e, lt-ltb end (length s) h, ne_eqb (get_or s end 0) 41 n)

    pub closed' : get_or s end 0 ≡ 41 → (r : Result (Token × ℕ) ErrorCode) → r ≡ followed (ExpressionProgramData (view_of at end)) SuffixNotAllowed s (end + 1) → r ≡ expression_data s at
    unfolding expression_data bracketed stands_at
    closed' f r er = er ∙ rw (← e, lt-ltb end (length s) h, f)

pub ruleset laws = (rules, between', double_quote', single_quote', semicolon', opening', closing', ascii', unclosed', foreign', closed')
