-- Expression program data, IEEE 488.2 7.7.7.
use Rattle.std.specs.Prelude.{ℕ, ◌+◌, List, Bool, cond, not, ◌&&◌, ◌||◌, Result}
use Prim.Native.Char.{code}
use Rattle.error.specs.declared.ErrorCode.TheVariants.{SuffixNotAllowed, InvalidExpression}
use Rattle.kind.specs.Class.{is, is_quote, is_ascii}
use Rattle.util.specs.Run.{run_end, stands_at}
use Rattle.token.specs.View.{view_of}
use Rattle.token.specs.declared.Token.TheVariants.{ExpressionProgramData}
use Rattle.item.specs.Follow.{refused, followed}
use Rattle.error.specs.declared.ErrorCode.{ErrorCode}
use Rattle.token.specs.declared.Token.{Token}

-- IEEE 488.2 7.7.7.2: ASCII but quotes, `;` and brackets; the standard keeps `#` and control bytes out too (docs/DIFFERENCES.md)
unfoldable pub in_expression : ℕ → Bool
in_expression b = is_ascii b && not (is_quote b || (is ";" b || (is "(" b || is ")" b)))

-- an expression that began at a place and ends before a bracket
unfoldable pub bracketed : List ℕ → ℕ → ℕ → Result (Token × ℕ) ErrorCode
bracketed s at end =
    cond (stands_at (code ")") s end)
    (followed (ExpressionProgramData (view_of at end)) SuffixNotAllowed s (end + 1))
    (refused InvalidExpression)

-- IEEE 488.2 7.7.7.2: an expression, from the place behind its opening bracket
unfoldable pub expression_data : List ℕ → ℕ → Result (Token × ℕ) ErrorCode
expression_data s at = bracketed s at (run_end in_expression s at)
