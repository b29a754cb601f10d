-- The kind of a byte: the characters that the token step tells apart.
use Rattle.std.specs.Prelude.{ℕ, cond}
use Rattle.kind.specs.Class.{is, is_white_space, is_capital, is_small, is_digit, is_sign, is_quote, is_ascii}
use Rattle.kind.specs.declared.Kind.{Kind}
use Rattle.kind.specs.declared.Kind.TheVariants as kind

-- Each byte has one kind. Blank is white space but for newline; parenthesis the one that opens; other the rest of ASCII, and beyond no ASCII.
unfoldable pub kind_of : ℕ → Kind
kind_of b =
    cond (is "\n" b) kind.Newline
    (cond (is_white_space b) kind.Blank
    (cond (is "*" b) kind.Star
    (cond (is ":" b) kind.Colon
    (cond (is "?" b) kind.Question
    (cond (is ";" b) kind.Semicolon
    (cond (is "," b) kind.Comma
    (cond (is_sign b) kind.Sign
    (cond (is "." b) kind.Point
    (cond (is "#" b) kind.Hash
    (cond (is_quote b) kind.Quote
    (cond (is "(" b) kind.Parenthesis
    (cond (is "_" b) kind.Underscore
    (cond (is_digit b) kind.Digit
    (cond (is_small b) kind.Small
    (cond (is_capital b) kind.Capital
    (cond (is_ascii b) kind.Other kind.Beyond))))))))))))))))
