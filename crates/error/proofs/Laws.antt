-- The number of a refusal, told from its case.
use mathlib.Core.Path.{◌≡◌, sym, ap, ◌∙◌}
use lib.IntN.{ℤ}
use borrow.Author.Rules.{rules}
use Rattle.error.specs.{Code.code_of, declared.ErrorCode.ErrorCode}

pub told' : (n : ℤ) (e v : ErrorCode) → e ≡ v → n ≡ code_of v → n ≡ code_of e
told' n e v p q = q ∙ sym (ap code_of p)

pub ruleset laws = (rules, told')
