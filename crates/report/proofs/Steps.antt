-- What is said of a step.
use Prim.Native.Nat.{ℕ}
use mathlib.Core.Path.{◌≡◌}
use mathlib.Core.List.{List, ◌++◌}
use lib.IntN.{ℤ}
use borrow.Author.Rules.{rules}
use mir.Syntax.{w32}
use mir.Val.{SFits, to_z, of_z}
use mir.ValLaws.{to_z-of_z}
use Rattle.error.specs.{Code.code_of, declared.ErrorCode.ErrorCode}
use Rattle.kind.specs.Text.{ascii}
use Rattle.token.specs.declared.Token.{Token}
use Rattle.tokenizer.specs.{declared.State.State}
use Rattle.report.specs.{Added.Added, Number.signed}
use Rattle.report.specs.Tokens.{token_text, place_text, flags_text, taken_text, end_text, refused_text}
use Rattle.report.proofs.Adds.{join, join3}

module _ (l o p q : List ℕ) (a b r : ℕ) where
  pub taken' : (z : List ℕ) (d : ℕ) (t : Token) (s : State) → Added l 0 (token_text t) o a → Added o a (place_text s.place) p b
      → Added p b (flags_text s.in_header s.in_common) q d → Added q d (ascii " | ") z r → Added l 0 (taken_text t s) z r
  unfolding taken_text
  taken' z d t s x y f e =
      join l q z 0 d r (token_text t ++ place_text s.place ++ flags_text s.in_header s.in_common) (ascii " | ")
      (join3 l o p q 0 a b d (token_text t) (place_text s.place) (flags_text s.in_header s.in_common) x y f) e

  pub end' : (n : ℕ) → Added l 0 (ascii "end") o a → Added o a (place_text n) p b → Added p b (ascii "\n") q r → Added l 0 (end_text n) q r
  unfolding end_text
  end' n = join3 l o p q 0 a b r (ascii "end") (place_text n) (ascii "\n")

  pub refused' : (n : ℤ) (e : ErrorCode) → n ≡ code_of e → SFits w32 n → Added l 0 (ascii "refused ") o a → Added o a (signed (to_z w32 (of_z w32 n))) p b
      → Added p b (ascii "\n") q r → Added l 0 (refused_text e) q r
  unfolding refused_text
  refused' n e k f x y z =
      rw k at (join3 l o p q 0 a b r (ascii "refused ") (signed n) (ascii "\n") x (rw (to_z-of_z w32 n f) at y) z)

pub ruleset laws = (rules, taken', end', refused')
