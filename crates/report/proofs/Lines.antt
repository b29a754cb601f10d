-- The lines of the message walk, part by part.
use Prim.Native.Nat.{ℕ}
use mathlib.Core.Path.{◌≡◌}
use mathlib.Core.List.{List, ◌++◌}
use mathlib.Core.Bool.{Bool, true, false}
use lib.IntN.{ℤ}
use borrow.Author.Rules.{rules}
use mir.Syntax.{w32}
use mir.Val.{SFits, to_z, of_z}
use mir.ValLaws.{to_z-of_z}
use Rattle.error.specs.{Code.code_of, declared.ErrorCode.ErrorCode}
use Rattle.kind.specs.Text.{ascii}
use Rattle.record.specs.declared.Record.{Record}
use Rattle.report.specs.{Added.Added, Number.decimal, Number.signed}
use Rattle.report.specs.Units.{pair_text, form_text, unit_text, stop_text, total_text}
use Rattle.report.proofs.Adds.{join, join3}

module _ (l o p q : List ℕ) (at a b r : ℕ) where
  pub pair' : (n m : ℕ) → Added l at (decimal n) o a → Added o a (ascii " ") p b → Added p b (decimal m) q r → Added l at (pair_text n m) q r
  unfolding pair_text
  pair' n m = join3 l o p q at a b r (decimal n) (ascii " ") (decimal m)

module _ (l o : List ℕ) (at r : ℕ) (query : Bool) where
  pub query' : query ≡ true → Added l at (ascii " query ") o r → Added l at (form_text query) o r
  unfolding form_text
  query' e a = rw e a

  pub event' : query ≡ false → Added l at (ascii " event ") o r → Added l at (form_text query) o r
  unfolding form_text
  event' e a = rw e a

pub ruleset parts = (rules, pair', query', event')

-- whole lines
module _ (l o p q z : List ℕ) (a b c r : ℕ) where
  pub unit' : (n : ℕ) (u : Record) → Added l 0 (pair_text n u.command) o a → Added o a (form_text u.query) p b
      → Added p b (pair_text u.items u.branch) q c → Added q c (ascii "\n") z r → Added l 0 (unit_text n u) z r
  unfolding unit_text
  unit' n u x y v w =
      join l q z 0 c r (pair_text n u.command ++ form_text u.query ++ pair_text u.items u.branch) (ascii "\n")
      (join3 l o p q 0 a b c (pair_text n u.command) (form_text u.query) (pair_text u.items u.branch) x y v) w

  pub stop' : (n : ℕ) (m : ℤ) (e : ErrorCode) → m ≡ code_of e → SFits w32 m → Added l 0 (decimal n) o a → Added o a (ascii " refused ") p b
      → Added p b (signed (to_z w32 (of_z w32 m))) q c → Added q c (ascii "\n") z r → Added l 0 (stop_text n e) z r
  unfolding stop_text
  stop' n m e k f x y v w =
      rw k at (join l q z 0 c r (decimal n ++ ascii " refused " ++ signed m) (ascii "\n")
      (join3 l o p q 0 a b c (decimal n) (ascii " refused ") (signed m) x y (rw (to_z-of_z w32 m f) at v)) w)

pub total' : (l o p q : List ℕ) (a b r n : ℕ) → Added l 0 (ascii "end ") o a → Added o a (decimal n) p b → Added p b (ascii "\n") q r
    → Added l 0 (total_text n) q r
unfolding total_text
total' l o p q a b r n = join3 l o p q 0 a b r (ascii "end ") (decimal n) (ascii "\n")

pub ruleset lines = (rules, unit', stop', total')
