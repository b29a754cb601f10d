-- The parts of a token's text, one behind the other.
use Prim.Native.Nat.{ℕ}
use mathlib.Core.Path.{◌≡◌, subst⁻¹}
use mathlib.Core.List.{List, ◌++◌, append_assoc}
use mathlib.Core.Bool.{Bool, true, false}
use borrow.Author.Rules.{rules}
use Rattle.kind.specs.Text.{ascii}
use Rattle.token.specs.{declared.View.View}
use Rattle.token.specs.declared.Token.TheVariants.{DecimalNumericSuffixProgramData, NonDecimalNumericProgramData}
use Rattle.report.specs.{Added.Added, Number.decimal}
use Rattle.report.specs.Tokens.{view_text, token_text, place_text, flags_text}
use Rattle.report.proofs.Adds.{join, join3}

module _ (l o p : List ℕ) (at a r : ℕ) where
  pub item' : (w : List ℕ) (v : View) → Added l at w o a → Added o a (view_text v) p r → Added l at (w ++ view_text v) p r
  item' w v = join l o p at a r w (view_text v)

  pub place' : (n : ℕ) → Added l at (ascii " @") o a → Added o a (decimal n) p r → Added l at (place_text n) p r
  unfolding place_text
  place' n = join l o p at a r (ascii " @") (decimal n)

  pub radix' : (n : ℕ) → Added l at (ascii "radix ") o a → Added o a (decimal n) p r → Added l at (token_text (NonDecimalNumericProgramData n)) p r
  radix' n = join l o p at a r (ascii "radix ") (decimal n)

  pub suffixed' : (v u : View) → Added l at (ascii "suffixed " ++ view_text v) o a → Added o a (ascii " " ++ view_text u) p r
      → Added l at (token_text (DecimalNumericSuffixProgramData v u)) p r
  suffixed' v u x y =
      subst⁻¹ (λ (t : List ℕ). Added l at t p r) (append_assoc (ascii "suffixed " ++ view_text v) (ascii " ") (view_text u))
      (join l o p at a r (ascii "suffixed " ++ view_text v) (ascii " " ++ view_text u) x y)

  pub view' : (q : List ℕ) (b : ℕ) (v : View) → Added l at (decimal v.start) o a → Added o a (ascii "..") p b → Added p b (decimal v.end) q r
      → Added l at (view_text v) q r
  unfolding view_text
  view' q b v = join3 l o p q at a b r (decimal v.start) (ascii "..") (decimal v.end)

module _ (l o : List ℕ) (at r : ℕ) where
  pub data_flags' : (h c : Bool) → h ≡ false → Added l at (ascii " d") o r → Added l at (flags_text h c) o r
  unfolding flags_text
  data_flags' h c e a = rw e a

  pub common_flags' : (h c : Bool) → h ≡ true → c ≡ true → Added l at (ascii " hc") o r → Added l at (flags_text h c) o r
  unfolding flags_text
  common_flags' h c e q a = rw (e, q) a

  pub header_flags' : (h c : Bool) → h ≡ true → c ≡ false → Added l at (ascii " h") o r → Added l at (flags_text h c) o r
  unfolding flags_text
  header_flags' h c e q a = rw (e, q) a

pub ruleset laws = (rules, item', place', radix', suffixed', view', data_flags', common_flags', header_flags')
