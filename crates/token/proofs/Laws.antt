-- Laws of the part that a view is, and of the header match, as the code meets them.
use Prim.Native.Nat.{ℕ, ◌-◌, ◌≤◌, ◌<◌}
use mathlib.Core.Path.{◌≡◌, sym, ap, ◌∙◌}
use mathlib.Core.List.{List}
use mathlib.Core.Bool.{Bool}
use lib.ListN.{length, take, drop}
use borrow.Author.Rules.{rules}
use borrow.Author.Tests.{le-leb, lt-leb}
use Rattle.mnemonic.specs.Mnemonic.{matches}
use Rattle.token.specs.{View.part_of, Token.view_in, Token.matches_header, declared.View.View, declared.Token.Token}

module _ (s : List ℕ) (v : View) where
  pub beyond' : length s < v.end → take 0 s ≡ part_of s v
  unfolding part_of
  beyond' h = rw (lt-leb v.end (length s) h)

  module _ (h : v.end ≤ length s) where
    pub backward' : v.end < v.start → take 0 s ≡ part_of s v
    unfolding part_of
    backward' k = rw (le-leb v.end (length s) h, lt-leb v.start v.end k)

    pub fitting' : v.start ≤ v.end → take (v.end - v.start) (drop v.start s) ≡ part_of s v
    unfolding part_of
    fitting' k = rw (le-leb v.end (length s) h, le-leb v.start v.end k)

-- told by the case that the token is
by_case : {A : Type 0} (f : Token → A) (r : A) (t u : Token) → t ≡ u → r ≡ f u → r ≡ f t
by_case f r t u e h = h ∙ sym (ap f e)

pub told' : (mnemonic s : List ℕ) (r : Bool) (t u : Token) → t ≡ u → r ≡ matches_header mnemonic s u → r ≡ matches_header mnemonic s t
told' mnemonic s = by_case (matches_header mnemonic s)

pub shown' : (r : View) (t u : Token) → t ≡ u → r ≡ view_in u → r ≡ view_in t
shown' = by_case view_in

pub spelled' : (mnemonic s w : List ℕ) (v : View) (r : Bool) → w ≡ part_of s v → r ≡ matches mnemonic w → r ≡ matches mnemonic (part_of s v)
spelled' mnemonic s w v r e h = rw (← e) h

pub ruleset laws = (rules, beyond', backward', fitting', told', shown', spelled')
