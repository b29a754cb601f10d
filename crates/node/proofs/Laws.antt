-- Laws of the fields of a node, as the code meets them.
use Prim.Native.Nat.{ℕ, ◌+◌, ◌-◌, ◌≤◌, ◌<◌}
use mathlib.Core.Path.{◌≡◌, sym}
use mathlib.Core.List.{List}
use mathlib.Core.Bool.{false}
use native.Mathlib.Omega.{arith}
use lib.ListN.{length, take, drop, get_or, get_or-eq_default}
use mir.Syntax.{w64}
use mir.Val.{Fits}
use borrow.Author.Rules.{rules}
use borrow.Author.Tests.{le-leb, lt-leb}
use Rattle.node.specs.Word.{is_branch, name_length, name_start, first_child, child_count, name_in, initial_in}
use Rattle.node.specs.Tree.{branch}

-- fields are small

pub name_ends : (w : ℕ) → name_start w + name_length w < 65552
unfolding name_start name_length
name_ends w = omega arith

pub block_ends : (w : ℕ) → first_child w + child_count w < 131072
unfolding first_child child_count
block_ends w = omega arith

pub block_fits' : (w f c : ℕ) → f ≡ first_child w → c ≡ child_count w → Fits w64 (f + c)
block_fits' w f c p q = record { fits = omega (arith, block_ends w) }

-- there is no branch past the end of the table
pub past_table : (t : List ℕ) (b : ℕ) → length t ≤ b → branch t b ≡ false
unfolding is_branch
past_table t b h = rw (get_or-eq_default t 0 h)

module _ (w a b : ℕ) (e : a ≡ name_start w) (f : b ≡ name_length w) where
  pub end_fits' : Fits w64 (a + b)
  end_fits' = record { fits = omega (arith, name_ends w) }

  pub outside' : (names : List ℕ) → length names < a + b → take 0 names ≡ name_in names w
  unfolding name_in
  outside' names h = rw (← e, ← f, lt-leb (a + b) (length names) h)

  pub inside' : (names : List ℕ) → a + b ≤ length names → take (a + b - a) (drop a names) ≡ name_in names w
  unfolding name_in
  inside' names h =
      let k : a + b - a ≡ b = omega arith in
      rw (← e, ← f, le-leb (a + b) (length names) h, k)

-- the first byte of a name

module _ (names : List ℕ) (w a : ℕ) (e : a ≡ name_start w) where
  pub initial_in' : get_or names a 0 ≡ initial_in names w
  unfolding initial_in
  initial_in' = rw (← e)

  pub initial_out' : length names ≤ a → 0 ≡ initial_in names w
  unfolding initial_in
  initial_out' h = rw (← e) (sym (get_or-eq_default names 0 h))

pub ruleset laws = (rules, end_fits', outside', inside', initial_in', initial_out')
