-- Laws of the word of a record, as the code meets them.
use Prim.Native.Nat.{ℕ, ◌+◌, ◌*◌, ◌/◌, ◌%◌, ◌^◌, ◌<◌}
use mathlib.Core.Path.{◌≡◌, refl}
use mathlib.Core.Bool.{true, false}
use native.Mathlib.Omega.{arith}
use lib.Dec.{eqb}
use borrow.Author.Rules.{rules}
use Rattle.record.specs.{Word.word_of, Word.record_in, declared.Record.Record}

module _ (u : Record) (h : u.command < 65536) where
  pub event' : u.query ≡ false → u.command * 2 ^ 48 % 2 ^ 64 + u.branch % 65536 * 2 ^ 31 % 2 ^ 64 + u.items % 65536 * 2 ^ 15 % 2 ^ 64 ≡ word_of u
  unfolding word_of
  event' e = rw e (omega arith)

  pub query' : u.query ≡ true → u.command * 2 ^ 48 % 2 ^ 64 + u.branch % 65536 * 2 ^ 31 % 2 ^ 64 + u.items % 65536 * 2 ^ 15 % 2 ^ 64 + 2 ^ 47 ≡ word_of u
  unfolding word_of
  query' e = rw e (omega arith)

pub ruleset word_laws = (rules, event', query')

pub unpack' : (w : ℕ) → record { command = w / 2 ^ 48 % 65536; query = eqb (w / 2 ^ 47 % 2) 1; branch = w / 2 ^ 31 % 65536; items = w / 2 ^ 15 % 65536 } ≡ record_in w
unfolding record_in
unpack' w = refl

pub ruleset record_laws = (rules, unpack')
