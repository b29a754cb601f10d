-- Laws of a unit, as the code meets them.
use Rattle.std.specs.Prelude.{Result, Ok, Err}
use Prim.Native.Nat.{ℕ}
use mathlib.Core.Path.{◌≡◌}
use mathlib.Core.List.{List}
use mathlib.Core.Bool.{Bool, false}
use borrow.Author.Rules.{rules}
use Rattle.error.specs.declared.ErrorCode.{ErrorCode}
use Rattle.tokenizer.specs.Step.{state_of}
use Rattle.header.specs.{Header.Begins}
use Rattle.ahead.specs.{declared.Seen.Seen, declared.Stop.Stop}
use Rattle.items.specs.{Items.Items}
use Rattle.unit.specs.Unit.{Behind, separated, at_unit, at_end, record_of, Reads, no_command, no_data, whole}
use Rattle.items.specs.declared.Data.{Data}
use Rattle.header.specs.declared.Header.{Header}

module _ (s : List ℕ) (x : Stop) (p : ℕ) where
  pub separated' : x ≡ Stop.Separator → (r : Result Data ErrorCode) → Items s (state_of p false false) r → Behind s x p r
  separated' e r i = rw e (separated i)

  pub at_unit' : x ≡ Stop.Unit → Behind s x p (Ok (record { count = 0; place = p }))
  at_unit' e = rw e at_unit

  pub at_end' : x ≡ Stop.Text → Behind s x p (Ok (record { count = 0; place = p }))
  at_end' e = rw e at_end

pub ruleset behind_laws = (rules, separated', at_unit', at_end')

module _ (t names s : List ℕ) (b : ℕ) (seen : Seen) (h : Result Header ErrorCode) (g : Begins t names s b seen h) where
  pub no_command' : (e : ErrorCode) → h ≡ Err e → Reads t names s b seen (Err e)
  no_command' e p = no_command (rw p at g)

  module _ (c : ℕ) (query : Bool) (kept : ℕ) (x : Stop) (place : ℕ) (p : h ≡ Ok (record { command = c; query = query; branch = kept; stop = x; place = place })) (d : Result Data ErrorCode) (k : Behind s x place d) where
    pub no_data' : (e : ErrorCode) → d ≡ Err e → Reads t names s b seen (Err e)
    no_data' e q = no_data (rw p at g) (rw q at k)

    pub whole' : (n next : ℕ) → d ≡ Ok (record { count = n; place = next }) → Reads t names s b seen (Ok (record_of c query kept n, next))
    whole' n next q = whole (rw p at g) (rw q at k)

pub ruleset unit_laws = (rules, no_command', no_data', whole')
