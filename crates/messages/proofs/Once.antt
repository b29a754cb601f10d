-- One answer only: a message has its units and its ending, and a walk over it one outcome.
use Rattle.std.specs.Prelude.{Result, Ok, Err}
use Prim.Native.Nat.{ℕ}
use mathlib.Core.Path.{◌≡◌, refl, sym, ap, subst, ◌∙◌}
use mathlib.Core.List.{List, ◌∷◌}
use native.Mathlib.Omega.{arith}
use Rattle.error.specs.declared.ErrorCode.{ErrorCode}
use Rattle.kind.proofs.Tests.{clash}
use Rattle.table.specs.{Fault.Accepted, Fault.accepts}
use Rattle.table.proofs.Told.{no_fault}
use Rattle.routes.proofs.TableClaims as tables
use Rattle.units.proofs.UnitClaims as units
use Rattle.record.specs.declared.Record.{Record}
use Rattle.message.specs.Message.{Ending, Units, none, stopped, next, Message, no_branch, too_long, text, CheckedMessage, fault, sound, Outcome, recorded, Walks}
use Rattle.message.specs.declared.Stopped.{Stopped}

-- units and an ending
pub record Parts : Type 0 where
  pub units : List Record
  pub ending : Ending

abbrev pub parts : List Record → Ending → Parts
parts us e = record { units = us; ending = e }

no_read : {A : Type 0} {e : ErrorCode} {u : Record} {p : ℕ} → ◌≡◌ {A = Result (Record × ℕ) ErrorCode} (Err e) (Ok (u, p)) → A
no_read q = let z : ◌≡◌ {A = ℕ} 0 1 = cc in absurd (omega arith)

pub one_units : {t names s : List ℕ} {b p : ℕ} {us vs : List Record} {e f : Ending} → Units t names s b p us e → Units t names s b p vs f
    → parts us e ≡ parts vs f
one_units (none x) (none y) = refl
one_units (none x) (stopped y q) = clash x y
one_units (none x) (next y q k) = clash x y
one_units (stopped x p) (none y) = clash y x
one_units (stopped x p) (stopped y q) = cc ((units.claims).one_answer _ _ _ _ _ _ _ p q)
one_units (stopped x p) (next y q k) = no_read ((units.claims).one_answer _ _ _ _ _ _ _ p q)
one_units (next x p h) (none y) = clash y x
one_units (next x p h) (stopped y q) = no_read ((units.claims).one_answer _ _ _ _ _ _ _ q p)
one_units {t} {names} {s} {f = f} (next {u = u} {after = p} x o h) (next {u = v} {after = q} {us = ws} y o' k) =
    let same : ◌≡◌ {A = Result (Record × ℕ) ErrorCode} (Ok (u, p)) (Ok (v, q)) = (units.claims).one_answer _ _ _ _ _ _ _ o o' in
    let both : ◌≡◌ {A = Record × ℕ} (u, p) (v, q) = cc in
    let i : u ≡ v = ap (λ (z : Record × ℕ). z.0) both in
    let j : p ≡ q = ap (λ (z : Record × ℕ). z.1) both in
    rw i (ap (λ (z : Parts). parts (v ∷ z.units) z.ending) (one_units h (subst (λ (w : Record). Units t names s w.branch p ws f) (sym i) (rw (← j) at k))))

-- one message, and so one outcome
one_outcome : {M N : List Record → Ending → Type 0} → ((us vs : List Record) (e f : Ending) → M us e → N vs f → parts us e ≡ parts vs f)
    → (slots : List ℕ) (r q : Result ℕ Stopped) (after later : List ℕ) → Walks M slots r after → Walks N slots q later → (r ≡ q) × (after ≡ later)
one_outcome one slots r q after later x y =
    let same = x.outcome ∙ ap (λ (z : Parts). recorded slots z.units z.ending) (one _ _ _ _ x.reads y.reads) ∙ sym y.outcome in
    (ap (λ (z : Outcome). z.says) same, ap (λ (z : Outcome). z.slots) same)

module _ {t names : List ℕ} {b : ℕ} {s : List ℕ} where
  pub one_parts : (us vs : List Record) (e f : Ending) → Message t names b s us e → Message t names b s vs f → parts us e ≡ parts vs f
  one_parts us vs e f (no_branch l) (no_branch m) = refl
  one_parts us vs e f (no_branch l) (too_long m h) = clash m l
  one_parts us vs e f (no_branch l) (text m h x) = clash m l
  one_parts us vs e f (too_long l h) (no_branch m) = clash l m
  one_parts us vs e f (too_long l h) (too_long m k) = refl
  one_parts us vs e f (too_long l h) (text m k x) = absurd (omega arith)
  one_parts us vs e f (text l h x) (no_branch m) = clash l m
  one_parts us vs e f (text l h x) (too_long m k) = absurd (omega arith)
  one_parts us vs e f (text l h x) (text m k y) = one_units x y

  -- in an accepted table the check says nothing
  past_check : {us : List Record} {e : Ending} → Accepted t names → CheckedMessage t names b s us e → Message t names b s us e
  past_check a (fault v) = no_fault ((tables.claims).one_verdict t names _ _ v (accepts a))
  past_check a (sound _ x) = x

  same_parts : (us vs : List Record) (e f : Ending) → Accepted t names → CheckedMessage t names b s us e → Message t names b s vs f → parts us e ≡ parts vs f
  same_parts us vs e f a x y = one_parts us vs e f (past_check a x) y

  one_checked : (us vs : List Record) (e f : Ending) → CheckedMessage t names b s us e → CheckedMessage t names b s vs f → parts us e ≡ parts vs f
  one_checked us vs e f (fault v) (fault u) = cc ((tables.claims).one_verdict t names _ _ v u)
  one_checked us vs e f (fault v) (sound a y) = same_parts us vs e f a (fault v) y
  one_checked us vs e f (sound a x) y = sym (same_parts vs us f e a y x)

  pub one_walk : (slots : List ℕ) (r q : Result ℕ Stopped) (after later : List ℕ) → Walks (CheckedMessage t names b s) slots r after → Walks (CheckedMessage t names b s) slots q later
      → (r ≡ q) × (after ≡ later)
  one_walk = one_outcome one_checked

  pub one_unchecked : (slots : List ℕ) (r q : Result ℕ Stopped) (after later : List ℕ) → Walks (Message t names b s) slots r after → Walks (Message t names b s) slots q later
      → (r ≡ q) × (after ≡ later)
  one_unchecked = one_outcome one_parts

  pub unchecked : (slots : List ℕ) (r q : Result ℕ Stopped) (after later : List ℕ) → Accepted t names → Walks (CheckedMessage t names b s) slots r after
      → Walks (Message t names b s) slots q later → (r ≡ q) × (after ≡ later)
  unchecked slots r q after later a = one_outcome (λ us vs e f. same_parts us vs e f a) slots r q after later
