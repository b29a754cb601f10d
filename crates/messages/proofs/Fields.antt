-- The records of a message in an accepted table: each field has room for its value, and there are no more units than bytes.
use Rattle.std.specs.Prelude.{Ok}
use Prim.Native.Nat.{ℕ, ◌-◌, ◌≤◌, ◌<◌}
use mathlib.Core.Path.{◌≡◌}
use mathlib.Core.Logic.{⊎_elim}
use mathlib.Core.List.Memᴰ
use mathlib.Core.List.{List, Memᴰ}
use mathlib.Core.Bool.{true, false}
use native.Mathlib.Omega.{arith}
use lib.ListN.{length}
use Rattle.error.specs.declared.ErrorCode.TheVariants as refusal
use Rattle.kind.proofs.Tests.{clash, less_or_not}
use Rattle.node.specs.Tree.{branch}
use Rattle.node.proofs.Laws.{past_table}
use Rattle.record.specs.{Word.word_of, Word.record_in, declared.Record.Record}
use Rattle.messages.proofs.RecordClaims as records
use Rattle.layout.specs.Layout.{too_many}
use Rattle.table.specs.Fault.{node_count, Accepted}
use Rattle.routes.proofs.TableClaims as tables
use Rattle.tokenizer.specs.Step.{state_of}
use Rattle.ahead.specs.declared.Seen.{Seen}
use Rattle.unit.specs.Unit.{Reads}
use Rattle.units.proofs.UnitClaims as units
use Rattle.message.specs.Message.{Ending, Units, stopped, next, Message, no_branch, too_long, text}
use Rattle.message.specs.Message as message
use Rattle.message.proofs.Some.{inside}

module _ (t names s : List ℕ) (ok : Accepted t names) (short : length s ≤ 65535) where
  small : length t ≤ 4096
  small = ⊎_elim (λ h. absurd (ok.faultless refusal.NodeCount 1 (node_count (too_many h)))) (λ h. h) (less_or_not 4096 (length t))

  in_table : (k : ℕ) → branch t k ≡ true → k < length t
  in_table k m = ⊎_elim (λ h. h) (λ h. clash m (past_table t k h)) (less_or_not k (length t))

  abbrev Whole : Record → Type 0
  Whole u = (branch t u.branch ≡ true) × (record_in (word_of u) ≡ u)

  one : {b : ℕ} {seen : Seen} {u : Record} {after : ℕ} → Reads t names s b seen (Ok (u, after)) → Whole u
  one {u = u} y =
      let m = (units.claims).keeps _ _ _ _ _ _ _ y ((tables.claims).accepted t names ok).root in
      let items = (units.claims).few_items _ _ _ _ _ _ _ y in
      let l = in_table u.branch m in
      (m, (records.claims).again u (record { command = (units.claims).command_fits _ _ _ _ _ _ _ y; branch = omega (arith, l, small); items = omega (arith, items, short) }))

  each : {b p : ℕ} {us : List Record} {e : Ending} → Units t names s b p us e → (u : Record) → Memᴰ u us → Whole u
  each (message.none x) u h = absurd (Memᴰ.not-nil h)
  each (stopped x y) u h = absurd (Memᴰ.not-nil h)
  each (next x y r) u h = ⊎_elim (λ q. rw q (one y)) (λ k. each r u k) (Memᴰ.cases_cons h)

pub whole_records : (t names : List ℕ) (b : ℕ) (s : List ℕ) (us : List Record) (e : Ending) → Accepted t names → Message t names b s us e
    → (u : Record) → Memᴰ u us → (branch t u.branch ≡ true) × (record_in (word_of u) ≡ u)
whole_records t names b s us e ok (no_branch m) u h = absurd (Memᴰ.not-nil h)
whole_records t names b s us e ok (too_long m l) u h = absurd (Memᴰ.not-nil h)
whole_records t names b s us e ok (text m l x) u h = each t names s ok l x u h

few : {t names s : List ℕ} {b p : ℕ} {us : List Record} {e : Ending} → Units t names s b p us e → length us ≤ length s - p
few (message.none x) = omega arith
few (stopped x y) = omega arith
few {s = s} {p = p} (next x y r) =
    let i = inside s (state_of p true false) x in
    let q = (units.claims).onward _ _ _ _ _ _ _ y in
    let l = few r in
    omega (arith, i, q, l)

pub few_units : (t names : List ℕ) (b : ℕ) (s : List ℕ) (us : List Record) (e : Ending) → Message t names b s us e → length us ≤ length s
few_units t names b s us e (no_branch m) = omega arith
few_units t names b s us e (too_long m l) = omega arith
few_units t names b s us e (text m l x) = let h = few x in omega (arith, h)
