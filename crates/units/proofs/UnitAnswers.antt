-- There is always an answer to a unit, and one only; and what is so of a unit that is read.
use Rattle.std.specs.Prelude.{Result, Ok, Err}
use Prim.Native.Nat.{ℕ, ◌≤◌, ◌<◌}
use mathlib.Core.Path.{◌≡◌, refl, ap, subst}
use mathlib.Core.List.{List}
use mathlib.Core.Bool.{Bool, true, false}
use native.Mathlib.Omega.{arith}
use lib.ListN.{length}
use Rattle.error.specs.declared.ErrorCode.{ErrorCode}
use Rattle.node.specs.Tree.{branch}
use Rattle.tokenizer.specs.Step.{state_of}
use Rattle.ahead.specs.{declared.Seen.Seen, declared.Stop.Stop}
use Rattle.header.specs.{Header.Begins}
use Rattle.units.proofs.HeaderClaims as headers
use Rattle.units.proofs.ItemClaims as items
use Rattle.record.specs.declared.Record.{Record}
use Rattle.unit.specs.Unit.{Behind, separated, at_unit, at_end, record_of, Reads, no_command, no_data, whole}
use Rattle.items.specs.declared.Data.{Data}
use Rattle.header.specs.declared.Header.{Header}

module _ (s : List ℕ) where
  some_data : (x : Stop) (p : ℕ) → (r : Result Data ErrorCode) × Behind s x p r
  some_data Stop.Separator p = let z = (items.claims).some_answer s (state_of p false false) in (z.0, separated z.1)
  some_data Stop.Unit p = (_, at_unit)
  some_data Stop.Text p = (_, at_end)

  pub some_unit : (t names : List ℕ) (b : ℕ) (seen : Seen) → (r : Result (Record × ℕ) ErrorCode) × Reads t names s b seen r
  some_unit t names b seen = let z = (headers.claims).some_answer t names s b seen in go z.0 z.1
    where
      go : (h : Result Header ErrorCode) → Begins t names s b seen h → (r : Result (Record × ℕ) ErrorCode) × Reads t names s b seen r
      go (Err e) g = (_, no_command g)
      go (Ok h) g = let z = some_data h.stop h.place in with_data z.0 z.1
        where
          with_data : (d : Result Data ErrorCode) → Behind s h.stop h.place d → (r : Result (Record × ℕ) ErrorCode) × Reads t names s b seen r
          with_data (Err e) k = (_, no_data g k)
          with_data (Ok h) k = (_, whole g k)

  one_data : {x : Stop} {p : ℕ} {r q : Result Data ErrorCode} → Behind s x p r → Behind s x p q → r ≡ q
  one_data (separated i) (separated j) = (items.claims).one_answer s _ _ _ i j
  one_data at_unit at_unit = refl
  one_data at_end at_end = refl

-- the answer for a header that is found, by its data
abbrev closed : ℕ → Bool → ℕ → Result Data ErrorCode → Result (Record × ℕ) ErrorCode
closed c query kept (Ok h) = Ok (record_of c query kept h.count, h.place)
closed c query kept (Err e) = Err e

-- a unit, by its header
data Of-header (s : List ℕ) : Result Header ErrorCode → Result (Record × ℕ) ErrorCode → Type 0 where
  unfound : {e : ErrorCode} → Of-header s (Err e) (Err e)
  with_data : {c : ℕ} {query : Bool} {kept : ℕ} {x : Stop} {p : ℕ} {d : Result Data ErrorCode} → Behind s x p d
      → Of-header s (Ok (record { command = c; query = query; branch = kept; stop = x; place = p })) (closed c query kept d)

one_of : {s : List ℕ} {h : Result Header ErrorCode} {r r' : Result (Record × ℕ) ErrorCode} → Of-header s h r → Of-header s h r' → r ≡ r'
one_of unfound unfound = refl
one_of {s} (with_data {c = c} {query = query} {kept = kept} x) (with_data y) = ap (closed c query kept) (one_data s x y)

by_header : {t names s : List ℕ} {b : ℕ} {seen : Seen} {r : Result (Record × ℕ) ErrorCode} → Reads t names s b seen r → (h : Result Header ErrorCode) × Begins t names s b seen h × Of-header s h r
by_header (no_command g) = (_, g, unfound)
by_header (no_data g k) = (_, g, with_data k)
by_header (whole g k) = (_, g, with_data k)

pub one_unit : (t names s : List ℕ) (b : ℕ) (seen : Seen) (r r' : Result (Record × ℕ) ErrorCode) → Reads t names s b seen r → Reads t names s b seen r' → r ≡ r'
one_unit t names s b seen r r' x y =
    let p = by_header x in
    let q = by_header y in
    one_of p.2 (subst (λ (h : Result Header ErrorCode). Of-header s h r') ((headers.claims).one_answer t names s b seen q.0 p.0 q.1 p.1) q.2)

-- what is so of a unit that is read

module _ (s : List ℕ) where
  data_onward : {n next : ℕ} {x : Stop} {p : ℕ} → Behind s x p (Ok (record { count = n; place = next })) → p ≤ next
  data_onward (separated i) = (items.claims).onward s _ _ _ i
  data_onward at_unit = omega arith
  data_onward at_end = omega arith

  data_few : {n next : ℕ} {x : Stop} {p : ℕ} → Behind s x p (Ok (record { count = n; place = next })) → n ≤ length s
  data_few (separated i) = (items.claims).few_items s _ _ _ i
  data_few at_unit = omega arith
  data_few at_end = omega arith

module _ {t names s : List ℕ} {b : ℕ} {seen : Seen} {u : Record} {p : ℕ} where
  pub goes_on : Reads t names s b seen (Ok (u, p)) → seen.state.place ≤ p
  goes_on (whole g k) = let i = (headers.claims).onward _ _ _ _ _ _ _ _ _ _ g in let j = data_onward s k in omega (arith, i, j)

  pub items_fit : Reads t names s b seen (Ok (u, p)) → u.items ≤ length s
  items_fit (whole g k) = data_few s k

  pub command_fits : Reads t names s b seen (Ok (u, p)) → u.command < 65536
  command_fits (whole g k) = (headers.claims).command_fits _ _ _ _ _ _ _ _ _ _ g

  pub keeps_branch : Reads t names s b seen (Ok (u, p)) → branch t 0 ≡ true → branch t u.branch ≡ true
  keeps_branch (whole g k) = (headers.claims).keeps _ _ _ _ _ _ _ _ _ _ g
