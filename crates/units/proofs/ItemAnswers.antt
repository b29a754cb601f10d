-- The data have an answer, and one only; they do not go back in the text, and have no more items than the text has bytes.
use Rattle.std.specs.Prelude.{Result, Ok, Err}
use Prim.Native.Nat.{ℕ, zero, suc, ◌+◌, ◌-◌, ◌≤◌, ◌<◌}
use mathlib.Core.Path.{◌≡◌, refl, ap}
use mathlib.Core.Logic.{⊎_elim}
use mathlib.Core.List.{List}
use native.Mathlib.Omega.{arith}
use lib.ListN.{length}
use Rattle.error.specs.declared.ErrorCode.TheVariants.{SyntaxError}
use Rattle.kind.proofs.Tests.{less_or_not}
use Rattle.tokenizer.specs.{declared.State.State, declared.Step.Step}
use Rattle.tokens.proofs.StepClaims.{claims}
use Rattle.items.specs.Entry.{Entry, Met, met_with, met_at}
use Rattle.items.specs.Entry as entry
use Rattle.items.specs.Items.{Joined, ended, more, missing, doubled, touching, refused, refused_item, Items, none, some, first_missing, first_refused}
use Rattle.items.proofs.Meets.{inside}
use Rattle.items.specs.declared.Data.{Data}
use Rattle.error.specs.declared.ErrorCode.{ErrorCode}

-- what is so of data that are read, where the text was read up to the place p
abbrev Sound : List ℕ → ℕ → Result Data ErrorCode → Type 0
Sound s p (Ok h) = (p ≤ h.place) × (h.count ≤ length s)
Sound s p (Err e) = Unit {0}

sooner : (s : List ℕ) (p q : ℕ) (r : Result Data ErrorCode) → p ≤ q → Sound s q r → Sound s p r
sooner s p q (Ok r) l h = let k = h.0 in (omega (arith, l, k), h.1)
sooner s p q (Err e) l h = tt

module _ (s : List ℕ) where
  -- there is an answer

  within : (f n : ℕ) (st : State) → length s - st.place < f → (r : Result Data ErrorCode) × Joined s n st r
  within zero n st l = absurd (omega arith)
  within (suc f) n st l = go (met_at s st).entry (met_at s st).state refl (within f)
    where
      after_comma : (after : State) → met_at s st ≡ met_with entry.Comma after → (x : Entry) (next : State) → met_at s after ≡ met_with x next
          → ((n : ℕ) (st : State) → length s - st.place < f → (r : Result Data ErrorCode) × Joined s n st r) → (r : Result Data ErrorCode) × Joined s n st r
      after_comma after e entry.Item next g rest =
          let a = inside s st e refl in
          let b = inside s after g refl in
          let z = rest (n + 1) next (omega (arith, l, a, b)) in
          (z.0, more e g z.1)
      after_comma after e entry.Comma next g rest = (_, doubled e g)
      after_comma after e entry.End next g rest = (_, missing e g)
      after_comma after e (entry.Refused c) next g rest = (_, refused_item e g)

      go : (x : Entry) (next : State) → met_at s st ≡ met_with x next
          → ((n : ℕ) (st : State) → length s - st.place < f → (r : Result Data ErrorCode) × Joined s n st r) → (r : Result Data ErrorCode) × Joined s n st r
      go entry.Item next e rest = (_, touching e)
      go entry.Comma next e rest = after_comma next e (met_at s next).entry (met_at s next).state refl rest
      go entry.End next e rest = (_, ended e)
      go (entry.Refused c) next e rest = (_, refused e)

  pub some_items : (st : State) → (r : Result Data ErrorCode) × Items s st r
  some_items st = go (met_at s st).entry (met_at s st).state refl
    where
      go : (x : Entry) (next : State) → met_at s st ≡ met_with x next → (r : Result Data ErrorCode) × Items s st r
      go entry.Item next e = let z = within (suc (length s - next.place)) 1 next (omega arith) in (z.0, some e z.1)
      go entry.Comma next e = (_, first_missing e)
      go entry.End next e = (_, none e)
      go (entry.Refused c) next e = (_, first_refused e)

  -- one answer: what the data are after n items and a comma, after n items, and first, by what is met there

  abbrev After-comma : ℕ → Result Data ErrorCode → Entry → State → Type 0
  After-comma n r entry.Item next = Joined s (n + 1) next r
  After-comma n r entry.Comma next = Err SyntaxError ≡ r
  After-comma n r entry.End next = Err SyntaxError ≡ r
  After-comma n r (entry.Refused e) next = Err e ≡ r

  abbrev After-item : ℕ → Result Data ErrorCode → Entry → State → Type 0
  After-item n r entry.Item next = Err SyntaxError ≡ r
  After-item n r entry.Comma next = After-comma n r (met_at s next).entry (met_at s next).state
  After-item n r entry.End next = Ok (record { count = n; place = next.place }) ≡ r
  After-item n r (entry.Refused e) next = Err e ≡ r

  abbrev First : Result Data ErrorCode → Entry → State → Type 0
  First r entry.Item next = Joined s 1 next r
  First r entry.Comma next = Err SyntaxError ≡ r
  First r entry.End next = Ok (record { count = 0; place = next.place }) ≡ r
  First r (entry.Refused e) next = Err e ≡ r

  joined_by : {n : ℕ} {st : State} {r : Result Data ErrorCode} → Joined s n st r → After-item n r (met_at s st).entry (met_at s st).state
  joined_by (ended e) = rw e refl
  joined_by (more e g j) = rw (e, g) j
  joined_by (missing e g) = rw (e, g) refl
  joined_by (doubled e g) = rw (e, g) refl
  joined_by (touching e) = rw e refl
  joined_by (refused e) = rw e refl
  joined_by (refused_item e g) = rw (e, g) refl

  items_by : {st : State} {r : Result Data ErrorCode} → Items s st r → First r (met_at s st).entry (met_at s st).state
  items_by (none e) = rw e refl
  items_by (some e j) = rw e j
  items_by (first_missing e) = rw e refl
  items_by (first_refused e) = rw e refl

  one_joined : {n : ℕ} {st : State} {r q : Result Data ErrorCode} → Joined s n st r → Joined s n st q → r ≡ q
  one_joined (ended e) y = rw e at (joined_by y)
  one_joined (more e g j) y = one_joined j (rw (e, g) at (joined_by y))
  one_joined (missing e g) y = rw (e, g) at (joined_by y)
  one_joined (doubled e g) y = rw (e, g) at (joined_by y)
  one_joined (touching e) y = rw e at (joined_by y)
  one_joined (refused e) y = rw e at (joined_by y)
  one_joined (refused_item e g) y = rw (e, g) at (joined_by y)

  pub one_items : {st : State} {r q : Result Data ErrorCode} → Items s st r → Items s st q → r ≡ q
  one_items (none e) y = rw e at (items_by y)
  one_items (some e j) y = one_joined j (rw e at (items_by y))
  one_items (first_missing e) y = rw e at (items_by y)
  one_items (first_refused e) y = rw e at (items_by y)

  -- the place after the items, and their number

  -- what is met is not before its state
  met_onward : (st : State) {x : Entry} {next : State} → met_at s st ≡ met_with x next → st.place ≤ next.place
  unfolding met_at
  met_onward st e =
      let q = ap (λ (m : Met). m.state.place) e in
      ⊎_elim (λ h. let l = claims.moves s st h in omega (arith, l, q))
      (λ h. let l = ap (λ (x : Step). x.state.place) (claims.rests s st h) in omega (arith, l, q))
      (less_or_not st.place (length s))

  joined_sound : {n : ℕ} {st : State} {r : Result Data ErrorCode} → n ≤ st.place → n ≤ length s → Joined s n st r → Sound s st.place r
  joined_sound {n} {st} a b (ended e) = (met_onward st e, b)
  joined_sound {n} {st} {r} a b (more {behind = after} e g j) =
      let p = inside s st e refl in
      let q = inside s after g refl in
      sooner s _ _ r (omega (arith, p, q)) (joined_sound (omega (arith, a, p, q)) (omega (arith, a, p)) j)
  joined_sound a b (missing e g) = tt
  joined_sound a b (doubled e g) = tt
  joined_sound a b (touching e) = tt
  joined_sound a b (refused e) = tt
  joined_sound a b (refused_item e g) = tt

  items_sound : {st : State} {r : Result Data ErrorCode} → Items s st r → Sound s st.place r
  items_sound {st} (none e) = (met_onward st e, omega arith)
  items_sound {st} {r} (some e j) =
      let p = inside s st e refl in
      sooner s _ _ r (omega (arith, p)) (joined_sound (omega (arith, p)) (omega (arith, p)) j)
  items_sound (first_missing e) = tt
  items_sound (first_refused e) = tt

  pub goes_on : {st : State} {n place : ℕ} → Items s st (Ok (record { count = n; place = place })) → st.place ≤ place
  goes_on i = (items_sound i).0

  pub few_items : {st : State} {n place : ℕ} → Items s st (Ok (record { count = n; place = place })) → n ≤ length s
  few_items i = (items_sound i).1
