-- Every message has units and an ending.
use Rattle.std.specs.Prelude.{Result, Ok, Err}
use Prim.Native.Nat.{ℕ, zero, suc, ◌-◌, ◌≤◌, ◌<◌}
use mathlib.Core.Path.{◌≡◌, refl}
use mathlib.Core.Logic.{◌⊎◌, inl, inr, ⊎_elim}
use mathlib.Core.List.{List}
use mathlib.Core.Bool.{Bool, true, false}
use native.Mathlib.Omega.{arith}
use lib.ListN.{length}
use Rattle.kind.proofs.Tests.{clash, less_or_not}
use Rattle.node.specs.Tree.{branch}
use Rattle.tokenizer.specs.{Step.state_of, declared.State.State}
use Rattle.tokens.proofs.StepClaims as tokens
use Rattle.ahead.specs.Seen.{seen_at}
use Rattle.unit.specs.{Unit.Reads}
use Rattle.units.proofs.UnitClaims as units
use Rattle.record.specs.declared.Record.{Record}
use Rattle.message.specs.Message.{beginning_at, is_end, Ending, Units, none, stopped, next, Message, no_branch, too_long, text}
use Rattle.message.proofs.Fronts.{past_text}
use Rattle.error.specs.declared.ErrorCode.{ErrorCode}

-- a token that does not end the message moves the place
pub inside : (s : List ℕ) (st : State) → is_end (seen_at s st).ahead ≡ false → (st.place < length s) × (st.place < (seen_at s st).state.place)
unfolding seen_at
inside s st f = ⊎_elim (λ l. (l, (tokens.claims).moves s st l)) (λ l. clash (past_text s st l) f) (less_or_not st.place (length s))

module _ (t names s : List ℕ) where
  within : (f b p : ℕ) → length s - p < f → (us : List Record) × (e : Ending) × Units t names s b p us e
  within zero b p l = absurd (omega arith)
  within (suc f) b p l = go (is_end (beginning_at s p).ahead) refl (within f)
    where
      go : (x : Bool) → is_end (beginning_at s p).ahead ≡ x → ((b p : ℕ) → length s - p < f → (us : List Record) × (e : Ending) × Units t names s b p us e)
          → (us : List Record) × (e : Ending) × Units t names s b p us e
      go true x rest = (_, _, none x)
      go false x rest = let z = (units.claims).some_answer t names s b (beginning_at s p) in by_unit z.0 z.1
        where
          by_unit : (r : Result (Record × ℕ) ErrorCode) → Reads t names s b (beginning_at s p) r → (us : List Record) × (e : Ending) × Units t names s b p us e
          by_unit (Err c) y = (_, _, stopped x y)
          by_unit (Ok (u, after)) y =
              let i = inside s (state_of p true false) x in
              let q = (units.claims).onward _ _ _ _ _ _ _ y in
              let z = rest u.branch after (omega (arith, l, i, q)) in
              (_, z.1, next x y z.2)

  pub some_units : (b p : ℕ) → (us : List Record) × (e : Ending) × Units t names s b p us e
  some_units b p = within (suc (length s - p)) b p (omega arith)

pub some_message : (t names : List ℕ) (b : ℕ) (s : List ℕ) → (us : List Record) × (e : Ending) × Message t names b s us e
some_message t names b s = go (branch t b) refl (less_or_not 65535 (length s))
  where
    go : (x : Bool) → branch t b ≡ x → (65535 < length s) ⊎ (length s ≤ 65535) → (us : List Record) × (e : Ending) × Message t names b s us e
    go false m l = (_, _, no_branch m)
    go true m (inl l) = (_, _, too_long m l)
    go true m (inr l) = let z = some_units t names s b 0 in (_, _, text m l z.2)
