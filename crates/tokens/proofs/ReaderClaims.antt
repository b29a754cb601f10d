-- The claims, from those on the plain step.
use Prim.Native.Nat.{ℕ, zero, suc}
use mathlib.Core.Path.{◌≡◌, refl, ap, ◌∙◌}
use lib.ListN.{length}
use Rattle.util.specs.Walk.{after}
use Rattle.tokens.specs.{StepClaims.state_behind, ReaderClaims.Claims}
use Rattle.tokens.proofs.StepClaims.{claims as plain}
use Rattle.reader.specs.Ahead.{reader_of, ahead, behind}
use Rattle.reader.specs.declared.Reader.{Reader}

-- the message stays, and the state goes the plain way
stands : (r : Reader) (n : ℕ) → after behind n r ≡ reader_of r.message (after (state_behind r.message.now) n r.state)
stands r zero = refl
stands r (suc n) = stands (behind r) n

pub claims : Claims
claims =
    record {
      as_plain = λ r n. ap ahead (stands r n);
      after_refusal = λ r e h. plain.after_refusal r.message.now r.state e h;
      at_most = λ r. ap (λ (q : Reader). (ahead q).answer) (stands r (length r.message.now)) ∙ plain.at_most r.message.now r.state;
    }
