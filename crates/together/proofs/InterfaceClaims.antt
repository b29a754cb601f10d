-- The claims.
use Rattle.std.specs.Prelude.{Result, Ok}
use Prim.Native.Nat.{ℕ}
use mathlib.Core.Path.{◌≡◌, refl, sym, ap, ◌∙◌}
use mathlib.Core.List.{List}
use lib.IntN.{ℤ, pos, nat_abs}
use native.Mathlib.Omega.{arith}
use Rattle.error.specs.Code.{code_of}
use Rattle.table.specs.Fault.{Accepted, Fault, Verdict, accepts, refuses, node_count, node_fields, child_blocks, node_name, two_defaults, shared_spelling}
use Rattle.routes.proofs.TableClaims as table
use Rattle.routes.proofs.ResolveOnce as tree
use Rattle.messages.proofs.Once as message
use Rattle.unit_words.specs.Answers.{checked_code}
use Rattle.vinderaz.specs.Tree.{Checks}
use Rattle.together.specs.InterfaceClaims.{Claims}
use Rattle.together.proofs.InterfaceOnce.{same_resolving, same_walking}
use Rattle.together.proofs.InterfaceRefusals.{token_refusal, channel_refusal, numeric_refusal}
use Rattle.error.specs.declared.ErrorCode.{ErrorCode}

module _ (t names : List ℕ) where
  one_check : (r q : ℤ) → Checks t names r → Checks t names q → r ≡ q
  one_check r q x y = x.code ∙ ap checked_code ((table.claims).one_verdict t names x.says y.says x.verdict y.verdict) ∙ sym y.code

  no_fault : (x : Result Unit ErrorCode) → Verdict t names x → pos 0 ≡ checked_code x → Accepted t names
  no_fault x (accepts a) h = a
  no_fault x (refuses (node_count f) g) h = absurd (omega (arith, ap nat_abs h))
  no_fault x (refuses (node_fields f) g) h = absurd (omega (arith, ap nat_abs h))
  no_fault x (refuses (child_blocks f) g) h = absurd (omega (arith, ap nat_abs h))
  no_fault x (refuses (node_name f) g) h = absurd (omega (arith, ap nat_abs h))
  no_fault x (refuses (two_defaults f) g) h = absurd (omega (arith, ap nat_abs h))
  no_fault x (refuses (shared_spelling f) g) h = absurd (omega (arith, ap nat_abs h))

pub claims : Claims
claims =
    record {
      one_check = one_check;
      accepted = λ t names. (
        λ (x : Checks t names (pos 0)). no_fault t names x.says x.verdict x.code,
        λ (a : Accepted t names). record { says = Ok tt; verdict = accepts a; code = refl },
      );
      one_resolving = λ t names b s. same_resolving tree.one_alone;
      one_unchecked = λ t names b s. same_resolving tree.one_resolves;
      unchecked = λ t names b s slots r q after later a. same_resolving (λ x y. tree.unchecked x y a) slots r q after later;
      one_walking = λ t names b s. same_walking message.one_walk;
      one_unchecked_walking = λ t names b s. same_walking message.one_unchecked;
      unchecked_walking = λ t names b s slots units r q after later units' units'' a.
          same_walking (λ l v w x y. message.unchecked l v w x y a) slots units r q after later units' units'';
      token_refusal = token_refusal;
      channel_refusal = channel_refusal;
      numeric_refusal = numeric_refusal;
    }
