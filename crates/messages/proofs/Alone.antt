-- A header alone, and the message that it is.
use Rattle.std.specs.Prelude.{Result, Ok, Err}
use Prim.Native.Nat.{ℕ, ◌≤◌}
use mathlib.Core.Path.{◌≡◌, refl, sym, ap, subst}
use mathlib.Core.List.{List, [], ◌∷◌}
use mathlib.Core.Bool.{Bool, true, false}
use native.Mathlib.Omega.{arith}
use lib.ListN.{length}
use Rattle.error.specs.declared.ErrorCode.{ErrorCode}
use Rattle.node.specs.Tree.{branch}
use Rattle.record.specs.declared.Record.{Record}
use Rattle.tokenizer.specs.Step.{state_of, of_message}
use Rattle.ahead.specs.Seen.{seen_at}
use Rattle.header.specs.{Header.Begins}
use Rattle.ahead.specs.declared.Stop.{Stop}
use Rattle.ahead.specs.declared.Stop.TheVariants as stop
use Rattle.units.proofs.HeaderClaims as headers
use Rattle.tree.specs.Alone.{alone_with, closing, Resolves, one_header}
use Rattle.tree.specs.Alone as alone
use Rattle.unit.specs.Unit.{at_end, record_of, no_command, whole}
use Rattle.message.specs.Message as message
use Rattle.message.specs.Message.{complete, refused, none, stopped, next, Message, text}
use Rattle.message.proofs.Fronts.{begun, past_text}
use Rattle.header.specs.declared.Header.{Header}
use Rattle.tree.specs.declared.Resolved.{Resolved}

no_command_here : {A : Type 0} {e : ErrorCode} {c kept : ℕ} {query : Bool} → ◌≡◌ {A = Result Resolved ErrorCode} (Err e) (Ok (record { command = c; query = query; branch = kept })) → A
no_command_here q = let z : ◌≡◌ {A = ℕ} 0 1 = cc in absurd (omega arith)

same_command : {x y : Resolved} → ◌≡◌ {A = Result Resolved ErrorCode} (Ok x) (Ok y) → x ≡ y
same_command q = cc

module _ {t names : List ℕ} {b : ℕ} {s : List ℕ} where
  pub single : {c kept : ℕ} {query : Bool} (r : Result Resolved ErrorCode) → Resolves t names b s r → r ≡ Ok (record { command = c; query = query; branch = kept }) → Message t names b s (record_of c query kept 0 ∷ []) complete
  single r (alone.no_branch l) q = no_command_here q
  single r (alone.too_long m l) q = no_command_here q
  single {c} {kept} {query} r (one_header {r = h} m l g) q = go h g q
    where
      go : (h : Result Header ErrorCode) → Begins t names s b (seen_at s of_message) h → closing h ≡ Ok (record { command = c; query = query; branch = kept }) → Message t names b s (record_of c query kept 0 ∷ []) complete
      go (Err e) y o = no_command_here o
      go (Ok h) y o = by h.stop refl o
        where
          by : (x : Stop) → h.stop ≡ x → alone_with h.command h.query h.branch x ≡ Ok (record { command = c; query = query; branch = kept }) → Message t names b s (record_of c query kept 0 ∷ []) complete
          by stop.Separator f o = no_command_here o
          by stop.Unit f o = no_command_here o
          by stop.Text f o =
              let i : record_of h.command h.query h.branch 0 ≡ record_of c query kept 0 = ap (λ (u : Resolved). record_of u.command u.query u.branch 0) (same_command o) in
              let z : Begins t names s b (seen_at s of_message) (Ok (record h { stop = stop.Text })) = rw f at y in
              subst (λ (u : Record). Message t names b s (u ∷ []) complete) i
              (text m l (next (begun z tt) (whole z at_end) (none (past_text s (state_of h.place true false) ((headers.claims).over _ _ _ _ _ _ _ _ _ z)))))

  pub refused_alike : {e : ErrorCode} → (e ≡ ErrorCode.SyntaxError → ⊥) → (r : Result Resolved ErrorCode) → Resolves t names b s r → r ≡ Err e → Message t names b s [] (refused e)
  refused_alike {e} other r x q = go x q
    where
      -- the same refusal
      as_told : {c : ErrorCode} → ◌≡◌ {A = Result Resolved ErrorCode} (Err c) (Err e) → Message t names b s [] (refused c) → Message t names b s [] (refused e)
      as_told {c} o y = let i : c ≡ e = cc in rw i at y

      by_header : branch t b ≡ true → length s ≤ 65535 → (h : Result Header ErrorCode) → Begins t names s b (seen_at s of_message) h → closing h ≡ Err e
          → Message t names b s [] (refused e)
      by_header m l (Err c) y o = as_told o (text m l (stopped (begun y (m, λ p. other (cc))) (no_command y)))
      by_header m l (Ok h) y o = by h.stop o
        where
          by : (x : Stop) → alone_with h.command h.query h.branch x ≡ Err e → Message t names b s [] (refused e)
          by stop.Separator o = absurd (other (cc))
          by stop.Unit o = absurd (other (cc))
          by stop.Text o = no_command_here (sym o)

      go : {r : Result Resolved ErrorCode} → Resolves t names b s r → r ≡ Err e → Message t names b s [] (refused e)
      go (alone.no_branch l) o = as_told o (message.no_branch l)
      go (alone.too_long m l) o = as_told o (message.too_long m l)
      go (one_header {r = h} m l g) o = by_header m l h g o
