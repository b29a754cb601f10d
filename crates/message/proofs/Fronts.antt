-- Where a message ends, and where it does not.
use Rattle.std.specs.Prelude.{Result, Ok, Err}
use Prim.Native.Nat.{ℕ, ◌≤◌}
use mathlib.Core.Path.{◌≡◌, refl, ap, ◌∙◌}
use mathlib.Core.List.{List}
use mathlib.Core.Bool.{Bool, true, false}
use lib.ListN.{length}
use borrow.Author.Rules.{rules}
use Rattle.error.specs.declared.ErrorCode.TheVariants as refusal
use Rattle.kind.proofs.Tests.{clash}
use Rattle.node.specs.Tree.{branch}
use Rattle.tokenizer.specs.{declared.State.State, declared.Step.Step}
use Rattle.tokens.proofs.StepClaims as tokens
use Rattle.ahead.specs.{Seen.ahead_of, Seen.seen_at, declared.Seen.Seen}
use Rattle.header.specs.{Header.Begins}
use Rattle.header.specs.Header as begins
use Rattle.unit.specs.Unit.{Reads, whole}
use Rattle.record.specs.declared.Record.{Record}
use Rattle.message.specs.Message.{is_end}
use Rattle.error.specs.declared.ErrorCode.{ErrorCode}
use Rattle.header.specs.declared.Header.{Header}

-- past the text a message ends
pub past_text : (s : List ℕ) (st : State) → length s ≤ st.place → is_end (seen_at s st).ahead ≡ true
unfolding seen_at
past_text s st h = ap (λ (x : Step). is_end (ahead_of x.answer)) ((tokens.claims).rests s st h)

-- a header from the branch b that is not refused as one that is missing
abbrev Present : List ℕ → ℕ → Result Header ErrorCode → Type 0
Present t b (Ok h) = Unit {0}
Present t b (Err e) = (branch t b ≡ true) × (e ≡ refusal.SyntaxError → ⊥)

-- such a header does not begin at the end of the text
pub begun : {t names s : List ℕ} {b : ℕ} {seen : Seen} {h : Result Header ErrorCode} → Begins t names s b seen h → Present t b h → is_end seen.ahead ≡ false
begun (begins.no_branch l) p = clash p.0 l
begun (begins.first_refused _ e) p = ap is_end e
begun (begins.no_header _ e) p = absurd (p.1 refl)
begun (begins.no_question _ e) p = ap is_end e
begun (begins.from_root _ e r) p = ap is_end e
begun (begins.common _ e f r) p = ap is_end e
begun (begins.from_branch _ e f r) p = ap is_end e

-- nor does a unit that is read
pub unit_begun : {t names s : List ℕ} {b : ℕ} {seen : Seen} {u : Record} {p : ℕ} → Reads t names s b seen (Ok (u, p)) → is_end seen.ahead ≡ false
unit_begun (whole y x) = begun y tt

-- what is seen is seen again, as the code meets it
pub sees' : (s : List ℕ) (st : State) (y : Seen) → y ≡ seen_at s st → (r : Bool) → r ≡ is_end y.ahead → r ≡ is_end (seen_at s st).ahead
sees' s st y e r er = er ∙ ap (λ (z : Seen). is_end z.ahead) e

pub ruleset sights = (rules, sees')
