-- What is met among the data, by the byte at the place.
use Rattle.std.specs.Prelude.{Result, Ok, Err}
use Prim.Native.Nat.{ℕ, ◌+◌, ◌≤◌, ◌<◌}
use mathlib.Core.Path.{◌≡◌, refl, sym, ap, ◌∙◌}
use mathlib.Core.Logic.{⊎_elim}
use mathlib.Core.List.{List}
use mathlib.Core.Bool.{Bool, true, false}
use lib.ListN.{length, get_or}
use Rattle.error.specs.declared.ErrorCode.{ErrorCode}
use Rattle.kind.specs.{Class.is_white_space, Kind.kind_of}
use Rattle.kind.specs.declared.Kind.{Kind}
use Rattle.kind.proofs.Tests.{clash, less_or_not}
use Rattle.util.specs.Run.{run_end}
use Rattle.token.specs.declared.Token.TheVariants.{ProgramMessageUnitSeparator, ProgramDataSeparator}
use Rattle.separator.specs.{Separator.newline_to, Separator.comma_to}
use Rattle.tokenizer.specs.Step.{taken, refusal, ended, step}
use Rattle.tokenizer.specs.{declared.State.State, declared.Step.Step}
use Rattle.tokenizer.specs.declared.Answer.TheVariants as answer
use Rattle.tokenizer.proofs.Steps.{end', pass_to', pass_refused', newline_to', newline_refused', comma_is', newline', semicolon', comma'}
use Rattle.tokens.proofs.StepClaims.{claims}
use Rattle.items.specs.Entry.{Entry, Met, entry_of, met_with, met_of, met_at}
use Rattle.items.specs.Entry as entry
use Rattle.items.specs.Internal.{among}

-- a step as it is met
pub met_step : (s : List ℕ) (st : State) (y : Step) → y ≡ step s st → met_at s st ≡ met_of y
unfolding met_at
met_step s st y e = ap met_of (sym e)

abbrev is_end : Entry → Bool
is_end entry.Item = false
is_end entry.Comma = false
is_end entry.End = true
is_end (entry.Refused e) = false

-- what is met before the end of the data is in the text, and moves the place
pub inside : (s : List ℕ) (st : State) {next : State} {x : Entry} → met_at s st ≡ met_with x next → is_end x ≡ false → (st.place < length s) × (st.place < next.place)
unfolding met_at
inside s st {next} {x} e f =
    ⊎_elim (λ l. (l, rw (ap (λ (m : Met). m.state.place) e) at (claims.moves s st l)))
    (λ l. clash (sym (ap (λ (m : Met). is_end m.entry) e) ∙ ap (λ (y : Step). is_end (entry_of y.answer)) (claims.rests s st l)) f)
    (less_or_not st.place (length s))

module _ (s : List ℕ) (at : ℕ) where
  abbrev st : State
  st = among at

  pub end_met : length s ≤ at → met_at s st ≡ met_with entry.End st
  end_met h = met_step s st (record { answer = answer.End; state = st }) (end' s st h)

  module _ (h : at < length s) where
    abbrev k : Kind
    k = kind_of (get_or s at 0)

    pub unit_met : get_or s at 0 ≡ 59 → met_at s st ≡ met_with entry.End (record { place = run_end is_white_space s (at + 1); in_header = true; in_common = false })
    unfolding kind_of is_white_space taken
    unit_met e =
        let y = taken ProgramMessageUnitSeparator (run_end is_white_space s (at + 1)) true false in
        met_step s st y (semicolon' s st h k refl y (rw e) refl)

    module _ (p : Result ℕ ErrorCode) where
      module _ (e : get_or s at 0 ≡ 44) (ep : p ≡ comma_to s (at + 1) false) where
        pub comma_met : (next : ℕ) → p ≡ Ok next → met_at s st ≡ met_with entry.Comma (among next)
        unfolding kind_of is_white_space taken
        comma_met next q =
            let y = taken ProgramDataSeparator next false false in
            met_step s st y (comma' s st h k refl y (rw e) (comma_is' s st (at + 1) p y ep (pass_to' s st p ProgramDataSeparator false y next q refl)))

        pub comma_refused : (c : ErrorCode) → p ≡ Err c → met_at s st ≡ met_with (entry.Refused c) (among (length s))
        unfolding kind_of is_white_space refusal
        comma_refused c q =
            let y = refusal s st c in
            met_step s st y (comma' s st h k refl y (rw e) (comma_is' s st (at + 1) p y ep (pass_refused' s st p ProgramDataSeparator false y c q refl)))

      module _ (e : get_or s at 0 ≡ 10) (ep : p ≡ newline_to s (at + 1)) where
        pub newline_met : (next : ℕ) → p ≡ Ok next → met_at s st ≡ met_with entry.End (among next)
        unfolding kind_of ended
        newline_met next q =
            let y = ended (among next) next in
            met_step s st y (newline' s st h k refl y (rw e) (newline_to' s st (at + 1) p y ep next q refl))

        pub newline_refused : (c : ErrorCode) → p ≡ Err c → met_at s st ≡ met_with (entry.Refused c) (among (length s))
        unfolding kind_of refusal
        newline_refused c q =
            let y = refusal s st c in
            met_step s st y (newline' s st h k refl y (rw e) (newline_refused' s st (at + 1) p y ep c q refl))
