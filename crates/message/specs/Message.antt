-- A program message: message units with `;` between them, IEEE 488.2 7.3 and 7.4.1, up to the end of the text; and its records. The token
-- step takes a newline that is the last byte for the terminator (7.5), and another one, outside an item of data, for white space or a
-- fault.
use Rattle.std.specs.Prelude.{ℕ, ◌≤◌, ◌<◌, ◌≡◌, List, [], ◌∷◌, map, Bool, true, false, cond, leb, length, Result, Ok, Err}
use Rattle.error.specs.declared.ErrorCode.{ErrorCode}
use Rattle.error.specs.declared.ErrorCode.TheVariants as refusal
use Rattle.node.specs.Tree.{branch}
use Rattle.table.specs.Fault.{Accepted, Verdict}
use Rattle.tokenizer.specs.Step.{state_of}
use Rattle.ahead.specs.Seen.{seen_at}
use Rattle.ahead.specs.declared.Stop.{Stop}
use Rattle.ahead.specs.declared.Stop.TheVariants as stop
use Rattle.ahead.specs.declared.Ahead.{Ahead}
use Rattle.ahead.specs.declared.Ahead.TheVariants as ahead
use Rattle.ahead.specs.declared.Seen.{Seen}
use Rattle.tree.specs.Alone.{longest_message}
use Rattle.unit.specs.Unit.{Reads}
use Rattle.record.specs.Word.{word_of}
use Rattle.record.specs.declared.Record.{Record}
use Rattle.message.specs.declared.Stopped.{Stopped}

-- what is ahead at a place where a unit would begin: at the front of a message, or after a `;`
abbrev pub beginning_at : List ℕ → ℕ → Seen
beginning_at s p = seen_at s (state_of p true false)

-- what is where a unit would begin is the end of the text, and not white space or `;`
abbrev pub is_text : Stop → Bool
is_text stop.Text = true
is_text stop.Unit = false
is_text stop.Separator = false

abbrev pub is_end : Ahead → Bool
is_end (ahead.Stop x) = is_text x
is_end (ahead.Word w) = false
is_end ahead.Colon = false
is_end ahead.Query = false
is_end (ahead.Refused e) = false

-- A message is read to its end, or up to a refusal.
pub data Ending : Type 0 where
  complete : Ending
  refused : ErrorCode → Ending

-- Units t names s b p us e: from the place p on, and from the branch b, the units us are read well, one after the other, and then comes
-- e. The branch that a unit keeps is the start of the next (IEEE 488.2 appendix A.1, SCPI-99 6.2.4).
pub data Units (t names s : List ℕ) : ℕ → ℕ → List Record → Ending → Type 0 where
  -- the text ends: at once, after a unit, or after one `;`, which the standard has only between units
  none : {b p : ℕ} → is_end (beginning_at s p).ahead ≡ true → Units t names s b p [] complete
  stopped : {b p : ℕ} {e : ErrorCode} → is_end (beginning_at s p).ahead ≡ false → Reads t names s b (beginning_at s p) (Err e)
      → Units t names s b p [] (refused e)
  next : {b p : ℕ} {u : Record} {after : ℕ} {us : List Record} {e : Ending} → is_end (beginning_at s p).ahead ≡ false
      → Reads t names s b (beginning_at s p) (Ok (u, after)) → Units t names s u.branch after us e
      → Units t names s b p (u ∷ us) e

-- Message t names b s us e: the message s, from the branch b of a table that is not checked, has the units us and then e.
pub data Message (t names : List ℕ) (b : ℕ) (s : List ℕ) : List Record → Ending → Type 0 where
  -- 7: the start is no branch
  no_branch : branch t b ≡ false → Message t names b s [] (refused refusal.StartIsNoBranch)
  -- 9: the message is longer than a message may be
  too_long : branch t b ≡ true → longest_message < length s → Message t names b s [] (refused refusal.MessageTooLong)
  -- then the text itself
  text : {us : List Record} {e : Ending} → branch t b ≡ true → length s ≤ longest_message → Units t names s b 0 us e → Message t names b s us e

-- The message where the table is checked first: its smallest fault, 1 to 6, before all else.
pub data CheckedMessage (t names : List ℕ) (b : ℕ) (s : List ℕ) : List Record → Ending → Type 0 where
  fault : {e : ErrorCode} → Verdict t names (Err e) → CheckedMessage t names b s [] (refused e)
  sound : {us : List Record} {e : Ending} → Accepted t names → Message t names b s us e → CheckedMessage t names b s us e

-- the words stand in the first slots, as far as there are slots; the others keep theirs
unfoldable pub written : List ℕ → List ℕ → List ℕ
written [] slots = slots
written (w ∷ words) [] = []
written (w ∷ words) (x ∷ slots) = w ∷ written words slots

-- the answer behind n units, all of which are written
abbrev pub told : ℕ → Ending → Result ℕ Stopped
told n complete = Ok n
told n (refused e) = Err (record { units = n; error = e })

-- what a walk answers, and the slots then
pub record Outcome : Type 0 where
  pub says : Result ℕ Stopped
  pub slots : List ℕ

-- The outcome for these units and this ending: the record of each unit in a slot, in order; and 8 at the first unit that has no slot.
unfoldable pub recorded : List ℕ → List Record → Ending → Outcome
recorded slots us e =
    record {
      says = cond (leb (length us) (length slots)) (told (length us) e) (Err (record { units = length slots; error = refusal.NoSlotLeft }));
      slots = written (map word_of us) slots;
    }

-- A walk over slots gives the answer r and leaves the slots after, where M says which units and which ending the message has.
pub record Walks (M : List Record → Ending → Type 0) (slots : List ℕ) (r : Result ℕ Stopped) (after : List ℕ) : Type 0 where
  pub units : List Record
  pub ending : Ending
  pub reads : M units ending
  pub outcome : record { says = r; slots = after } ≡ recorded slots units ending
