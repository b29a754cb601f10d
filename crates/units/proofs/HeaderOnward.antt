-- A header that is found does not go back in the text, keeps a branch of the table, has a command of 16 bits, and, where the end of the
-- text ended it, has that end behind it.
use Rattle.std.specs.Prelude.{Result, Ok, Err}
use Prim.Native.Nat.{ℕ, ◌≤◌, ◌<◌}
use mathlib.Core.Path.{◌≡◌, refl, sym, ap, subst}
use mathlib.Core.Logic.{◌⊎◌, inl, inr, ⊎_elim}
use mathlib.Core.List.{List}
use mathlib.Core.Bool.{true}
use native.Mathlib.Omega.{arith}
use lib.ListN.{length, get_or}
use Rattle.kind.proofs.Tests.{less_or_not}
use Rattle.node.specs.{Word.command_number, Tree.branch}
use Rattle.token.specs.{declared.View.View, declared.Token.Token}
use Rattle.token.specs.declared.Token.TheVariants.{HeaderMnemonicSeparator, HeaderQuerySuffix, ProgramMessageUnitSeparator, ProgramHeaderSeparator, ProgramDataSeparator, ProgramMnemonic, CharacterProgramData, DecimalNumericProgramData, DecimalNumericSuffixProgramData, NonDecimalNumericProgramData, StringProgramData, ArbitraryBlockData, ExpressionProgramData}
use Rattle.tokenizer.specs.{Step.step, declared.Answer.Answer, declared.State.State, declared.Step.Step}
use Rattle.tokens.proofs.StepClaims.{claims}
use Rattle.ahead.specs.Seen.{token_ahead, ahead_of, seen_at}
use Rattle.header.specs.Header.{behind_query, query_answer, answer_at_leaf, leaf_answer, word_behind, behind_colon, at_branch, turn_of, Reads, leaf, refused, said, unsaid, unknown, ended, nowhere, keeping, Begins, no_branch, first_refused, no_header, no_question, from_root, common, from_branch}
use Rattle.ahead.specs.{declared.Stop.Stop, declared.Ahead.Ahead, declared.Seen.Seen}
use Rattle.header.specs.{Turn.Turn}
use Rattle.header.specs.Turn as turn
use Rattle.error.specs.declared.ErrorCode.{ErrorCode}
use Rattle.header.specs.declared.Header.{Header}

-- the node kept is a branch, in a table whose root is one
abbrev Keeps : List ℕ → ℕ → Type 0
Keeps t kept = branch t 0 ≡ true → branch t kept ≡ true

-- where the end of the text ended the header, the place is there
abbrev Over : List ℕ → Stop → ℕ → Type 0
Over s Stop.Text p = length s ≤ p
Over s Stop.Unit p = Unit {0}
Over s Stop.Separator p = Unit {0}

-- what is so of a header that is found, where the text was read up to the place p
abbrev pub Sound : List ℕ → List ℕ → ℕ → Result Header ErrorCode → Type 0
Sound t s p (Ok h) = (p ≤ h.place) × Keeps t h.branch × (h.command < 65536) × Over s h.stop h.place
Sound t s p (Err e) = Unit {0}

-- what is seen was seen in the text
abbrev Genuine : List ℕ → State → Ahead → Type 0
Genuine s st (Ahead.Stop x) = Over s x st.place
Genuine s st (Ahead.Word w) = Unit {0}
Genuine s st Ahead.Colon = Unit {0}
Genuine s st Ahead.Query = Unit {0}
Genuine s st (Ahead.Refused e) = Unit {0}

-- a word that stands at a branch is not before the place p
abbrev Further : ℕ → Turn → Type 0
Further p (turn.Word w st) = p ≤ st.place
Further p turn.Stop = Unit {0}
Further p (turn.Refused e) = Unit {0}

-- the next token is not before its state
pub look_onward : (s : List ℕ) (st : State) → st.place ≤ (seen_at s st).state.place
unfolding seen_at
look_onward s st =
    ⊎_elim (λ h. let l = claims.moves s st h in omega (arith, l))
    (λ h. let l = ap (λ (x : Step). x.state.place) (claims.rests s st h) in omega (arith, l))
    (less_or_not st.place (length s))

-- what is seen from a state on is genuine
genuine_token : (s : List ℕ) (st : State) (t : Token) → Genuine s st (token_ahead t)
genuine_token s st (ProgramMnemonic w) = tt
genuine_token s st HeaderMnemonicSeparator = tt
genuine_token s st HeaderQuerySuffix = tt
genuine_token s st ProgramHeaderSeparator = tt
genuine_token s st ProgramMessageUnitSeparator = tt
genuine_token s st ProgramDataSeparator = tt
genuine_token s st (CharacterProgramData v) = tt
genuine_token s st (DecimalNumericProgramData v) = tt
genuine_token s st (DecimalNumericSuffixProgramData v u) = tt
genuine_token s st (NonDecimalNumericProgramData n) = tt
genuine_token s st (StringProgramData v) = tt
genuine_token s st (ArbitraryBlockData v) = tt
genuine_token s st (ExpressionProgramData v) = tt

genuine_at : (s : List ℕ) (st : State) → Genuine s (seen_at s st).state (seen_at s st).ahead
unfolding seen_at
genuine_at s st = go (step s st).answer refl
  where
    go : (a : Answer) → (step s st).answer ≡ a → Genuine s (step s st).state (ahead_of a)
    go (Answer.Token t) e = genuine_token s (step s st).state t
    go Answer.End e = at_end (less_or_not (step s st).state.place (length s))
      where
        at_end : ((step s st).state.place < length s) ⊎ (length s ≤ (step s st).state.place) → length s ≤ (step s st).state.place
        at_end (inl l) = absurd (omega (arith, claims.moves s (step s st).state l, ap (λ (x : Step). x.state.place) (claims.end_stays s st e)))
        at_end (inr l) = l
    go (Answer.Refused c) e = tt

sooner : (t s : List ℕ) (p q : ℕ) (r : Result Header ErrorCode) → p ≤ q → Sound t s q r → Sound t s p r
sooner t s p q (Ok r) l h = (let k = h.0 in omega (arith, l, k), h.1, h.2, h.3)
sooner t s p q (Err e) l h = tt

module _ (t s : List ℕ) (c h : ℕ) (b : Keeps t h) (f : command_number c < 65536) where
  query_sound : (p : ℕ) (seen : Seen) → p ≤ seen.state.place → Genuine s seen.state seen.ahead → Sound t s p (query_answer c h seen)
  unfolding query_answer
  query_sound p seen l g = go seen.ahead g
    where
      go : (x : Ahead) → Genuine s seen.state x → Sound t s p (behind_query c h seen.state x)
      go (Ahead.Stop x) o = (l, b, f, o)
      go (Ahead.Refused e) o = tt
      go Ahead.Query o = tt
      go (Ahead.Word w) o = tt
      go Ahead.Colon o = tt

  leaf_sound : (seen : Seen) → Genuine s seen.state seen.ahead → Sound t s seen.state.place (leaf_answer s c h seen)
  unfolding leaf_answer
  leaf_sound seen g = go seen.ahead g
    where
      go : (x : Ahead) → Genuine s seen.state x → Sound t s seen.state.place (answer_at_leaf s c h seen.state x)
      go (Ahead.Stop x) o = (omega arith, b, f, o)
      go Ahead.Query o = query_sound seen.state.place (seen_at s seen.state) (look_onward s seen.state) (genuine_at s seen.state)
      go (Ahead.Refused e) o = tt
      go (Ahead.Word w) o = tt
      go Ahead.Colon o = tt

colon_onward : (p : ℕ) (seen : Seen) → p ≤ seen.state.place → Further p (behind_colon seen)
unfolding behind_colon
colon_onward p seen l = go seen.ahead
  where
    go : (x : Ahead) → Further p (word_behind seen.state x)
    go (Ahead.Word w) = l
    go (Ahead.Refused e) = tt
    go (Ahead.Stop x) = tt
    go Ahead.Query = tt
    go Ahead.Colon = tt

turn_onward : (s : List ℕ) (seen : Seen) → Further seen.state.place (turn_of s seen)
unfolding turn_of
turn_onward s seen = go seen.ahead
  where
    go : (x : Ahead) → Further seen.state.place (at_branch s seen.state x)
    go (Ahead.Word w) = omega arith
    go (Ahead.Stop x) = tt
    go Ahead.Query = tt
    go (Ahead.Refused e) = tt
    go Ahead.Colon = colon_onward seen.state.place (seen_at s seen.state) (look_onward s seen.state)

word_onward : (s : List ℕ) (seen : Seen) {w : View} {st : State} → turn_of s seen ≡ turn.Word w st → seen.state.place ≤ st.place
word_onward s seen e = rw e at (turn_onward s seen)

command_fits : (w : ℕ) → command_number w < 65536
unfolding command_number
command_fits w = omega arith

module _ {t names s : List ℕ} where
  pub reads_sound : {h n : ℕ} {seen : Seen} {r : Result Header ErrorCode} → Keeps t h → Genuine s seen.state seen.ahead → Reads t names s h n seen r → Sound t s seen.state.place r
  reads_sound {h} {n} {seen} b g (leaf m) = leaf_sound t s (get_or t n 0) h b (command_fits (get_or t n 0)) seen g
  reads_sound b g (refused m e) = tt
  reads_sound {h} {n} {seen} {r} b g (said {st = st} m e k x) =
      sooner t s _ _ r (omega (arith, word_onward s seen e, look_onward s st)) (reads_sound (λ _. m) (genuine_at s st) x)
  reads_sound {h} {n} {seen} {r} b g (unsaid m e k d x) = sooner t s _ _ r (word_onward s seen e) (reads_sound b tt x)
  reads_sound b g (unknown m e k d) = tt
  reads_sound b g (ended m e d x) = reads_sound b g x
  reads_sound b g (nowhere m e d) = tt

keeping_sound : (t s : List ℕ) (p b : ℕ) (r : Result Header ErrorCode) → branch t b ≡ true → Sound t s p r → Sound t s p (keeping b r)
keeping_sound t s p b (Ok r) m h = (h.0, (λ _. m), h.2, h.3)
keeping_sound t s p b (Err e) m h = tt

-- a word is no end of the text
word_genuine : (s : List ℕ) (seen : Seen) {w : View} → seen.ahead ≡ Ahead.Word w → Genuine s seen.state seen.ahead
word_genuine s seen e = subst (Genuine s seen.state) (sym e) tt

pub begins_sound : {t names s : List ℕ} {b : ℕ} {seen : Seen} {r : Result Header ErrorCode} → Begins t names s b seen r → Sound t s seen.state.place r
begins_sound (no_branch m) = tt
begins_sound (first_refused m e) = tt
begins_sound (no_header m e) = tt
begins_sound (no_question m e) = tt
begins_sound {t} {names} {s} {b} {seen} {r} (from_root m e x) =
    sooner t s _ _ r (look_onward s seen.state) (reads_sound (λ z. z) (genuine_at s seen.state) x)
begins_sound {t} {names} {s} {b} {seen} (common {r = r} m e f x) = keeping_sound t s _ b r m (reads_sound (λ z. z) (word_genuine s seen e) x)
begins_sound {s = s} {seen = seen} (from_branch m e f x) = reads_sound (λ _. m) (word_genuine s seen e) x
