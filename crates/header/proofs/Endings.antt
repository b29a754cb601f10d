-- What is ahead where a header ends, and what the header is then answered; laws as the code meets them.
use Rattle.std.specs.Prelude.{Result, Ok}
use Prim.Native.Nat.{ℕ, ◌+◌, ◌≤◌, ◌<◌}
use mathlib.Core.Path.{◌≡◌, refl, sym, ap, ◌∙◌}
use mathlib.Core.List.{List}
use mathlib.Core.Logic.{⊎_elim}
use mathlib.Core.Bool.{Bool, true, false}
use lib.Dec.{eqb, leb}
use lib.ListN.{length, get_or}
use borrow.Author.Rules.{rules}
use borrow.Author.Tests.{le-leb, leb-true, leb-false, eqb-true}
use Rattle.kind.specs.Class.{is_white_space}
use Rattle.kind.proofs.Tests.{by_test, clash, or_right, either}
use Rattle.util.specs.Run.{run_end, stands_at}
use Rattle.util.proofs.Runs.{run_more}
use Rattle.separator.specs.Separator.{follows_query, question_to}
use Rattle.node.specs.Word.{command_number}
use Rattle.token.specs.declared.Token.TheVariants.{HeaderQuerySuffix, ProgramHeaderSeparator, ProgramMessageUnitSeparator}
use Rattle.tokenizer.specs.{Step.state_of, declared.State.State}
use Rattle.ahead.specs.{Seen.seen_with, Seen.seen_at, declared.Stop.Stop, declared.Ahead.Ahead, declared.Seen.Seen}
use Rattle.header.specs.Turn as turn
use Rattle.header.specs.Header.{undefined, query_answer, leaf_answer, at_branch, turn_of}
use Rattle.header.specs.Internal.{ahead_at, after_byte, halts, ends_at, is_ending, refused_by}
use Rattle.header.proofs.Looks.{taken_is', passed_to', end_seen', question_seen', space_seen', semicolon_seen'}
use Rattle.header.proofs.Places.{inside, there}
use Rattle.error.specs.declared.ErrorCode.{ErrorCode}
use Rattle.header.specs.declared.Header.{Header}

-- what ends a header at a place, and the place after that
data Halted (s : List ℕ) (at : ℕ) : Stop → ℕ → Type 0 where
  text : length s ≤ at → Halted s at Stop.Text at
  space : at < length s → get_or s at 0 ≡ 32 → Halted s at Stop.Separator (run_end is_white_space s at)
  semicolon : at < length s → get_or s at 0 ≡ 59 → Halted s at Stop.Unit (run_end is_white_space s (at + 1))

record Ends (x : Stop) (n : ℕ) (seen : Seen) : Type 0 where
  state : State
  place : state.place ≡ n
  is : seen_with (Ahead.Stop x) state ≡ seen

-- what is ahead there, whatever the flags are
seen : (s : List ℕ) (at : ℕ) (h c : Bool) {x : Stop} {n : ℕ} → Halted s at x n → Ends x n (seen_at s (state_of at h c))
seen s at h c (text l) = record { state = state_of at h c; place = refl; is = end_seen' s (state_of at h c) _ l refl }
seen s at h c (space l e) =
    record {
      state = state_of (run_end is_white_space s at) false c;
      place = refl;
      is = space_seen' s (state_of at h c) _ l _ e refl (taken_is' ProgramHeaderSeparator _ false c (Ahead.Stop Stop.Separator) refl);
    }
seen s at h c (semicolon l e) =
    record {
      state = state_of (run_end is_white_space s (at + 1)) true false;
      place = refl;
      is = semicolon_seen' s (state_of at h c) _ l _ e refl (taken_is' ProgramMessageUnitSeparator _ true false (Ahead.Stop Stop.Unit) refl);
    }

-- a question mark may stand before it
follows : (s : List ℕ) (at : ℕ) {x : Stop} {n : ℕ} → Halted s at x n → follows_query s at ≡ true
unfolding follows_query is_white_space
follows s at (text l) = rw (le-leb (length s) at l)
follows s at (space l e) = rw e (or_right (leb (length s) at) refl)
follows s at (semicolon l e) = rw e (or_right (leb (length s) at) refl)

module _ (s : List ℕ) (p : ℕ) (common : Bool) where
  query_ahead : stands_at 63 s p ≡ true → follows_query s (p + 1) ≡ true → seen_with Ahead.Query (state_of (p + 1) false common) ≡ ahead_at s p common
  unfolding question_to
  query_ahead e f =
      question_seen' s (state_of p true common) _ (inside s p 63 e) (Ok (p + 1)) (there s p 63 e) (rw f)
      (passed_to' s (state_of p true common) _ (Ok (p + 1)) HeaderQuerySuffix false (p + 1) refl (taken_is' HeaderQuerySuffix (p + 1) false common Ahead.Query refl))

  module _ (w kept : ℕ) {x : Stop} {n : ℕ} where
    plain_found : Halted s p x n → Ok (record { command = command_number w; query = false; branch = kept; stop = x; place = n }) ≡ leaf_answer s w kept (ahead_at s p common)
    unfolding leaf_answer
    plain_found h = let z = seen s p true common h in ap (λ p. Ok (record { command = command_number w; query = false; branch = kept; stop = x; place = p })) (sym z.place) ∙ ap (leaf_answer s w kept) z.is

    query_found : stands_at 63 s p ≡ true → Halted s (p + 1) x n → Ok (record { command = command_number w; query = true; branch = kept; stop = x; place = n }) ≡ leaf_answer s w kept (ahead_at s p common)
    unfolding leaf_answer query_answer
    query_found e h =
        let z = seen s (p + 1) false common h in
        ap (λ p. Ok (record { command = command_number w; query = true; branch = kept; stop = x; place = p })) (sym z.place) ∙ ap (query_answer w kept) z.is ∙ ap (leaf_answer s w kept) (query_ahead e (follows s (p + 1) h))

    found : (q : Bool) → stands_at 63 s p ≡ q → Halted s (after_byte 63 s p) x n → Ok (record { command = command_number w; query = q; branch = kept; stop = x; place = n }) ≡ leaf_answer s w kept (ahead_at s p common)
    unfolding after_byte
    found true e h = query_found e (rw e at h)
    found false e h = plain_found (rw e at h)

  module _ (w kept c : ℕ) (ec : c ≡ command_number w) (q : Bool) (eq : q ≡ stands_at 63 s p) (at : ℕ) (ea : at ≡ after_byte 63 s p) where
    closes : (x : Stop) (n : ℕ) → Halted s at x n → Ok (record { command = c; query = q; branch = kept; stop = x; place = n }) ≡ leaf_answer s w kept (ahead_at s p common)
    closes x n h = rw ec (found w kept q (sym eq) (rw ea at h))

    pub text_closes' : length s ≤ at → Ok (record { command = c; query = q; branch = kept; stop = Stop.Text; place = at }) ≡ leaf_answer s w kept (ahead_at s p common)
    text_closes' h = closes Stop.Text at (text h)

    module _ (h : at < length s) (n : ℕ) (en : n ≡ run_end is_white_space s (at + 1)) where
      pub space_closes' : get_or s at 0 ≡ 32 → Ok (record { command = c; query = q; branch = kept; stop = Stop.Separator; place = n }) ≡ leaf_answer s w kept (ahead_at s p common)
      unfolding is_white_space
      space_closes' e = rw (en ∙ sym (run_more is_white_space s at h (rw e))) (closes Stop.Separator (run_end is_white_space s at) (space h e))

      pub unit_closes' : get_or s at 0 ≡ 59 → Ok (record { command = c; query = q; branch = kept; stop = Stop.Unit; place = n }) ≡ leaf_answer s w kept (ahead_at s p common)
      unit_closes' e = rw en (closes Stop.Unit (run_end is_white_space s (at + 1)) (semicolon h e))

  pub other_closes' : (w kept : ℕ) (x : Seen) → x ≡ ahead_at s p common → (r : Result Header ErrorCode) → r ≡ leaf_answer s w kept x → r ≡ leaf_answer s w kept (ahead_at s p common)
  other_closes' w kept x e r h = h ∙ ap (leaf_answer s w kept) e

pub ruleset ending_laws = (rules, text_closes', space_closes', unit_closes', other_closes')

-- a header that ends by one or two bytes ends by its token

module _ (s : List ℕ) (p : ℕ) (common : Bool) where
  is_ending_lem : {x : Stop} {n : ℕ} (q : Bool) → stands_at 63 s p ≡ q → Halted s (after_byte 63 s p) x n → is_ending (ahead_at s p common).ahead ≡ true
  unfolding after_byte
  is_ending_lem true e h = sym (ap (λ (z : Seen). is_ending z.ahead) (query_ahead s p common e (follows s (p + 1) (rw e at h))))
  is_ending_lem {x} {n} false e h =
      let z : Ends x n (ahead_at s p common) = seen s p true common (rw e at h) in
      sym (ap (λ (y : Seen). is_ending y.ahead) z.is)

  pub ends_so : ends_at s p ≡ true → is_ending (ahead_at s p common).ahead ≡ true
  unfolding ends_at halts
  ends_so =
      by_test (λ (b : Bool). b ≡ true → is_ending (ahead_at s p common).ahead ≡ true) (leb (length s) (after_byte 63 s p))
      (λ l _. is_ending_lem (stands_at 63 s p) refl (text (leb-true (length s) (after_byte 63 s p) l)))
      (λ l h.
      let k = leb-false (length s) (after_byte 63 s p) l in
      ⊎_elim (λ f. is_ending_lem (stands_at 63 s p) refl (space k (eqb-true _ 32 f))) (λ f. is_ending_lem (stands_at 63 s p) refl (semicolon k (eqb-true _ 59 f)))
      (either (eqb (get_or s (after_byte 63 s p) 0) 32) (eqb (get_or s (after_byte 63 s p) 0) 59) h))

-- what ends a header ends it at a branch, and where there is no default leaf it is -113

pub ending_turn : (s : List ℕ) (y : Seen) → is_ending y.ahead ≡ true → turn_of s y ≡ turn.Stop
unfolding turn_of
ending_turn s y e = go y.ahead e
  where
    go : (a : Ahead) → is_ending a ≡ true → at_branch s y.state a ≡ turn.Stop
    go (Ahead.Stop x) f = refl
    go Ahead.Query f = refl
    go (Ahead.Word w) f = clash f refl
    go Ahead.Colon f = clash f refl
    go (Ahead.Refused c) f = clash f refl

pub ending_refused : (a : Ahead) → is_ending a ≡ true → undefined ≡ refused_by a
ending_refused (Ahead.Stop x) f = refl
ending_refused Ahead.Query f = refl
ending_refused (Ahead.Word w) f = refl
ending_refused Ahead.Colon f = clash f refl
ending_refused (Ahead.Refused c) f = clash f refl
