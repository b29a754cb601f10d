-- What a mnemonic that begins at a place of a header is to the header.
use Rattle.std.specs.Prelude.{Result, Ok, Err}
use Prim.Native.Nat.{ℕ, ◌+◌, ◌-◌}
use mathlib.Core.Path.{◌≡◌, refl, sym, ap, ◌∙◌}
use mathlib.Core.List.{List}
use mathlib.Core.Bool.{Bool, true, false, and-false}
use native.Mathlib.Omega.{arith}
use lib.Dec.{leb}
use lib.ListN.{length, get_or}
use Rattle.error.specs.declared.ErrorCode.{ErrorCode}
use Rattle.kind.specs.Class.{is_letter, in_mnemonic}
use Rattle.kind.proofs.Tests.{by_test, and_left, and_right, or_right}
use Rattle.util.specs.Run.{run_end, stands_at}
use Rattle.token.specs.{View.view_of, declared.Token.Token}
use Rattle.token.specs.declared.Token.TheVariants.{ProgramMnemonic, HeaderMnemonicSeparator}
use Rattle.item.specs.{Word.star_end, Word.mnemonic}
use Rattle.separator.specs.Separator.{follows_colon, colon_to}
use Rattle.tokenizer.specs.Step.{state_of, read_as}
use Rattle.ahead.specs.Seen.{token_ahead, seen_with, seen_of}
use Rattle.ahead.specs.declared.Ahead.TheVariants as ahead
use Rattle.ahead.specs.declared.Seen.{Seen}
use Rattle.spoken.specs.Spoken.{is_letter_at}
use Rattle.header.specs.Turn as turn
use Rattle.header.specs.Header.{turn_of, behind_colon}
use Rattle.header.specs.Internal.{ahead_at, begins, goes_on}
use Rattle.header.proofs.Looks.{taken_is', refusal_is', read_token', read_refused', passed_to', passed_refused', letter_seen', star_seen', colon_seen'}
use Rattle.header.proofs.Places.{inside, there, letter_there}
use Rattle.forms.proofs.Pairs.{ok_pair}

-- what is read as a mnemonic ends where it does, and is the view from its place on
pub mnemonic_next : (s : List ℕ) (p : ℕ) (t : Token) (next : ℕ) → mnemonic s p ≡ Ok (t, next)
    → (run_end in_mnemonic s (star_end s p) ≡ next) × (ProgramMnemonic (view_of p next) ≡ t)
unfolding mnemonic
mnemonic_next s p t next =
    by_test (λ (r : Result (Token × ℕ) ErrorCode). r ≡ Ok (t, next) → (run_end in_mnemonic s (star_end s p) ≡ next) × (ProgramMnemonic (view_of p next) ≡ t))
    (leb (run_end in_mnemonic s (star_end s p) - p) 12)
    (λ _ f. let e : run_end in_mnemonic s (star_end s p) ≡ next = (ok_pair f).1 in (e, rw (← e) (ok_pair f).0)) (λ _ f. let z : ◌≡◌ {A = ℕ} 0 1 = cc in absurd (omega arith))

pub mnemonic_read : (s : List ℕ) (p : ℕ) (t : Token) (next : ℕ) → mnemonic s p ≡ Ok (t, next) → ProgramMnemonic (view_of p next) ≡ t
mnemonic_read s p t next e = (mnemonic_next s p t next e).1

-- the step at a place is the reading of a mnemonic
abbrev pub Met : List ℕ → ℕ → Bool → Type 0
Met s p c = (x : Seen) → x ≡ seen_of (read_as s (state_of p true c) c (mnemonic s p)) → x ≡ ahead_at s p c

letter_met : (s : List ℕ) (p : ℕ) (c : Bool) → is_letter_at s p ≡ true → Met s p c
letter_met s p c w x ex =
    letter_seen' s (state_of p true c) x (letter_there s p w).0 (is_letter (get_or s p 0)) refl (letter_there s p w).1 refl (mnemonic s p) refl ex

pub met : (s : List ℕ) (p : ℕ) (c : Bool) → begins c s p ≡ true → Met s p c
met s p true w x ex = star_seen' s (state_of p true true) x (inside s p 42 w) (there s p 42 w) (mnemonic s p) refl ex
met s p false w x ex = letter_met s p false w x ex

module _ (s : List ℕ) (p : ℕ) (c : Bool) (m : Met s p c) where
  pub refused_ahead : (e : ErrorCode) → mnemonic s p ≡ Err e → seen_with (ahead.Refused e) (state_of (length s) true c) ≡ ahead_at s p c
  refused_ahead e q =
      let x : Seen = seen_with (ahead.Refused e) (state_of (length s) true c) in
      m x (read_refused' s (state_of p true c) x (mnemonic s p) c e q (refusal_is' s (state_of p true c) e))

  pub word_ahead : (k : Token) (next : ℕ) → mnemonic s p ≡ Ok (k, next) → seen_with (ahead.Word (view_of p next)) (state_of next true c) ≡ ahead_at s p c
  word_ahead k next q =
      let x : Seen = seen_with (ahead.Word (view_of p next)) (state_of next true c) in
      m x
      (read_token' s (state_of p true c) x (mnemonic s p) k next q c
      (taken_is' k next true c (ahead.Word (view_of p next)) (ap token_ahead (mnemonic_read s p k next q))))

  pub turn_refused : (e : ErrorCode) → mnemonic s p ≡ Err e → turn_of s (ahead_at s p c) ≡ turn.Refused e
  unfolding turn_of
  turn_refused e q = sym (ap (turn_of s) (refused_ahead e q))

  pub turn_word : (k : Token) (next : ℕ) → mnemonic s p ≡ Ok (k, next) → turn_of s (ahead_at s p c) ≡ turn.Word (view_of p next) (state_of next true c)
  unfolding turn_of
  turn_word k next q = sym (ap (turn_of s) (word_ahead k next q))

-- after a colon a mnemonic is met as at a branch itself
after_colon : (s : List ℕ) (p : ℕ) → is_letter_at s p ≡ true → behind_colon (ahead_at s p false) ≡ turn_of s (ahead_at s p false)
unfolding behind_colon turn_of
after_colon s p w = go (mnemonic s p) refl
  where
    go : (x : Result (Token × ℕ) ErrorCode) → mnemonic s p ≡ x → behind_colon (ahead_at s p false) ≡ turn_of s (ahead_at s p false)
    go (Ok (k, next)) q = sym (ap behind_colon (word_ahead s p false (letter_met s p false w) k next q)) ∙ ap (turn_of s) (word_ahead s p false (letter_met s p false w) k next q)
    go (Err e) q = sym (ap behind_colon (refused_ahead s p false (letter_met s p false w) e q)) ∙ ap (turn_of s) (refused_ahead s p false (letter_met s p false w) e q)

module _ (s : List ℕ) (p : ℕ) (g : goes_on s p ≡ true) where
  pub colon_there : stands_at 58 s p ≡ true
  unfolding goes_on
  colon_there = and_left (stands_at 58 s p) (is_letter_at s (p + 1)) g

  pub letter_next : is_letter_at s (p + 1) ≡ true
  unfolding goes_on
  letter_next = and_right (stands_at 58 s p) (is_letter_at s (p + 1)) g

  pub colon_ahead : seen_with ahead.Colon (state_of (p + 1) true false) ≡ ahead_at s p false
  unfolding colon_to follows_colon
  colon_ahead =
      let x : Seen = seen_with ahead.Colon (state_of (p + 1) true false) in
      colon_seen' s (state_of p true false) x (inside s p 58 colon_there) (Ok (p + 1)) (there s p 58 colon_there)
      (rw (or_right (leb (length s) (p + 1)) (letter_there s (p + 1) letter_next).1))
      (passed_to' s (state_of p true false) x (Ok (p + 1)) HeaderMnemonicSeparator true (p + 1) refl (taken_is' HeaderMnemonicSeparator (p + 1) true false ahead.Colon refl))

  pub colon_turn : turn_of s (ahead_at s p false) ≡ turn_of s (ahead_at s (p + 1) false)
  unfolding turn_of
  colon_turn = sym (ap (turn_of s) colon_ahead) ∙ after_colon s (p + 1) letter_next

-- a star is met in the same way before a common command and in one
module _ (s : List ℕ) (p : ℕ) (c : Bool) (w : stands_at 42 s p ≡ true) where
  star_met : (x : Seen) → x ≡ seen_of (read_as s (state_of p true c) true (mnemonic s p)) → x ≡ ahead_at s p c
  star_met x ex = star_seen' s (state_of p true c) x (inside s p 42 w) (there s p 42 w) (mnemonic s p) refl ex

  pub star_refused : (e : ErrorCode) → mnemonic s p ≡ Err e → seen_with (ahead.Refused e) (state_of (length s) true c) ≡ ahead_at s p c
  star_refused e q =
      let x : Seen = seen_with (ahead.Refused e) (state_of (length s) true c) in
      star_met x (read_refused' s (state_of p true c) x (mnemonic s p) true e q (refusal_is' s (state_of p true c) e))

  pub star_word : (k : Token) (next : ℕ) → mnemonic s p ≡ Ok (k, next) → seen_with (ahead.Word (view_of p next)) (state_of next true true) ≡ ahead_at s p c
  star_word k next q =
      let x : Seen = seen_with (ahead.Word (view_of p next)) (state_of next true true) in
      star_met x
      (read_token' s (state_of p true c) x (mnemonic s p) k next q true
      (taken_is' k next true true (ahead.Word (view_of p next)) (ap token_ahead (mnemonic_read s p k next q))))

pub star_turn : (s : List ℕ) (p : ℕ) (c : Bool) → stands_at 42 s p ≡ true → turn_of s (ahead_at s p c) ≡ turn_of s (ahead_at s p true)
unfolding turn_of
star_turn s p c w = go (mnemonic s p) refl
  where
    go : (x : Result (Token × ℕ) ErrorCode) → mnemonic s p ≡ x → turn_of s (ahead_at s p c) ≡ turn_of s (ahead_at s p true)
    go (Ok (k, next)) q = sym (ap (turn_of s) (star_word s p c w k next q)) ∙ ap (turn_of s) (star_word s p true w k next q)
    go (Err e) q = sym (ap (turn_of s) (star_refused s p c w e q)) ∙ ap (turn_of s) (star_refused s p true w e q)

-- a colon in a common command is refused
pub colon_refused : (s : List ℕ) (p : ℕ) → goes_on s p ≡ true → seen_with (ahead.Refused ErrorCode.InvalidSeparator) (state_of (length s) true true) ≡ ahead_at s p true
unfolding colon_to
colon_refused s p g =
    let x : Seen = seen_with (ahead.Refused ErrorCode.InvalidSeparator) (state_of (length s) true true) in
    colon_seen' s (state_of p true true) x (inside s p 58 (colon_there s p g)) (Err ErrorCode.InvalidSeparator) (there s p 58 (colon_there s p g)) (rw (and-false (follows_colon s (p + 1))))
    (passed_refused' s (state_of p true true) x (Err ErrorCode.InvalidSeparator) HeaderMnemonicSeparator true ErrorCode.InvalidSeparator refl (refusal_is' s (state_of p true true) ErrorCode.InvalidSeparator))
