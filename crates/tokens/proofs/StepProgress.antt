-- Each step inside the text moves the place.
use Rattle.std.specs.Prelude.{Result, Ok, Err}
use Prim.Native.Nat.{ℕ, ◌+◌, ◌≤◌, ◌<◌}
use mathlib.Core.Path.{◌≡◌, refl}
use mathlib.Core.Logic.{⊎_elim}
use mathlib.Core.List.{List}
use mathlib.Core.Bool.{Bool, true, false, ◌||◌}
use native.Mathlib.Omega.{arith}
use lib.Dec.{eqb}
use lib.ListN.{length, get_or}
use borrow.Author.Tests.{eqb-true, lt-leb}
use Rattle.error.specs.declared.ErrorCode.{ErrorCode}
use Rattle.error.specs.declared.ErrorCode.TheVariants.{InvalidCharacter, SyntaxError, CommandHeaderError}
use Rattle.kind.specs.Class.{is_white_space, in_mnemonic}
use Rattle.kind.specs.Kind.{kind_of}
use Rattle.kind.specs.declared.Kind.{Kind}
use Rattle.kind.specs.declared.Kind.TheVariants as kind
use Rattle.kind.proofs.Tests.{by_test, either}
use Rattle.forms.proofs.OfKind.{blank_white, star_is, small_in, capital_in}
use Rattle.util.specs.Run.{run_end}
use Rattle.util.proofs.Runs.{run_from}
use Rattle.token.specs.declared.Token.{Token}
use Rattle.token.specs.declared.Token.TheVariants.{HeaderMnemonicSeparator, HeaderQuerySuffix, ProgramMessageUnitSeparator, ProgramHeaderSeparator, ProgramDataSeparator}
use Rattle.item.specs.{Word.mnemonic, Word.character_data}
use Rattle.forms.proofs.ItemProgress.{Behind, run_moves, common_behind, header_behind, character_behind, numeric_behind, expression_behind, string_behind, hash_behind, From, newline_ends, newline_from, colon_from, question_from, comma_from}
use Rattle.decimal.specs.Decimal.{numeric_data}
use Rattle.enclosed.specs.{String.string_data, Expression.expression_data}
use Rattle.hash.specs.Block.{hash_data}
use Rattle.separator.specs.Separator.{newline_to, colon_to, question_to, comma_to}
use Rattle.tokenizer.specs.Step.{is_in_header, is_in_common, taken, refusal, ended, read_as, passed, ended_by, newline_before, colon_before, question_before, comma_before, word_at, outside, by_kind, step}
use Rattle.tokenizer.specs.{declared.State.State, declared.Step.Step}

-- What holds of every refusal, of every token that moves the place and of every end at the end of the text, holds of a step inside it.
module _ (s : List ℕ) (st : State) (P : Step → Type 0)
    (refuses : (e : ErrorCode) → P (refusal s st e))
    (takes : (t : Token) (next : ℕ) (header common : Bool) → st.place < next → P (taken t next header common))
    (ends : (next : ℕ) → st.place < next → length s ≤ next → P (ended st next)) where
  abbrev at : ℕ
  at = st.place

  reads : (common : Bool) (r : Result (Token × ℕ) ErrorCode) → Behind at r → P (read_as s st common r)
  unfolding read_as
  reads common (Ok (t, next)) h = takes t next (is_in_header st) common h
  reads common (Err e) h = refuses e

  outside_reads : (r : Result (Token × ℕ) ErrorCode) → Behind at r → P (outside s st r)
  unfolding outside
  outside_reads r h = by_test P (is_in_header st) (λ _. refuses CommandHeaderError) (λ _. reads (is_in_common st) r h)

  passes : (t : Token) (header : Bool) (p : Result ℕ ErrorCode) → From (at + 1) p → P (passed s st t header p)
  unfolding passed
  passes t header (Ok next) h = takes t next header (is_in_common st) (omega (arith, h))
  passes t header (Err e) h = refuses e

  finishes : (p : Result ℕ ErrorCode) → From (at + 1) p → From (length s) p → P (ended_by s st p)
  unfolding ended_by
  finishes (Ok next) h l = ends next (omega (arith, h)) l
  finishes (Err e) h l = refuses e

  newline_moves : P (newline_before s st (at + 1))
  unfolding newline_before
  newline_moves = finishes (newline_to s (at + 1)) (newline_from s (at + 1)) (newline_ends s (at + 1))

  colon_moves : P (colon_before s st (at + 1))
  unfolding colon_before
  colon_moves = passes HeaderMnemonicSeparator (is_in_header st) (colon_to s (at + 1) (is_in_header st) (is_in_common st)) (colon_from s (at + 1) (is_in_header st) (is_in_common st))

  question_moves : P (question_before s st (at + 1))
  unfolding question_before
  question_moves = passes HeaderQuerySuffix false (question_to s (at + 1) (is_in_header st)) (question_from s (at + 1) (is_in_header st))

  comma_moves : P (comma_before s st (at + 1))
  unfolding comma_before
  comma_moves = passes ProgramDataSeparator (is_in_header st) (comma_to s (at + 1) (is_in_header st)) (comma_from s (at + 1) (is_in_header st))

  white_moves : at < run_end is_white_space s (at + 1)
  white_moves = omega (arith, run_from is_white_space s (at + 1))

  module _ (h : at < length s) where
    abbrev b : ℕ
    b = get_or s at 0

    word_moves : in_mnemonic b ≡ true → P (word_at s st at)
    unfolding word_at
    word_moves e =
        by_test P (is_in_header st) (λ _. reads (is_in_common st) (mnemonic s at) (header_behind s at h e))
        (λ _. reads (is_in_common st) (character_data s at) (character_behind s at h e))

    next : at < at + 1
    next = omega arith

    by_kind_lem : (k : Kind) → kind_of b ≡ k → P (by_kind s st at b k)
    unfolding by_kind
    by_kind_lem kind.Newline e = newline_moves
    by_kind_lem kind.Star e = reads true (mnemonic s at) (common_behind s at h (eqb-true b 42 (star_is b e)))
    by_kind_lem kind.Colon e = colon_moves
    by_kind_lem kind.Question e = question_moves
    by_kind_lem kind.Semicolon e = takes ProgramMessageUnitSeparator (run_end is_white_space s (at + 1)) true false white_moves
    by_kind_lem kind.Comma e = comma_moves
    by_kind_lem kind.Blank e =
        takes ProgramHeaderSeparator (run_end is_white_space s at) false (is_in_common st) (run_moves is_white_space s at h (blank_white b e))
    by_kind_lem kind.Small e = word_moves (small_in b e)
    by_kind_lem kind.Capital e = word_moves (capital_in b e)
    by_kind_lem kind.Parenthesis e = reads (is_in_common st) (expression_data s (at + 1)) (expression_behind s at (at + 1) next)
    by_kind_lem kind.Other e = refuses SyntaxError
    by_kind_lem kind.Underscore e = refuses SyntaxError
    by_kind_lem kind.Beyond e = refuses InvalidCharacter
    by_kind_lem kind.Hash e = outside_reads (hash_data s (at + 1)) (hash_behind s at (at + 1) next)
    by_kind_lem kind.Quote e = outside_reads (string_data b s (at + 1)) (string_behind s at (at + 1) next b)
    by_kind_lem kind.Digit e = outside_reads (numeric_data s at) (numeric_behind s at)
    by_kind_lem kind.Sign e = outside_reads (numeric_data s at) (numeric_behind s at)
    by_kind_lem kind.Point e = outside_reads (numeric_data s at) (numeric_behind s at)

    pub each : P (step s st)
    unfolding step
    each = rw (lt-leb (length s) at h) (by_kind_lem (kind_of b) refl)
