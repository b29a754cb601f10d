-- Out of a header the token step answers the same whether the header was a common command's or not, and so do the data.
use Rattle.std.specs.Prelude.{Result, Ok, Err}
use Prim.Native.Nat.{ℕ, ◌+◌}
use mathlib.Core.Path.{◌≡◌, refl, ap, ◌∙◌, subst}
use mathlib.Core.List.{List}
use mathlib.Core.Bool.{Bool, true, false, cond, ◌||◌}
use lib.Dec.{eqb, leb}
use lib.ListN.{length, get_or}
use Rattle.kind.specs.Kind.{kind_of}
use Rattle.kind.specs.declared.Kind.{Kind}
use Rattle.kind.specs.declared.Kind.TheVariants as kind
use Rattle.token.specs.declared.Token.{Token}
use Rattle.item.specs.{Word.mnemonic, Word.character_data}
use Rattle.decimal.specs.Decimal.{numeric_data}
use Rattle.enclosed.specs.{String.string_data, Expression.expression_data}
use Rattle.hash.specs.Block.{hash_data}
use Rattle.separator.specs.Separator.{newline_to, colon_to, question_to, comma_to}
use Rattle.tokenizer.specs.Step.{state_of, taken, refusal, ended, read_as, passed, ended_by, newline_before, colon_before, question_before, comma_before, word_at, outside, by_kind, step}
use Rattle.tokenizer.specs.{declared.Answer.Answer, declared.State.State, declared.Step.Step}
use Rattle.items.specs.Entry.{Entry, Met, entry_of, met_with, met_at}
use Rattle.items.specs.Entry as entry
use Rattle.items.specs.Items as items
use Rattle.items.specs.declared.Data.{Data}
use Rattle.error.specs.declared.ErrorCode.{ErrorCode}

-- two states at one place out of a header, whether in a common command or not
pub data SamePlace : State → State → Type 0 where
  same_place : (p : ℕ) (c d : Bool) → SamePlace (state_of p false c) (state_of p false d)

-- The states after an item or a comma are again such states, and after the end of the data they have one place.
abbrev After : Entry → State → State → Type 0
After entry.Item x y = SamePlace x y
After entry.Comma x y = SamePlace x y
After entry.End x y = x.place ≡ y.place
After (entry.Refused e) x y = Unit {0}

-- two steps that the data meet alike
record Alike (x y : Step) : Type 0 where
  entry_same : entry_of y.answer ≡ entry_of x.answer
  after : After (entry_of x.answer) x.state y.state

after_same : (x : Entry) (p : ℕ) (c d : Bool) → After x (state_of p false c) (state_of p false d)
after_same entry.Item p c d = same_place p c d
after_same entry.Comma p c d = same_place p c d
after_same entry.End p c d = refl
after_same (entry.Refused e) p c d = tt

alike : (a : Answer) (p : ℕ) (c d : Bool) → Alike (record { answer = a; state = state_of p false c }) (record { answer = a; state = state_of p false d })
alike a p c d = record { entry_same = refl; after = after_same (entry_of a) p c d }

-- two steps that one test chooses are alike where its two sides are
either_way : (t : Bool) {x y z w : Step} → Alike x y → Alike z w → Alike (cond t x z) (cond t y w)
either_way true a b = a
either_way false a b = b

module _ (s : List ℕ) where
  module _ (p : ℕ) (c d : Bool) where
    reads : (f g : Bool) (r : Result (Token × ℕ) ErrorCode) → Alike (read_as s (state_of p false c) f r) (read_as s (state_of p false d) g r)
    unfolding read_as taken refusal
    reads f g (Ok (t, next)) = alike _ next f g
    reads f g (Err e) = alike _ (length s) c d

    passes : (t : Token) (r : Result ℕ ErrorCode) → Alike (passed s (state_of p false c) t false r) (passed s (state_of p false d) t false r)
    unfolding passed taken refusal
    passes t (Ok next) = alike _ next c d
    passes t (Err e) = alike _ (length s) c d

    ends : (r : Result ℕ ErrorCode) → Alike (ended_by s (state_of p false c) r) (ended_by s (state_of p false d) r)
    unfolding ended_by ended refusal
    ends (Ok next) = alike _ next c d
    ends (Err e) = alike _ (length s) c d

    by_kind_lem : (b : ℕ) (k : Kind) → Alike (by_kind s (state_of p false c) p b k) (by_kind s (state_of p false d) p b k)
    unfolding by_kind newline_before colon_before question_before comma_before colon_to word_at outside taken refusal
    by_kind_lem b kind.Newline = ends (newline_to s (p + 1))
    by_kind_lem b kind.Star = reads true true (mnemonic s p)
    by_kind_lem b kind.Colon = passes _ _
    by_kind_lem b kind.Question = passes _ (question_to s (p + 1) false)
    by_kind_lem b kind.Semicolon = record { entry_same = refl; after = refl }
    by_kind_lem b kind.Comma = passes _ (comma_to s (p + 1) false)
    by_kind_lem b kind.Blank = alike _ _ c d
    by_kind_lem b kind.Small = reads c d (character_data s p)
    by_kind_lem b kind.Capital = reads c d (character_data s p)
    by_kind_lem b kind.Parenthesis = reads c d (expression_data s (p + 1))
    by_kind_lem b kind.Other = alike _ (length s) c d
    by_kind_lem b kind.Underscore = alike _ (length s) c d
    by_kind_lem b kind.Beyond = alike _ (length s) c d
    by_kind_lem b kind.Hash = reads c d (hash_data s (p + 1))
    by_kind_lem b kind.Quote = reads c d (string_data b s (p + 1))
    by_kind_lem b kind.Digit = reads c d (numeric_data s p)
    by_kind_lem b kind.Sign = reads c d (numeric_data s p)
    by_kind_lem b kind.Point = reads c d (numeric_data s p)

    steps : Alike (step s (state_of p false c)) (step s (state_of p false d))
    unfolding step ended
    steps = either_way (leb (length s) p) (alike _ p c d) (by_kind_lem (get_or s p 0) (kind_of (get_or s p 0)))

  -- what is met from the one state is met from the other
  met : {x : Entry} {st other next : State} → SamePlace st other → met_at s st ≡ met_with x next → (after : State) × (met_at s other ≡ met_with x after) × After x next after
  unfolding met_at
  met (same_place p c d) e =
      let y = step s (state_of p false d) in
      let h = steps p c d in
      (y.state, ap (λ v. met_with v y.state) (h.entry_same ∙ ap (λ (m : Met). m.entry) e), subst (λ (m : Met). After m.entry m.state y.state) e h.after)

  joined : {n : ℕ} {st other : State} {r : Result Data ErrorCode} → SamePlace st other → items.Joined s n st r → items.Joined s n other r
  joined a (items.ended e) = let m = met a e in rw m.2 (items.ended m.1)
  joined a (items.more e g j) = let m = met a e in let k = met m.2 g in items.more m.1 k.1 (joined k.2 j)
  joined a (items.missing e g) = let m = met a e in items.missing m.1 (met m.2 g).1
  joined a (items.doubled e g) = let m = met a e in items.doubled m.1 (met m.2 g).1
  joined a (items.touching e) = items.touching (met a e).1
  joined a (items.refused e) = items.refused (met a e).1
  joined a (items.refused_item e g) = let m = met a e in items.refused_item m.1 (met m.2 g).1

  pub same_items : {st other : State} {r : Result Data ErrorCode} → SamePlace st other → items.Items s st r → items.Items s other r
  same_items a (items.none e) = let m = met a e in rw m.2 (items.none m.1)
  same_items a (items.some e j) = let m = met a e in items.some m.1 (joined m.2 j)
  same_items a (items.first_missing e) = items.first_missing (met a e).1
  same_items a (items.first_refused e) = items.first_refused (met a e).1
