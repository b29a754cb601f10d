-- The tokens of a well-formed header are heard as its words.
use Prim.Native.Nat.{ℕ}
use mathlib.Core.Path.{◌≡◌, refl, ap, ◌∙◌}
use mathlib.Core.List.{List, ◌∷◌}
use mathlib.Core.Bool.{Bool}
use Rattle.token.specs.{View.part_of, declared.View.View, declared.Token.Token}
use Rattle.tokenizer.specs.{Step.step, declared.State.State}
use Rattle.tokenizer.specs.declared.Answer.TheVariants as answer
use Rattle.ahead.specs.Seen.{token_ahead, ahead_of, seen_at}
use Rattle.header.specs.Header.{word_behind, behind_colon, at_branch, turn_of}
use Rattle.ahead.specs.declared.Stop.TheVariants as end
use Rattle.ahead.specs.declared.Ahead.TheVariants as ahead
use Rattle.ahead.specs.declared.Seen.{Seen}
use Rattle.routes.specs.WellFormed.{Tokens, no_more, next, Shown, event, query, then}
use Rattle.routes.specs.Heard.{Hears, stop, asked, word}

-- what a step's answer is to a header
module _ (s : List ℕ) (st : State) where
  pub token_seen : {t : Token} → (step s st).answer ≡ answer.Token t → (seen_at s st).ahead ≡ token_ahead t
  unfolding seen_at
  token_seen e = ap ahead_of e

  end_seen : (step s st).answer ≡ answer.End → (seen_at s st).ahead ≡ ahead.Stop end.Text
  unfolding seen_at
  end_seen e = ap ahead_of e

-- the first of the words stands at the state, and behind it the others are heard up to the end of the text
pub record Said (s : List ℕ) (words : List (List ℕ)) (q : Bool) (st : State) : Type 0 where
  pub first : List ℕ
  pub rest : List (List ℕ)
  pub view : View
  pub last : ℕ
  pub parts : words ≡ first ∷ rest
  pub there : (seen_at s st).ahead ≡ ahead.Word view
  pub shows : part_of s view ≡ first
  pub hears : Hears s end.Text last rest q (seen_at s (seen_at s st).state)

module _ {s : List ℕ} {words : List (List ℕ)} {q : Bool} where
  -- so all are heard from there on
  pub from_there : {st : State} (x : Said s words q st) → Hears s end.Text x.last words q (seen_at s st)
  unfolding turn_of
  from_there {st} x = rw x.parts (word (ap (at_branch s (seen_at s st).state) x.there) x.shows x.hears)

  -- and from a colon before them
  pub from_colon : {seen : Seen} → seen.ahead ≡ ahead.Colon → (x : Said s words q seen.state) → Hears s end.Text x.last words q seen
  unfolding turn_of behind_colon
  from_colon {seen} e x =
      rw x.parts
      (word (ap (at_branch s seen.state) e ∙ ap (word_behind (seen_at s seen.state).state) x.there) x.shows x.hears)

say : {s : List ℕ} {q : Bool} {st : State} {first : List ℕ} {rest : List (List ℕ)} {view : View} {last : ℕ} → (seen_at s st).ahead ≡ ahead.Word view
    → part_of s view ≡ first → Hears s end.Text last rest q (seen_at s (seen_at s st).state) → Said s (first ∷ rest) q st
say {first = first} {rest} {view} {last} e p h = record { first = first; rest = rest; view = view; last = last; parts = refl; there = e; shows = p; hears = h }

pub said : {s : List ℕ} {words : List (List ℕ)} {q : Bool} {tokens : List Token} {st : State} → Shown s words q tokens → Tokens s st tokens → Said s words q st
unfolding seen_at
said {s} {st = st} (event p) (next e (no_more f)) = say (token_seen s st e) p (stop (end_seen s (step s st).state f) refl)
said {s} {st = st} (query p) (next e (next f (no_more g))) =
    say (token_seen s st e) p (asked (token_seen s (step s st).state f) (end_seen s (step s (step s st).state).state g) refl)
said {s} {st = st} (then p x) (next e (next f y)) = say (token_seen s st e) p (from_colon (token_seen s (step s st).state f) (said x y))
