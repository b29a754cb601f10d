-- Laws of what a token is to a header, as the code meets them.
use Prim.Native.Nat.{ℕ}
use mathlib.Core.Path.{◌≡◌, sym, ap, ◌∙◌}
use mathlib.Core.List.{List}
use borrow.Author.Rules.{rules}
use Rattle.token.specs.declared.Token.{Token}
use Rattle.tokenizer.specs.{Step.step, declared.Answer.Answer, declared.State.State, declared.Step.Step}
use Rattle.ahead.specs.Seen.{token_ahead, ahead_of, seen_with, seen_at}
use Rattle.ahead.specs.declared.Ahead.{Ahead}

-- told by the case that something is
pub by_case : {A B : Type 0} (f : A → B) (r : B) (a b : A) → a ≡ b → r ≡ f b → r ≡ f a
by_case f r a b e h = h ∙ sym (ap f e)

pub token_told' : (r : Ahead) (t u : Token) → t ≡ u → r ≡ token_ahead u → r ≡ token_ahead t
token_told' = by_case token_ahead

pub answer_told' : (r : Ahead) (a b : Answer) → a ≡ b → r ≡ ahead_of b → r ≡ ahead_of a
answer_told' = by_case ahead_of

-- what is seen
pub look' : (s : List ℕ) (st : State) (x : Step) → x ≡ step s st → (a : Ahead) → a ≡ ahead_of x.answer → seen_with a x.state ≡ seen_at s st
unfolding seen_at
look' s st x e a f = rw (f, e)

pub ruleset laws = (rules, token_told', answer_told', look')
