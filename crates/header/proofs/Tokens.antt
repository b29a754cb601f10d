-- Laws of a header's tokens, as the code meets them.
use Rattle.std.specs.Prelude.{Result}
use Prim.Native.Nat.{ℕ}
use mathlib.Core.Path.{◌≡◌, sym, ap, ◌∙◌}
use mathlib.Core.List.{List}
use mathlib.Core.Bool.{Bool}
use borrow.Author.Rules.{rules}
use Rattle.tokenizer.specs.declared.State.{State}
use Rattle.ahead.specs.{Seen.seen_at, declared.Ahead.Ahead, declared.Seen.Seen}
use Rattle.header.specs.Header.{behind_query, query_answer, answer_at_leaf, leaf_answer}
use Rattle.header.specs.Internal.{ahead_at, is_ending, refused_by}
use Rattle.error.specs.declared.ErrorCode.{ErrorCode}
use Rattle.header.specs.declared.Header.{Header}

-- at a leaf and after a question mark, by what is ahead

module _ (seen : Seen) (y : Ahead) (q : seen.ahead ≡ y) where
  pub query_by' : (c h : ℕ) (r : Result Header ErrorCode) → r ≡ behind_query c h seen.state y → r ≡ query_answer c h seen
  unfolding query_answer
  query_by' c h r p = p ∙ ap (behind_query c h seen.state) (sym q)

  pub leaf_by' : (s : List ℕ) (c h : ℕ) (r : Result Header ErrorCode) → r ≡ answer_at_leaf s c h seen.state y → r ≡ leaf_answer s c h seen
  unfolding leaf_answer
  leaf_by' s c h r p = p ∙ ap (answer_at_leaf s c h seen.state) (sym q)

pub next_query' : (s : List ℕ) (st : State) (x : Seen) → x ≡ seen_at s st → (c h : ℕ) (r : Result Header ErrorCode) → r ≡ query_answer c h x → r ≡ query_answer c h (seen_at s st)
next_query' s st x e c h r p = rw (← e) p

pub ruleset leaf_laws = (rules, query_by', leaf_by', next_query')

-- whether the header ends, and why it leads nowhere, by what is ahead

module _ (s : List ℕ) (p : ℕ) (c : Bool) (x : Seen) (e : x ≡ ahead_at s p c) (y : Ahead) (q : x.ahead ≡ y) where
  pub ending_by' : (r : Bool) → r ≡ is_ending y → r ≡ is_ending (ahead_at s p c).ahead
  ending_by' r h = h ∙ sym (ap is_ending (ap (λ (z : Seen). z.ahead) (sym e) ∙ q))

  pub refused_by' : (r : Result Header ErrorCode) → r ≡ refused_by y → r ≡ refused_by (ahead_at s p c).ahead
  refused_by' r h = h ∙ sym (ap refused_by (ap (λ (z : Seen). z.ahead) (sym e) ∙ q))

pub ruleset token_laws = (rules, ending_by', refused_by')
