-- There is always a pick, and so always an answer.
use Rattle.std.specs.Prelude.{Result, Option, Some, None}
use Prim.Native.Nat.{ℕ, zero, suc, ◌+◌, ◌-◌, ◌≤◌, ◌<◌}
use mathlib.Core.Path.{◌≡◌, refl}
use mathlib.Core.Logic.{◌⊎◌, inl, inr}
use mathlib.Core.List.{List}
use mathlib.Core.Bool.{Bool, true, false}
use native.Mathlib.Omega.{arith}
use lib.ListN.{length}
use Rattle.kind.proofs.Tests.{clash, less_or_not}
use Rattle.node.specs.Tree.{branch, first, count}
use Rattle.branch.specs.Children.{unsaid_in, Below, Picks, first_one, not_one}
use Rattle.branch.proofs.Picks.{below_in}
use Rattle.token.specs.{View.part_of, declared.View.View}
use Rattle.tokenizer.specs.declared.State.{State}
use Rattle.spoken.specs.Spoken.{spoken_by}
use Rattle.ahead.specs.{Seen.seen_with, Seen.seen_at, declared.Ahead.Ahead, declared.Seen.Seen}
use Rattle.header.specs.Header.{turn_of, Reads, leaf, refused, said, unsaid, unknown, ended, nowhere, is_common, Begins, no_branch, first_refused, no_header, no_question, from_root, common, from_branch}
use Rattle.header.specs.{Turn.Turn}
use Rattle.header.specs.Turn as turn
use Rattle.error.specs.declared.ErrorCode.{ErrorCode}
use Rattle.header.specs.declared.Header.{Header}

module _ (t : List ℕ) (b : ℕ) (p : ℕ → Bool) where
  no_pick : ((j : ℕ) → Below t b j → ⊥) → (x : Option ℕ) × Picks t b p x
  no_pick h = (None, not_one (λ j x. absurd (h j x)))

  module _ (m : branch t b ≡ true) (l : b < first t b) (u : first t b + count t b ≤ length t) where
    -- from a child on, where those before it do not pass
    from : (n k : ℕ) → first t b ≤ k → k + n ≡ first t b + count t b → ((j : ℕ) → Below t b j → j < k → p j ≡ false) → (x : Option ℕ) × Picks t b p x
    from zero k low e before = (None, not_one (λ j x. before j x (omega (arith, x.child.below))))
    from (suc n) k low e before = go (p k) refl (from n (suc k) (omega arith) (omega arith))
      where
        go : (c : Bool) → p k ≡ c → (((j : ℕ) → Below t b j → j < suc k → p j ≡ false) → (x : Option ℕ) × Picks t b p x) → (x : Option ℕ) × Picks t b p x
        go true f rest =
            (Some k, first_one (record { child = record { holder = m; from = low; below = omega arith }; behind = l; within = u }) f before)
        go false f rest = rest (λ j x h. passed j x (less_or_not j k) h)
          where
            passed : (j : ℕ) → Below t b j → (j < k) ⊎ (k ≤ j) → j < suc k → p j ≡ false
            passed j x (inl i) h = before j x i
            passed j x (inr i) h = let z : j ≡ k = omega arith in rw z f

  pub some_pick : (x : Option ℕ) × Picks t b p x
  some_pick = go (branch t b) refl (less_or_not b (first t b)) (less_or_not (length t) (first t b + count t b))
    where
      go : (c : Bool) → branch t b ≡ c → (b < first t b) ⊎ (first t b ≤ b) → (length t < first t b + count t b) ⊎ (first t b + count t b ≤ length t)
          → (x : Option ℕ) × Picks t b p x
      go false m l u = no_pick (λ j x. clash x.child.holder m)
      go true m (inr l) u = no_pick (λ j x. omega (arith, x.behind))
      go true m (inl l) (inl u) = no_pick (λ j x. omega (arith, x.within))
      go true m (inl l) (inr u) = from m l u (count t b) (first t b) (omega arith) refl (λ j x h. absurd (omega (arith, x.child.from)))

-- a child that was picked is nearer to the end of the table than its branch
nearer : {t : List ℕ} {b k f : ℕ} {q : ℕ → Bool} → Picks t b q (Some k) → length t - b < suc f → length t - k < f
nearer (first_one x e h) l = omega (arith, below_in x, x.behind, x.child.from, l)

module _ (t names s : List ℕ) where
  within : (f h n : ℕ) (seen : Seen) → length t - n < f → (r : Result Header ErrorCode) × Reads t names s h n seen r
  within zero h n seen l = absurd (omega arith)
  within (suc f) h n seen l = go (branch t n) refl (within f)
    where
      go : (c : Bool) → branch t n ≡ c → ((h n : ℕ) (seen : Seen) → length t - n < f → (r : Result Header ErrorCode) × Reads t names s h n seen r) → (r : Result Header ErrorCode) × Reads t names s h n seen r
      go false m rest = (_, leaf m)
      go true m rest = at_turn (turn_of s seen) refl
        where
          at_stop : turn_of s seen ≡ turn.Stop → (p : Option ℕ) → Picks t n (unsaid_in t) p → (r : Result Header ErrorCode) × Reads t names s h n seen r
          at_stop e (Some k) x = let z = rest h k seen (nearer x l) in (z.0, ended m e x z.1)
          at_stop e None x = (_, nowhere m e x)

          at_word : (w : View) (st : State) → turn_of s seen ≡ turn.Word w st → (p : Option ℕ) → Picks t n (spoken_by t names (part_of s w)) p
              → (d : Option ℕ) → Picks t n (unsaid_in t) d → (r : Result Header ErrorCode) × Reads t names s h n seen r
          at_word w st e (Some k) x d y = let z = rest n k (seen_at s st) (nearer x l) in (z.0, said m e x z.1)
          at_word w st e None x (Some k) y = let z = rest h k (seen_with (Ahead.Word w) st) (nearer y l) in (z.0, unsaid m e x y z.1)
          at_word w st e None x None y = (_, unknown m e x y)

          at_turn : (x : Turn) → turn_of s seen ≡ x → (r : Result Header ErrorCode) × Reads t names s h n seen r
          at_turn (turn.Refused c) e = (_, refused m e)
          at_turn turn.Stop e = let z = some_pick t n (unsaid_in t) in at_stop e z.0 z.1
          at_turn (turn.Word w st) e =
              let z = some_pick t n (spoken_by t names (part_of s w)) in
              let y = some_pick t n (unsaid_in t) in
              at_word w st e z.0 z.1 y.0 y.1

  some_reading : (h n : ℕ) (seen : Seen) → (r : Result Header ErrorCode) × Reads t names s h n seen r
  some_reading h n seen = within (suc (length t - n)) h n seen (omega arith)

  pub some_beginning : (b : ℕ) (seen : Seen) → (r : Result Header ErrorCode) × Begins t names s b seen r
  some_beginning b seen = go (branch t b) refl seen.ahead refl
    where
      by_star : (w : View) → branch t b ≡ true → seen.ahead ≡ Ahead.Word w → (c : Bool) → is_common s w ≡ c → (r : Result Header ErrorCode) × Begins t names s b seen r
      by_star w m e true f = let z = some_reading 0 0 seen in (_, common m e f z.1)
      by_star w m e false f = let z = some_reading b b seen in (z.0, from_branch m e f z.1)

      go : (c : Bool) → branch t b ≡ c → (x : Ahead) → seen.ahead ≡ x → (r : Result Header ErrorCode) × Begins t names s b seen r
      go false m x e = (_, no_branch m)
      go true m (Ahead.Refused c) e = (_, first_refused m e)
      go true m (Ahead.Stop x) e = (_, no_header m e)
      go true m Ahead.Query e = (_, no_question m e)
      go true m Ahead.Colon e = let z = some_reading 0 0 (seen_at s seen.state) in (z.0, from_root m e z.1)
      go true m (Ahead.Word w) e = by_star w m e (is_common s w) refl
