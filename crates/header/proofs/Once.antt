-- One answer only: the answer to a header is determined by table, start and text.
use Rattle.std.specs.Prelude.{Result, Err, Some, None}
use Prim.Native.Nat.{ℕ}
use mathlib.Core.Path.{◌≡◌, refl, sym, ap, subst, ◌∙◌}
use mathlib.Core.List.{List}
use mathlib.Core.Bool.{Bool, true, false}
use lib.ListN.{get_or}
use Rattle.error.specs.declared.ErrorCode.{ErrorCode}
use Rattle.kind.proofs.Tests.{clash}
use Rattle.node.specs.Tree.{branch}
use Rattle.branch.specs.Children.{unsaid_in, Picks}
use Rattle.branch.proofs.Once.{one_child, no_child}
use Rattle.token.specs.{View.part_of, declared.View.View}
use Rattle.tokenizer.specs.declared.State.{State}
use Rattle.spoken.specs.Spoken.{spoken_by}
use Rattle.ahead.specs.{Seen.seen_with, Seen.seen_at, declared.Stop.Stop, declared.Ahead.Ahead, declared.Seen.Seen}
use Rattle.header.specs.Header.{leaf_answer, turn_of, undefined, Reads, leaf, refused, said, unsaid, unknown, ended, nowhere, is_common, keeping, Begins, no_branch, first_refused, no_header, no_question, from_root, common, from_branch}
use Rattle.header.specs.{Turn.Turn}
use Rattle.header.specs.Turn as turn
use Rattle.header.specs.declared.Header.{Header}

-- the answer at a branch, by what the header goes on with there
data Turned (t names s : List ℕ) (h n : ℕ) (seen : Seen) : Turn → Result Header ErrorCode → Type 0 where
  refused_here : {e : ErrorCode} → Turned t names s h n seen (turn.Refused e) (Err e)
  spoken : {w : View} {st : State} {k : ℕ} {r : Result Header ErrorCode} → Picks t n (spoken_by t names (part_of s w)) (Some k) → Reads t names s n k (seen_at s st) r
      → Turned t names s h n seen (turn.Word w st) r
  passed : {w : View} {st : State} {k : ℕ} {r : Result Header ErrorCode} → Picks t n (spoken_by t names (part_of s w)) None → Picks t n (unsaid_in t) (Some k)
      → Reads t names s h k (seen_with (Ahead.Word w) st) r → Turned t names s h n seen (turn.Word w st) r
  missed : {w : View} {st : State} → Picks t n (spoken_by t names (part_of s w)) None → Picks t n (unsaid_in t) None
      → Turned t names s h n seen (turn.Word w st) undefined
  over : {k : ℕ} {r : Result Header ErrorCode} → Picks t n (unsaid_in t) (Some k) → Reads t names s h k seen r → Turned t names s h n seen turn.Stop r
  none : Picks t n (unsaid_in t) None → Turned t names s h n seen turn.Stop undefined

module _ {t names s : List ℕ} {h n : ℕ} {seen : Seen} where
  turned : {r : Result Header ErrorCode} → branch t n ≡ true → Reads t names s h n seen r → Turned t names s h n seen (turn_of s seen) r
  turned m (leaf l) = clash m l
  turned m (refused _ e) = rw e refused_here
  turned m (said _ e k r) = rw e (spoken k r)
  turned m (unsaid _ e k d r) = rw e (passed k d r)
  turned m (unknown _ e k d) = rw e (missed k d)
  turned m (ended _ e d r) = rw e (over d r)
  turned m (nowhere _ e d) = rw e (none d)

  at_turn : {r : Result Header ErrorCode} {x : Turn} → branch t n ≡ true → turn_of s seen ≡ x → Reads t names s h n seen r → Turned t names s h n seen x r
  at_turn m e y = rw e at (turned m y)

  at_leaf : {r : Result Header ErrorCode} → branch t n ≡ false → Reads t names s h n seen r → r ≡ leaf_answer s (get_or t n 0) h seen
  at_leaf m (leaf l) = refl
  at_leaf m (refused l e) = clash l m
  at_leaf m (said l e k r) = clash l m
  at_leaf m (unsaid l e k d r) = clash l m
  at_leaf m (unknown l e k d) = clash l m
  at_leaf m (ended l e d r) = clash l m
  at_leaf m (nowhere l e d) = clash l m

  -- by a turn that is known, what is left is one thing only
  is_refused : {e : ErrorCode} {r : Result Header ErrorCode} → Turned t names s h n seen (turn.Refused e) r → Err e ≡ r
  is_refused refused_here = refl

  is_said : {w : View} {st : State} {k : ℕ} {r : Result Header ErrorCode} → Picks t n (spoken_by t names (part_of s w)) (Some k) → Turned t names s h n seen (turn.Word w st) r
      → Reads t names s n k (seen_at s st) r
  is_said k (spoken j y) = rw (one_child k j) y
  is_said k (passed j d y) = no_child k j
  is_said k (missed j d) = no_child k j

  is_unsaid : {w : View} {st : State} {k : ℕ} {r : Result Header ErrorCode} → Picks t n (spoken_by t names (part_of s w)) None → Picks t n (unsaid_in t) (Some k)
      → Turned t names s h n seen (turn.Word w st) r → Reads t names s h k (seen_with (Ahead.Word w) st) r
  is_unsaid k d (spoken j y) = no_child j k
  is_unsaid k d (passed j c y) = rw (one_child d c) y
  is_unsaid k d (missed j c) = no_child d c

  is_unknown : {w : View} {st : State} {r : Result Header ErrorCode} → Picks t n (spoken_by t names (part_of s w)) None → Picks t n (unsaid_in t) None
      → Turned t names s h n seen (turn.Word w st) r → undefined ≡ r
  is_unknown k d (spoken j y) = no_child j k
  is_unknown k d (passed j c y) = no_child c d
  is_unknown k d (missed j c) = refl

  is_ended : {k : ℕ} {r : Result Header ErrorCode} → Picks t n (unsaid_in t) (Some k) → Turned t names s h n seen turn.Stop r → Reads t names s h k seen r
  is_ended d (over c y) = rw (one_child d c) y
  is_ended d (none c) = no_child d c

  is_nowhere : {r : Result Header ErrorCode} → Picks t n (unsaid_in t) None → Turned t names s h n seen turn.Stop r → undefined ≡ r
  is_nowhere d (over c y) = no_child c d
  is_nowhere d (none c) = refl

pub one_reading : {t names s : List ℕ} {h n : ℕ} {seen : Seen} {r r' : Result Header ErrorCode} → Reads t names s h n seen r → Reads t names s h n seen r' → r ≡ r'
one_reading (leaf m) y = sym (at_leaf m y)
one_reading (refused m e) y = is_refused (at_turn m e y)
one_reading (said m e k x) y = one_reading x (is_said k (at_turn m e y))
one_reading (unsaid m e k d x) y = one_reading x (is_unsaid k d (at_turn m e y))
one_reading (unknown m e k d) y = is_unknown k d (at_turn m e y)
one_reading (ended m e d x) y = one_reading x (is_ended d (at_turn m e y))
one_reading (nowhere m e d) y = is_nowhere d (at_turn m e y)

-- the header of a unit, by what it begins with
pub data Began (t names s : List ℕ) (b : ℕ) (seen : Seen) : Ahead → Result Header ErrorCode → Type 0 where
  refused_first : {e : ErrorCode} → Began t names s b seen (Ahead.Refused e) (Err e)
  stopped : {x : Stop} → Began t names s b seen (Ahead.Stop x) (Err ErrorCode.SyntaxError)
  asked : Began t names s b seen Ahead.Query (Err ErrorCode.SyntaxError)
  at_root : {r : Result Header ErrorCode} → Reads t names s 0 0 (seen_at s seen.state) r → Began t names s b seen Ahead.Colon r
  starred : {w : View} {r : Result Header ErrorCode} → is_common s w ≡ true → Reads t names s 0 0 seen r → Began t names s b seen (Ahead.Word w) (keeping b r)
  plain : {w : View} {r : Result Header ErrorCode} → is_common s w ≡ false → Reads t names s b b seen r → Began t names s b seen (Ahead.Word w) r

module _ {t names s : List ℕ} {b : ℕ} {seen : Seen} where
  told : {r : Result Header ErrorCode} {x y : Ahead} → x ≡ y → Began t names s b seen y r → Began t names s b seen x r
  told {r} e z = subst (λ (x : Ahead). Began t names s b seen x r) (sym e) z

  began : {r : Result Header ErrorCode} → branch t b ≡ true → Begins t names s b seen r → Began t names s b seen seen.ahead r
  began m (no_branch l) = clash m l
  began m (first_refused _ e) = told e refused_first
  began m (no_header _ e) = told e stopped
  began m (no_question _ e) = told e asked
  began m (from_root _ e r) = told e (at_root r)
  began m (common _ e c r) = told e (starred c r)
  began m (from_branch _ e c r) = told e (plain c r)

  pub began_at : {r : Result Header ErrorCode} {x : Ahead} → branch t b ≡ true → seen.ahead ≡ x → Begins t names s b seen r → Began t names s b seen x r
  began_at m e y = told (sym e) (began m y)

  one_beginning : {x : Ahead} {r r' : Result Header ErrorCode} → Began t names s b seen x r → Began t names s b seen x r' → r ≡ r'
  one_beginning refused_first refused_first = refl
  one_beginning stopped stopped = refl
  one_beginning asked asked = refl
  one_beginning (at_root x) (at_root y) = one_reading x y
  one_beginning (starred c x) (starred d y) = ap (keeping b) (one_reading x y)
  one_beginning (starred c x) (plain d y) = clash c d
  one_beginning (plain c x) (starred d y) = clash d c
  one_beginning (plain c x) (plain d y) = one_reading x y

  no_start : {r : Result Header ErrorCode} → branch t b ≡ false → Begins t names s b seen r → Err ErrorCode.StartIsNoBranch ≡ r
  no_start m (no_branch l) = refl
  no_start m (first_refused l e) = clash l m
  no_start m (no_header l e) = clash l m
  no_start m (no_question l e) = clash l m
  no_start m (from_root l e r) = clash l m
  no_start m (common l e c r) = clash l m
  no_start m (from_branch l e c r) = clash l m

  pub one_begins : (r r' : Result Header ErrorCode) → Begins t names s b seen r → Begins t names s b seen r' → r ≡ r'
  one_begins r r' x y = go (branch t b) refl
    where
      go : (a : Bool) → branch t b ≡ a → r ≡ r'
      go true m = one_beginning (began m x) (began m y)
      go false m = sym (no_start m x) ∙ no_start m y
