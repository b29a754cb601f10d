-- Laws of the front of a header, as the code meets them.
use Rattle.std.specs.Prelude.{Result, Ok, Err, Option, Some, None}
use Prim.Native.Nat.{ℕ, zero, suc, ◌+◌, ◌-◌, ◌≤◌, ◌<◌, zero-le, suc-le-suc}
use mathlib.Core.Path.{◌≡◌, refl, sym, ap, subst, ◌∙◌}
use mathlib.Core.Logic.{⊎_elim}
use mathlib.Core.List.{List, [], ◌∷◌}
use mathlib.Core.Bool.{Bool, true, false, not, ◌&&◌, ◌||◌}
use native.Mathlib.Omega.{arith}
use lib.Dec.{leb}
use lib.ListN.{length, get_or, take, drop}
use borrow.Author.Rules.{rules}
use borrow.Author.Tests.{le-leb, not-true, not-false}
use Rattle.error.specs.declared.ErrorCode.{ErrorCode}
use Rattle.kind.specs.Class.{is_letter, is_capital, is_small, in_mnemonic}
use Rattle.kind.proofs.Tests.{both_ways, by_test, clash, less_or_not}
use Rattle.util.specs.Run.{stands_at}
use Rattle.node.specs.{Word.is_branch, Tree.branch}
use Rattle.node.proofs.Laws.{past_table}
use Rattle.token.specs.{View.part_of, View.view_of, declared.View.View, declared.Token.Token}
use Rattle.item.specs.{Word.star_end, Word.mnemonic, Follow.refused}
use Rattle.forms.proofs.ItemAccepted.{run_most}
use Rattle.tokenizer.specs.{Step.state_of, declared.State.State}
use Rattle.ahead.specs.{Seen.seen_with, Seen.seen_at, declared.Stop.Stop, declared.Ahead.Ahead, declared.Seen.Seen}
use Rattle.spoken.specs.Spoken.{is_letter_at}
use Rattle.header.specs.Header.{undefined, behind_query, query_answer, answer_at_leaf, leaf_answer, at_branch, turn_of, Reads, leaf, keeping, Begins, no_branch, first_refused, no_header, no_question, from_root, common, from_branch}
use Rattle.header.specs.Header as headers
use Rattle.header.specs.Internal.{ahead_at, begins, goes_on, front_of, kept_by, refused_by, bare, Arrives, arrives, strays, RootLeaf, root_leaf, root_branch, Empty, found, not_found, Otherwise}
use Rattle.header.proofs.Places.{inside, there, stands, letter_there}
use Rattle.header.proofs.Mnemonics.{mnemonic_next, met, refused_ahead, word_ahead, letter_next, colon_ahead, star_refused, star_word}
use Rattle.header.proofs.{Settled.settles, Settled.lost, Walks.some_byte, Once.one_reading}
use Rattle.header.proofs.Inverse.{no_mnemonic, last_colon, colon_place}
use Rattle.header.specs.declared.Front.{Front}
use Rattle.header.specs.declared.Header.{Header}

-- the branch of a leaf's answer is the one that it is asked to keep
kept_leaf : (s : List ℕ) (w g b : ℕ) (y : Seen) → keeping b (leaf_answer s w g y) ≡ leaf_answer s w b y
unfolding leaf_answer query_answer
kept_leaf s w g b y = go y.ahead
  where
    after : (st : State) (a : Ahead) → keeping b (behind_query w g st a) ≡ behind_query w b st a
    after st (Ahead.Stop x) = refl
    after st (Ahead.Refused e) = refl
    after st Ahead.Query = refl
    after st (Ahead.Word v) = refl
    after st Ahead.Colon = refl

    go : (a : Ahead) → keeping b (answer_at_leaf s w g y.state a) ≡ answer_at_leaf s w b y.state a
    go (Ahead.Stop x) = refl
    go (Ahead.Refused e) = refl
    go Ahead.Query = after (seen_at s y.state).state (seen_at s y.state).ahead
    go (Ahead.Word v) = refl
    go Ahead.Colon = refl

kept_refusal : (b : ℕ) (a : Ahead) → keeping b (refused_by a) ≡ refused_by a
kept_refusal b (Ahead.Refused e) = refl
kept_refusal b (Ahead.Stop x) = refl
kept_refusal b Ahead.Query = refl
kept_refusal b (Ahead.Word v) = refl
kept_refusal b Ahead.Colon = refl

-- a mnemonic that a letter begins has no star

first_of : (n p : ℕ) (s : List ℕ) → stands_at 42 (take n (drop p s)) 0 ≡ true → get_or s p 0 ≡ 42
unfolding stands_at
first_of zero p s h = clash h refl
first_of (suc n) zero [] h = clash h refl
first_of (suc n) zero (c ∷ s) h = there (c ∷ take n s) 0 42 h
first_of (suc n) (suc p) [] h = clash h refl
first_of (suc n) (suc p) (c ∷ s) h = first_of (suc n) p s h

no_star : (s : List ℕ) (p : ℕ) → is_letter (get_or s p 0) ≡ true → (e : ℕ) → stands_at 42 (part_of s (view_of p e)) 0 ≡ false
unfolding part_of stands_at is_letter is_capital is_small
no_star s p l e =
    by_test (λ (x : List ℕ). stands_at 42 x 0 ≡ false) (leb e (length s) && leb p e)
    (λ _. both_ways (stands_at 42 (take (e - p) (drop p s)) 0) false (λ h. rw (first_of (e - p) p s h) at l) (λ h. clash h refl)) (λ _. refl)

-- and one that a star begins has it

star_first : (n p : ℕ) (s : List ℕ) → stands_at 42 s p ≡ true → stands_at 42 (take (suc n) (drop p s)) 0 ≡ true
unfolding stands_at
star_first n zero [] h = clash h refl
star_first n zero (c ∷ s) h = stands (c ∷ take n s) 0 42 (suc-le-suc zero-le) (there (c ∷ s) 0 42 h)
star_first n (suc p) [] h = absurd (omega (arith, inside [] (suc p) 42 h))
star_first n (suc p) (c ∷ s) h = star_first n p s (stands s p 42 (omega (arith, inside (c ∷ s) (suc p) 42 h)) (there (c ∷ s) (suc p) 42 h))

module _ (s : List ℕ) (p : ℕ) (w : stands_at 42 s p ≡ true) where
  star_part : (e : ℕ) → p < e → e ≤ length s → stands_at 42 (part_of s (view_of p e)) 0 ≡ true
  unfolding part_of
  star_part e l h = rw (le-leb e (length s) h, le-leb p e (omega (arith, l))) (go (e - p) (omega (arith, l)))
    where
      go : (n : ℕ) → 0 < n → stands_at 42 (take n (drop p s)) 0 ≡ true
      go zero z = absurd (omega (arith, z))
      go (suc n) z = star_first n p s w

  star_inside : (k : Token) (next : ℕ) → mnemonic s p ≡ Ok (k, next) → next ≤ length s
  unfolding star_end
  star_inside k next e =
      let z = (mnemonic_next s p k next e).0 in
      rw (← z, w) (run_most s in_mnemonic (p + 1) (omega (arith, inside s p 42 w)))

-- a token that is refused refuses the header, at a leaf too
from_refused : (t names s : List ℕ) (h n : ℕ) (seen : Seen) (e : ErrorCode) → seen.ahead ≡ Ahead.Refused e → Reads t names s h n seen (Err e)
unfolding leaf_answer turn_of
from_refused t names s h n seen e q = go (branch t n) refl
  where
    go : (c : Bool) → branch t n ≡ c → Reads t names s h n seen (Err e)
    go true m = headers.refused m (ap (at_branch s seen.state) q)
    go false m =
        let there : Reads t names s h n seen (leaf_answer s (get_or t n 0) h seen) = leaf m in
        rw (ap (answer_at_leaf s (get_or t n 0) h seen.state) q) at there

-- where a header begins with a mnemonic

data Begun (s : List ℕ) (b at : ℕ) : ℕ → ℕ → Bool → Type 0 where
  letter : is_letter_at s at ≡ true → Begun s b at b at false
  colon : goes_on s at ≡ true → Begun s b at 0 (at + 1) false
  star : stands_at 42 s at ≡ true → Begun s b at 0 at true

abbrev Fits : List ℕ → ℕ → ℕ → Option Front → Type 0
Fits s b at (Some h) = Begun s b at h.node h.place h.star
Fits s b at None = bare s at ≡ true

fits : (s : List ℕ) (b at : ℕ) → Fits s b at (front_of s b at)
unfolding front_of bare
fits s b at =
    by_test (Fits s b at) (is_letter_at s at) letter
    (λ e. by_test (Fits s b at) (goes_on s at) colon
    (λ f. by_test (Fits s b at) (stands_at 42 s at) star (λ g. rw (e, f, g))))

module _ (s : List ℕ) (b at : ℕ) (f : Option Front) (ef : f ≡ front_of s b at) where
  fit : (x : Option Front) → f ≡ x → Fits s b at x
  fit x q = subst (Fits s b at) (sym ef ∙ q) (fits s b at)

  pub is_bare' : f ≡ None → bare s at ≡ true
  is_bare' q = fit None q

  is_begun : (x : Front) → f ≡ Some x → Begun s b at x.node x.place x.star
  is_begun x q = fit (Some x) q

  pub begins' : (x : Front) → f ≡ Some x → begins x.star s x.place ≡ true
  begins' x q = go (is_begun x q)
    where
      go : {n p : ℕ} {c : Bool} → Begun s b at n p c → begins c s p ≡ true
      go (letter w) = w
      go (colon g) = letter_next s at g
      go (star w) = w

-- the same answer; of a common command, with the branch b kept
abbrev keeping_if : Bool → ℕ → Result Header ErrorCode → Result Header ErrorCode
keeping_if true b r = keeping b r
keeping_if false b r = r

module _ (t names s : List ℕ) (b at : ℕ) (held : branch t b ≡ true) where
  along : {x y : Seen} {r : Result Header ErrorCode} → x ≡ y → Begins t names s b x r → Begins t names s b y r
  along e o = rw e at o

  begun_letter : {r : Result Header ErrorCode} → is_letter_at s at ≡ true → ((h : ℕ) → Reads t names s h b (ahead_at s at false) r) → Begins t names s b (ahead_at s at false) r
  begun_letter {r} w o = go (mnemonic s at) refl
    where
      go : (x : Result (Token × ℕ) ErrorCode) → mnemonic s at ≡ x → Begins t names s b (ahead_at s at false) r
      go (Ok (k, next)) q =
          from_branch held (sym (ap (λ (y : Seen). y.ahead) (word_ahead s at false (met s at false w) k next q))) (no_star s at (letter_there s at w).1 next) (o b)
      go (Err e) q =
          let a : (ahead_at s at false).ahead ≡ Ahead.Refused e = sym (ap (λ (y : Seen). y.ahead) (refused_ahead s at false (met s at false w) e q)) in
          rw (one_reading (o b) (from_refused t names s b b (ahead_at s at false) e a)) (first_refused held a)

  begun_colon : {r : Result Header ErrorCode} → goes_on s at ≡ true → ((h : ℕ) → Reads t names s h 0 (ahead_at s (at + 1) false) r) → Begins t names s b (ahead_at s at false) r
  begun_colon g o = along (colon_ahead s at g) (from_root held refl (o 0))

  begun_star : {r : Result Header ErrorCode} → stands_at 42 s at ≡ true → ((h : ℕ) → Reads t names s h 0 (ahead_at s at true) r) → Begins t names s b (ahead_at s at false) (keeping b r)
  begun_star {r} w o = go (mnemonic s at) refl
    where
      go : (x : Result (Token × ℕ) ErrorCode) → mnemonic s at ≡ x → Begins t names s b (ahead_at s at false) (keeping b r)
      go (Ok (k, next)) q =
          let same : ahead_at s at true ≡ ahead_at s at false = sym (star_word s at true w k next q) ∙ star_word s at false w k next q in
          common held (sym (ap (λ (y : Seen). y.ahead) (star_word s at false w k next q))) (star_part s at w next (some_byte s at true w k next q) (star_inside s at w k next q))
          (rw same at (o 0))
      go (Err e) q =
          let a : (ahead_at s at true).ahead ≡ Ahead.Refused e = sym (ap (λ (y : Seen). y.ahead) (star_refused s at true w e q)) in
          rw (one_reading (o 0) (from_refused t names s 0 0 (ahead_at s at true) e a))
          (first_refused held (sym (ap (λ (y : Seen). y.ahead) (star_refused s at false w e q))))

  begun : {n p : ℕ} {c : Bool} {r : Result Header ErrorCode} → Begun s b at n p c → ((h : ℕ) → Reads t names s h n (ahead_at s p c) r) → Begins t names s b (ahead_at s at false) (keeping_if c b r)
  begun (letter w) o = begun_letter w o
  begun (colon g) o = begun_colon g o
  begun (star w) o = begun_star w o

-- the answer of the walk is the header's

keep_leaf : (s : List ℕ) (w g b : ℕ) (y : Seen) (c : Bool) → keeping_if c b (leaf_answer s w g y) ≡ leaf_answer s w (kept_by c b g) y
unfolding kept_by
keep_leaf s w g b y true = kept_leaf s w g b y
keep_leaf s w g b y false = refl

keep_refusal : (b : ℕ) (a : Ahead) (c : Bool) → keeping_if c b (refused_by a) ≡ refused_by a
keep_refusal b a true = kept_refusal b a
keep_refusal b a false = refl

module _ (t names s : List ℕ) (b at : ℕ) (c : Bool) (ec : c ≡ is_branch (get_or t b 0)) where
  pub no_start' : not c ≡ true → Begins t names s b (ahead_at s at false) (Err ErrorCode.StartIsNoBranch)
  no_start' q = no_branch (sym ec ∙ not-true c q)

  module _ (q : not c ≡ false) (f : Option Front) (ef : f ≡ front_of s b at) where
    pub other' : (r : Result Header ErrorCode) → Otherwise t s at r → Begins t names s b (ahead_at s at false) r
    unfolding Otherwise
    other' r o = o names b (sym ec ∙ not-false c q)

    module _ (x : Front) (e : f ≡ Some x) (k kept place : ℕ) (d : Bool) (z : Arrives t names s x.node x.place x.star k kept place d) where
      answered : {r : Result Header ErrorCode} → ((h : ℕ) → Reads t names s h x.node (ahead_at s x.place x.star) r) → Begins t names s b (ahead_at s at false) (keeping_if x.star b r)
      answered o = begun t names s b at (sym ec ∙ not-false c q) (is_begun s b at f ef x e) o

      pub refused' : k ≡ length t → (r : Result Header ErrorCode) → r ≡ refused_by (ahead_at s place d).ahead → Begins t names s b (ahead_at s at false) r
      refused' l r er = rw er (go z l)
        where
          go : {k kept place : ℕ} {d : Bool} → Arrives t names s x.node x.place x.star k kept place d → k ≡ length t → Begins t names s b (ahead_at s at false) (refused_by (ahead_at s place d).ahead)
          go (arrives i o) l = absurd (omega arith)
          go {place = place} {d} (strays o) l = rw (keep_refusal b (ahead_at s place d).ahead x.star) at (answered o)

      module _ (l : k ≡ length t → ⊥) where
        pub leaf_in' : k < length t
        leaf_in' = go z l
          where
            go : {k kept place : ℕ} {d : Bool} → Arrives t names s x.node x.place x.star k kept place d → (k ≡ length t → ⊥) → k < length t
            go (arrives i o) l = i
            go (strays o) l = absurd (l refl)

        pub found' : (g : ℕ) → g ≡ kept_by x.star b kept → (r : Result Header ErrorCode) → r ≡ leaf_answer s (get_or t k 0) g (ahead_at s place d) → Begins t names s b (ahead_at s at false) r
        found' g eg r er = rw (er, eg) (go z l)
          where
            go : {k kept place : ℕ} {d : Bool} → Arrives t names s x.node x.place x.star k kept place d → (k ≡ length t → ⊥)
                → Begins t names s b (ahead_at s at false) (leaf_answer s (get_or t k 0) (kept_by x.star b kept) (ahead_at s place d))
            go {k} {kept} {place} {d} (arrives i o) l = rw (keep_leaf s (get_or t k 0) kept b (ahead_at s place d) x.star) at (answered o)
            go (strays o) l = absurd (l refl)

pub ruleset read_laws = (rules, is_bare', begins', no_start', other', refused', leaf_in', found')

-- a node that is no branch leads nowhere
pub no_branch' : (t names s : List ℕ) (n at : ℕ) (c : Bool) → begins c s at ≡ true → (b : Bool) → b ≡ is_branch (get_or t n 0) → not b ≡ true → (kept : ℕ)
    → Arrives t names s n at c (length t) kept at c
unfolding leaf_answer
no_branch' t names s n at c w b e q kept = strays go
  where
    go : (h : ℕ) → Reads t names s h n (ahead_at s at c) (refused_by (ahead_at s at c).ahead)
    go h = by (mnemonic s at) refl
      where
        there : Reads t names s h n (ahead_at s at c) (leaf_answer s (get_or t n 0) h (ahead_at s at c))
        there = leaf (sym e ∙ not-true b q)

        along : {y : Seen} → y ≡ ahead_at s at c → leaf_answer s (get_or t n 0) h y ≡ refused_by y.ahead → Reads t names s h n (ahead_at s at c) (refused_by (ahead_at s at c).ahead)
        along i j = rw (sym (ap (leaf_answer s (get_or t n 0) h) i) ∙ j ∙ ap (λ (y : Seen). refused_by y.ahead) i) at there

        by : (x : Result (Token × ℕ) ErrorCode) → mnemonic s at ≡ x → Reads t names s h n (ahead_at s at c) (refused_by (ahead_at s at c).ahead)
        by (Ok (k, next)) f = along (word_ahead s at c (met s at c w) k next f) refl
        by (Err o) f = along (refused_ahead s at c (met s at c w) o f) refl

pub is_branch' : (t : List ℕ) (n : ℕ) (b : Bool) → b ≡ is_branch (get_or t n 0) → not b ≡ false → branch t n ≡ true
is_branch' t n b e q = sym e ∙ not-false b q

pub ruleset lead_laws = (rules, no_branch', is_branch')

-- without a mnemonic

module _ (s : List ℕ) (at : ℕ) (e : bare s at ≡ true) where
  bare_parts : (is_letter_at s at ≡ false) × (goes_on s at ≡ false) × (stands_at 42 s at ≡ false)
  unfolding bare
  bare_parts = go (is_letter_at s at) (goes_on s at) (stands_at 42 s at) e
    where
      go : (x y z : Bool) → not (x || (y || z)) ≡ true → (x ≡ false) × (y ≡ false) × (z ≡ false)
      go true y z f = clash f refl
      go false true z f = clash f refl
      go false false true f = clash f refl
      go false false false f = (refl, refl, refl)

  module _ (t : List ℕ) (x : Seen) (ex : x ≡ ahead_at s at false) where
    is_ahead : {a : Ahead} → x.ahead ≡ a → (ahead_at s at false).ahead ≡ a
    is_ahead q = ap (λ (y : Seen). y.ahead) (sym ex) ∙ q

    pub none_refused' : (c : ErrorCode) → x.ahead ≡ Ahead.Refused c → Otherwise t s at (Err c)
    unfolding Otherwise
    none_refused' c q names b m = first_refused m (is_ahead q)

    pub none_stop' : (y : Stop) → x.ahead ≡ Ahead.Stop y → Otherwise t s at (Err ErrorCode.SyntaxError)
    unfolding Otherwise
    none_stop' y q names b m = no_header m (is_ahead q)

    pub none_query' : x.ahead ≡ Ahead.Query → Otherwise t s at (Err ErrorCode.SyntaxError)
    unfolding Otherwise
    none_query' q names b m = no_question m (is_ahead q)

    pub none_word' : (v : View) → x.ahead ≡ Ahead.Word v → Otherwise t s at (Err ErrorCode.SyntaxError)
    none_word' v q = no_mnemonic s at false bare_parts.0 bare_parts.2 (is_ahead q)

    module _ (q : x.ahead ≡ Ahead.Colon) where
      last : (length s ≤ at + 1) × (seen_with (Ahead.Stop Stop.Text) (state_of (at + 1) true false) ≡ seen_at s (ahead_at s at false).state)
      last = last_colon s at false (is_ahead q) bare_parts.1

      -- the end of the text is there, at the place after the colon
      ends : (p : ℕ) → p ≡ x.state.place → seen_with (Ahead.Stop Stop.Text) (state_of p true false) ≡ seen_at s (ahead_at s at false).state
      ends p ep =
          let z : p ≡ at + 1 = ep ∙ ap (λ (y : Seen). y.state.place) ex ∙ colon_place s at false (is_ahead q) in
          rw z last.1

      pub none_colon' : (p : ℕ) → p ≡ x.state.place → (r : Result Header ErrorCode) → Empty t p r → Otherwise t s at r
      unfolding Otherwise turn_of leaf_answer
      none_colon' p ep r o names b m = from_root m (is_ahead q) (rw (ends p ep) at (go o))
        where
          seen : Seen
          seen = seen_with (Ahead.Stop Stop.Text) (state_of p true false)

          some : b < length t
          some = ⊎_elim (λ l. l) (λ l. clash m (past_table t b l)) (less_or_not b (length t))

          nowhere : {k : ℕ} → k ≡ length t → RootLeaf t k → Reads t names s 0 0 seen undefined
          nowhere l (root_leaf i) = absurd (omega (arith, some))
          nowhere l (root_branch i z) = lost refl i l z

          at_leaf : {k : ℕ} → k < length t → RootLeaf t k → Reads t names s 0 0 seen (leaf_answer s (get_or t k 0) 0 seen)
          at_leaf l (root_leaf i) = leaf i
          at_leaf l (root_branch i z) = settles refl i l z

          go : {r : Result Header ErrorCode} → Empty t p r → Reads t names s 0 0 seen r
          go (found z l) = at_leaf l z
          go (not_found z) = nowhere refl z

pub ruleset other_laws = (rules, none_refused', none_stop', none_query', none_word', none_colon')
