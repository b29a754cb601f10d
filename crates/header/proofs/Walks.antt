-- Laws of the walk down the tree, as the code meets them.
use Rattle.std.specs.Prelude.{Result, Ok, Err, Option, Some, None}
use Prim.Native.Nat.{ℕ, ◌+◌, ◌-◌, ◌<◌}
use mathlib.Core.Path.{◌≡◌, refl, sym, ap, subst, ◌∙◌}
use mathlib.Core.Logic.{◌⊎◌, inl, inr}
use mathlib.Core.List.{List}
use mathlib.Core.Bool.{Bool, true, false, not, cond, ◌&&◌, ◌||◌, true≢false}
use native.Mathlib.Omega.{arith}
use lib.Dec.{leb, ltb}
use lib.ListN.{length, get_or}
use borrow.Author.Rules.{rules}
use borrow.Author.Tests.{not-true, not-false, leb-false, ltb-true, lt-ltb}
use Rattle.error.specs.declared.ErrorCode.{ErrorCode}
use Rattle.kind.specs.Class.{is_letter, is_digit, is, in_mnemonic}
use Rattle.kind.proofs.Tests.{both_ways, clash, and_left, and_right, or_left}
use Rattle.util.specs.Run.{run_end, stands_at}
use Rattle.util.proofs.Runs.{run_again, run_more, run_from}
use Rattle.mnemonic.specs.Mnemonic.{matches}
use Rattle.node.specs.{Word.is_branch, Tree.branch, Tree.name_of}
use Rattle.branch.specs.Children.{unsaid_in, Picks, PicksIn, first_in, none_in}
use Rattle.branch.specs.{Block.children_of, declared.Block.Block}
use Rattle.branch.proofs.Picks.{deeper}
use Rattle.token.specs.{View.part_of, View.view_of, declared.Token.Token, declared.Token.TheVariants.ProgramMnemonic}
use Rattle.item.specs.{Follow.refused, Word.star_end, Word.mnemonic}
use Rattle.forms.proofs.ItemProgress.{header_behind, common_behind}
use Rattle.tokenizer.specs.Step.{state_of}
use Rattle.ahead.specs.{Seen.seen_with, declared.Ahead.Ahead, declared.Seen.Seen}
use Rattle.spoken.specs.Spoken.{is_letter_at, spelled_as, spelled_at, spoken_by, Spells, first_spelled, none_spelled}
use Rattle.header.specs.Turn as turn
use Rattle.header.specs.Header.{undefined, leaf_answer, at_branch, behind_colon, turn_of, Reads, leaf, said, unsaid, unknown, ended, nowhere}
use Rattle.header.specs.Header as headers
use Rattle.header.specs.Internal.{ahead_at, begins, goes_on, after_byte, ends_at, is_ending, refused_by, Settles, Arrives, arrives, strays}
use Rattle.header.proofs.Places.{inside, there, letter_there, after_colon}
use Rattle.header.proofs.Mnemonics.{mnemonic_next, mnemonic_read, met, refused_ahead, word_ahead, turn_refused, turn_word, colon_there, letter_next, colon_turn, star_turn, colon_refused}
use Rattle.header.proofs.Endings.{ends_so, ending_turn, ending_refused}
use Rattle.header.proofs.Settled.{picked, settled_in, settles, lost}
use Rattle.header.proofs.Inverse.{no_mnemonic, last_colon, not_common}
use Rattle.header.proofs.Once.{one_reading}
use Rattle.header.specs.declared.Header.{Header}

-- what the matcher says of a name

-- a mnemonic that spells a name is read up to there, has a character at least, and matches the name
pub record Told (x s : List ℕ) (at next : ℕ) : Type 0 where
  pub read : mnemonic s at ≡ Ok (ProgramMnemonic (view_of at next), next)
  pub some : at < next
  pub match : matches x (part_of s (view_of at next)) ≡ true

spells_so : (x s : List ℕ) (at next : ℕ) → spelled_at x s at ≡ Some next → Told x s at next
unfolding spelled_at
spells_so x s at next e = go (mnemonic s at) refl e
  where
    go : (r : Result (Token × ℕ) ErrorCode) → mnemonic s at ≡ r → spelled_as x s at r ≡ Some next → Told x s at next
    go (Err c) q f = let z : ◌≡◌ {A = ℕ} 0 1 = cc in absurd (omega arith)
    go (Ok (k, n)) q f = by (ltb at n && matches x (part_of s (view_of at n))) refl f
      where
        by : (b : Bool) → (ltb at n && matches x (part_of s (view_of at n))) ≡ b → cond b (Some n) None ≡ Some next → Told x s at next
        by false g i = let z : ◌≡◌ {A = ℕ} 0 1 = cc in absurd (omega arith)
        by true g i =
            let so : Told x s at n =
            record {
              read = q ∙ ap (λ (z : Token). Ok (z, n)) (sym (mnemonic_read s at k n q));
              some = ltb-true at n (and_left (ltb at n) (matches x (part_of s (view_of at n))) g);
              match = and_right (ltb at n) (matches x (part_of s (view_of at n))) g;
            } in
            let j : n ≡ next = cc in rw j at so

-- and one that was read, and does not spell a name, does not match it
not_spells : (x s : List ℕ) (at next : ℕ) (k : Token) → mnemonic s at ≡ Ok (k, next) → at < next → spelled_at x s at ≡ None → matches x (part_of s (view_of at next)) ≡ false
unfolding spelled_at
not_spells x s at next k q l e = go (matches x (part_of s (view_of at next))) (ap (spelled_as x s at) (sym q) ∙ e)
  where
    go : (b : Bool) → cond (ltb at next && b) (Some next) None ≡ None → b ≡ false
    go false f = refl
    go true f = let f = rw (lt-ltb at next l) at f in let z : ◌≡◌ {A = ℕ} 0 1 = cc in absurd (omega arith)

-- a mnemonic has a character at least
pub some_byte : (s : List ℕ) (at : ℕ) (c : Bool) → begins c s at ≡ true → (k : Token) (next : ℕ) → mnemonic s at ≡ Ok (k, next) → at < next
unfolding in_mnemonic
some_byte s at true w k next q = rw q at (common_behind s at (inside s at 42 w) (there s at 42 w))
some_byte s at false w k next q =
    let z = letter_there s at w in
    rw q at (header_behind s at z.0 (or_left (is_digit (get_or s at 0) || is "_" (get_or s at 0)) z.1))

-- after a mnemonic there is no letter
no_letter : (s : List ℕ) (at : ℕ) (k : Token) (next : ℕ) → mnemonic s at ≡ Ok (k, next) → is_letter_at s next ≡ false
unfolding is_letter_at in_mnemonic
no_letter s at k next e = by (leb (length s) next) refl (is_letter (get_or s next 0)) refl
  where
    again : run_end in_mnemonic s next ≡ next
    again = let f = (mnemonic_next s at k next e).0 in ap (run_end in_mnemonic s) (sym f) ∙ run_again in_mnemonic s (star_end s at) ∙ f

    by : (b : Bool) → leb (length s) next ≡ b → (l : Bool) → is_letter (get_or s next 0) ≡ l → cond b false l ≡ false
    by true g l h = refl
    by false g false h = refl
    by false g true h =
        absurd (omega (arith, again, run_more in_mnemonic s next (leb-false (length s) next g) (or_left (is_digit (get_or s next 0) || is "_" (get_or s next 0)) h), run_from in_mnemonic s (next + 1)))

-- what is answered at a branch hangs on the turn alone, where the header does not end there
pub same_turn : {t names s : List ℕ} {h n : ℕ} {x y : Seen} {r : Result Header ErrorCode} → branch t n ≡ true → turn_of s y ≡ turn_of s x → (turn_of s x ≡ turn.Stop → ⊥)
    → Reads t names s h n x r → Reads t names s h n y r
same_turn m e q (leaf l) = clash m l
same_turn m e q (headers.refused l f) = headers.refused m (e ∙ f)
same_turn m e q (said l f k z) = said m (e ∙ f) k z
same_turn m e q (unsaid l f k d z) = unsaid m (e ∙ f) k d z
same_turn m e q (unknown l f k d) = unknown m (e ∙ f) k d
same_turn m e q (ended l f d z) = absurd (q f)
same_turn m e q (nowhere l f d) = absurd (q f)

-- a mnemonic that is ahead is no end
mnemonic_turn : (s : List ℕ) (p : ℕ) (c : Bool) → begins c s p ≡ true → turn_of s (ahead_at s p c) ≡ turn.Stop → ⊥
mnemonic_turn s p c w = go (mnemonic s p) refl
  where
    go : (x : Result (Token × ℕ) ErrorCode) → mnemonic s p ≡ x → turn_of s (ahead_at s p c) ≡ turn.Stop → ⊥
    go (Ok (k, next)) q e = let z : ◌≡◌ {A = ℕ} 0 1 = cc (turn_word s p c (met s p c w) k next q) in omega arith
    go (Err c') q e = let z : ◌≡◌ {A = ℕ} 0 1 = cc (turn_refused s p c (met s p c w) c' q) in omega arith

-- where the mnemonics lead no further at a branch, and the header does not end, what is ahead decides why
module _ (t names s : List ℕ) (n p : ℕ) (c : Bool) (m : branch t n ≡ true) (l : is_letter_at s p ≡ false) (z : stands_at 42 s p ≡ false) (g : (goes_on s p ≡ false) ⊎ (c ≡ true)) where
  pub blocked : is_ending (ahead_at s p c).ahead ≡ false → (h : ℕ) → Reads t names s h n (ahead_at s p c) (refused_by (ahead_at s p c).ahead)
  unfolding turn_of behind_colon
  blocked f h = go (ahead_at s p c).ahead refl f
    where
      turns : (a : Ahead) → (ahead_at s p c).ahead ≡ a → turn_of s (ahead_at s p c) ≡ at_branch s (ahead_at s p c).state a
      turns a e = ap (at_branch s (ahead_at s p c).state) e

      go : (a : Ahead) → (ahead_at s p c).ahead ≡ a → is_ending a ≡ false → Reads t names s h n (ahead_at s p c) (refused_by a)
      go (Ahead.Refused e) q i = headers.refused m (turns (Ahead.Refused e) q)
      go (Ahead.Stop x) q i = absurd (true≢false i)
      go Ahead.Query q i = absurd (true≢false i)
      go (Ahead.Word w) q i = no_mnemonic s p c l z q
      go Ahead.Colon q i = by g
        where
          by : (goes_on s p ≡ false) ⊎ (c ≡ true) → Reads t names s h n (ahead_at s p c) (Err ErrorCode.CommandHeaderError)
          by (inl k) = headers.refused m (turns Ahead.Colon q ∙ sym (ap behind_colon (last_colon s p c q k).1))
          by (inr k) = clash k (not_common s p c q)

-- a colon is no star, and in a common command it is refused
colon_no_star : (s : List ℕ) (p : ℕ) → goes_on s p ≡ true → stands_at 42 s p ≡ false
colon_no_star s p g =
    both_ways (stands_at 42 s p) false (λ f. absurd (omega (arith, there s p 58 (colon_there s p g), there s p 42 f))) (λ f. clash f refl)

colon_no_ending : (s : List ℕ) (p : ℕ) (c : Bool) → goes_on s p ≡ true → c ≡ true → is_ending (ahead_at s p c).ahead ≡ false
colon_no_ending s p c g y = rw y (sym (ap (λ (z : Seen). is_ending z.ahead) (colon_refused s p g)))

-- what the walk asks of itself

pub is_branch' : (t : List ℕ) (k : ℕ) (d : Bool) → d ≡ is_branch (get_or t k 0) → not d ≡ false → branch t k ≡ true
is_branch' t k d e q = sym e ∙ not-false d q

pub next_begins' : (s : List ℕ) (next : ℕ) (c g : Bool) → g ≡ goes_on s next → g ≡ true → c ≡ false → (p : ℕ) → p ≡ after_byte 58 s next → begins c s p ≡ true
next_begins' s next c g e q y p ep = rw (y, ep ∙ after_colon s next (sym e ∙ q)) (letter_next s next (sym e ∙ q))

pub star_begins' : (s : List ℕ) (next : ℕ) (u : Bool) → u ≡ stands_at 42 s next → u ≡ true → begins true s next ≡ true
star_begins' s next u e q = sym e ∙ q

pub inner_less' : (t : List ℕ) (b : ℕ) (x : Block) → x ≡ children_of t b → (y : Option ℕ) → PicksIn (unsaid_in t) x.from x.to y → (n : ℕ) → y ≡ Some n
    → (μ : ℕ) → length t - b ≡ μ → length t - n < μ
inner_less' t b x ex y d n e μ i = subst (λ (o : ℕ). length t - n < o) i (deeper (picked t b x ex (unsaid_in t) y (Some n) d e)).1

-- the walk from a branch

module _ (t names s : List ℕ) (b at : ℕ) (x : Block) (ex : x ≡ children_of t b) (r : Option (ℕ × ℕ)) (z : Spells t names s x.from x.to at r) (k next : ℕ) (q : r ≡ Some (k, next)) where
  spelled_so : Told (name_of t names k) s at next
  spelled_so = go (rw q at z)
    where
      go : Spells t names s x.from x.to at (Some (k, next)) → Told (name_of t names k) s at next
      go (first_spelled low high e f) = spells_so (name_of t names k) s at next e

  spoken_picks : Picks t b (spoken_by t names (part_of s (view_of at next))) (Some k)
  unfolding spoken_by
  spoken_picks = picked t b x ex (spoken_by t names (part_of s (view_of at next))) (Some k) (Some k) (go (rw q at z)) refl
    where
      go : Spells t names s x.from x.to at (Some (k, next)) → PicksIn (spoken_by t names (part_of s (view_of at next))) x.from x.to (Some k)
      go (first_spelled low high e f) =
          first_in low high spelled_so.match (λ j l u. not_spells (name_of t names j) s at next (ProgramMnemonic (view_of at next)) spelled_so.read spelled_so.some (f j l u))

  pub child_in' : k < length t
  child_in' = (deeper spoken_picks).0

  pub child_less' : (μ : ℕ) → length t - b ≡ μ → length t - k < μ
  child_less' μ e = subst (λ (n : ℕ). length t - k < n) e (deeper spoken_picks).1

module _ (t names s : List ℕ) (b at : ℕ) (c : Bool) (held : branch t b ≡ true) (w : begins c s at ≡ true) (x : Block) (ex : x ≡ children_of t b) (r : Option (ℕ × ℕ)) (z : Spells t names s x.from x.to at r) where
  module _ (k next : ℕ) (q : r ≡ Some (k, next)) where
    so : Told (name_of t names k) s at next
    so = spelled_so t names s b at x ex r z k next q

    -- what is answered from the child on is answered from the branch
    hit : {res : Result Header ErrorCode} → Reads t names s b k (ahead_at s next c) res → (h : ℕ) → Reads t names s h b (ahead_at s at c) res
    hit o h = said held (turn_word s at c (met s at c w) (ProgramMnemonic (view_of at next)) next so.read) (spoken_picks t names s b at x ex r z k next q) o

    hit_all : (p : ℕ) (y : Bool) {a kept place : ℕ} {d : Bool} → branch t k ≡ true → turn_of s (ahead_at s next c) ≡ turn_of s (ahead_at s p y) → begins y s p ≡ true
        → Arrives t names s k p y a kept place d → Arrives t names s b at c a kept place d
    hit_all p y m e i (arrives l f) = arrives l (hit (same_turn m e (mnemonic_turn s p y i) (f b)))
    hit_all p y m e i (strays f) = strays (hit (same_turn m e (mnemonic_turn s p y i) (f b)))

    module _ (d : Bool) (ed : d ≡ is_branch (get_or t k 0)) where
      pub at_leaf' : not d ≡ true → Arrives t names s b at c k b next c
      at_leaf' f = arrives (child_in' t names s b at x ex r z k next q) (hit (leaf (sym ed ∙ not-true d f)))

      module _ (f : not d ≡ false) where
        child_branch : branch t k ≡ true
        child_branch = sym ed ∙ not-false d f

        -- the header ends after the mnemonic
        settled : is_ending (ahead_at s next c).ahead ≡ true → (a : ℕ) → Settles t k a → Arrives t names s b at c a b next c
        settled i a y = by (settled_in y)
          where
            by : (a < length t) ⊎ (a ≡ length t) → Arrives t names s b at c a b next c
            by (inl l) = arrives l (hit (settles (ending_turn s (ahead_at s next c) i) child_branch l y))
            by (inr l) =
                let none : (h : ℕ) → Reads t names s h b (ahead_at s at c) (refused_by (ahead_at s next c).ahead) =
                λ h. rw (← ending_refused (ahead_at s next c).ahead i) (hit (lost (ending_turn s (ahead_at s next c) i) child_branch l y) h) in
                rw l (strays none)

        module _ (g : Bool) (eg : g ≡ goes_on s next) where
          module _ (qg : g ≡ true) where
            -- no colon goes on in a common command
            pub in_common' : c ≡ true → Arrives t names s b at c (length t) b next c
            in_common' y =
                strays (hit (blocked t names s k next c child_branch (no_letter s at _ next so.read) (colon_no_star s next (sym eg ∙ qg)) (inr y) (colon_no_ending s next c (sym eg ∙ qg) y) b))

            module _ (y : c ≡ false) (p : ℕ) (ep : p ≡ after_byte 58 s next) where
              pub goes_down' : (a kept place : ℕ) (e : Bool) → Arrives t names s k p c a kept place e → Arrives t names s b at c a kept place e
              goes_down' a kept place e v = hit_all p c child_branch turns (next_begins' s next c g eg qg y p ep) v
                where
                  turns : turn_of s (ahead_at s next c) ≡ turn_of s (ahead_at s p c)
                  turns = rw (y, ep ∙ after_colon s next (sym eg ∙ qg)) (colon_turn s next (sym eg ∙ qg))

          module _ (qg : g ≡ false) (i : Bool) (ei : i ≡ ends_at s next) where
            pub ends_here' : i ≡ true → (a : ℕ) → Settles t k a → Arrives t names s b at c a b next c
            ends_here' qi = settled (ends_so s next c (sym ei ∙ qi))

            module _ (qi : i ≡ false) (u : Bool) (eu : u ≡ stands_at 42 s next) where
              pub star_down' : u ≡ true → (a kept place : ℕ) (e : Bool) → Arrives t names s k next true a kept place e → Arrives t names s b at c a kept place e
              star_down' qu a kept place e v = hit_all next true child_branch (star_turn s next c (sym eu ∙ qu)) (sym eu ∙ qu) v

              module _ (qu : u ≡ false) (v : Bool) (ev : v ≡ is_ending (ahead_at s next c).ahead) where
                pub stops_here' : v ≡ true → (a : ℕ) → Settles t k a → Arrives t names s b at c a b next c
                stops_here' qv = settled (sym ev ∙ qv)

                pub stuck' : v ≡ false → Arrives t names s b at c (length t) b next c
                stuck' qv = strays (hit (blocked t names s k next c child_branch (no_letter s at _ next so.read) (sym eu ∙ qu) (inl (sym eg ∙ qg)) (sym ev ∙ qv) b))

  -- no child is spelled

  module _ (q : r ≡ None) where
    none_picks : (k : Token) (next : ℕ) → mnemonic s at ≡ Ok (k, next) → Picks t b (spoken_by t names (part_of s (view_of at next))) None
    unfolding spoken_by
    none_picks k next e = picked t b x ex (spoken_by t names (part_of s (view_of at next))) None None (go (rw q at z)) refl
      where
        go : Spells t names s x.from x.to at None → PicksIn (spoken_by t names (part_of s (view_of at next))) x.from x.to None
        go (none_spelled f) = none_in (λ j l u. not_spells (name_of t names j) s at next k e (some_byte s at c w k next e) (f j l u))

    too_long : (e : ErrorCode) → mnemonic s at ≡ Err e → (h n : ℕ) → branch t n ≡ true → Reads t names s h n (ahead_at s at c) (Err e)
    too_long e f h n m = headers.refused m (turn_refused s at c (met s at c w) e f)

    refused_so : (e : ErrorCode) → mnemonic s at ≡ Err e → refused_by (ahead_at s at c).ahead ≡ Err e
    refused_so e f = sym (ap (λ (y : Seen). refused_by y.ahead) (refused_ahead s at c (met s at c w) e f))

    undefined_so : (k : Token) (next : ℕ) → mnemonic s at ≡ Ok (k, next) → refused_by (ahead_at s at c).ahead ≡ undefined
    undefined_so k next f = sym (ap (λ (y : Seen). refused_by y.ahead) (word_ahead s at c (met s at c w) k next f))

    module _ (y : Option ℕ) (d : PicksIn (unsaid_in t) x.from x.to y) where
      default_picks : (v : Option ℕ) → y ≡ v → Picks t b (unsaid_in t) v
      default_picks v e = picked t b x ex (unsaid_in t) y v d e

      pub no_way' : y ≡ None → (kept : ℕ) → Arrives t names s b at c (length t) kept at c
      no_way' e kept = strays (go (mnemonic s at) refl)
        where
          go : (v : Result (Token × ℕ) ErrorCode) → mnemonic s at ≡ v → (h : ℕ) → Reads t names s h b (ahead_at s at c) (refused_by (ahead_at s at c).ahead)
          go (Ok (k, next)) f h = rw (undefined_so k next f) (unknown held (turn_word s at c (met s at c w) k next f) (none_picks k next f) (default_picks None e))
          go (Err o) f h = rw (refused_so o f) (too_long o f h b held)

      module _ (n : ℕ) (e : y ≡ Some n) where
        -- what is answered from the default child on, with the mnemonic still ahead, is answered from the branch
        inner : (res : Result Header ErrorCode) (h : ℕ) (k : Token) (next : ℕ) → mnemonic s at ≡ Ok (k, next) → Reads t names s h n (ahead_at s at c) res → Reads t names s h b (ahead_at s at c) res
        inner res h k next f o =
            let there : Reads t names s h n (seen_with (Ahead.Word (view_of at next)) (state_of next true c)) res = rw (word_ahead s at c (met s at c w) k next f) o in
            unsaid {r = res} held (turn_word s at c (met s at c w) k next f) (none_picks k next f) (default_picks (Some n) e) there

        module _ (g : Bool) (eg : g ≡ is_branch (get_or t n 0)) where
          pub past_leaf' : not g ≡ true → (kept : ℕ) → Arrives t names s b at c (length t) kept at c
          unfolding leaf_answer
          past_leaf' qg kept = strays (go (mnemonic s at) refl)
            where
              go : (v : Result (Token × ℕ) ErrorCode) → mnemonic s at ≡ v → (h : ℕ) → Reads t names s h b (ahead_at s at c) (refused_by (ahead_at s at c).ahead)
              go (Ok (k, next)) f h =
                  let over : leaf_answer s (get_or t n 0) h (ahead_at s at c) ≡ undefined = sym (ap (leaf_answer s (get_or t n 0) h) (word_ahead s at c (met s at c w) k next f)) in
                  let there : Reads t names s h n (ahead_at s at c) (leaf_answer s (get_or t n 0) h (ahead_at s at c)) = leaf (sym eg ∙ not-true g qg) in
                  rw (undefined_so k next f) (inner undefined h k next f (rw over at there))
              go (Err o) f h = rw (refused_so o f) (too_long o f h b held)

          module _ (qg : not g ≡ false) where
            inner_branch : branch t n ≡ true
            inner_branch = sym eg ∙ not-false g qg

            below : {res : Result Header ErrorCode} (h : ℕ) → Reads t names s h n (ahead_at s at c) res → Reads t names s h b (ahead_at s at c) res
            below {res} h o = go (mnemonic s at) refl
              where
                go : (v : Result (Token × ℕ) ErrorCode) → mnemonic s at ≡ v → Reads t names s h b (ahead_at s at c) res
                go (Ok (k, next)) f = inner res h k next f o
                go (Err i) f = rw (one_reading o (too_long i f h n inner_branch)) (too_long i f h b held)

            pub unsaid_down' : (a kept place : ℕ) (i : Bool) → Arrives t names s n at c a kept place i → Arrives t names s b at c a kept place i
            unsaid_down' a kept place i (arrives l f) = arrives l (λ h. below h (f h))
            unsaid_down' a kept place i (strays f) = strays (λ h. below h (f h))

pub ruleset down_laws = (rules, child_in', child_less', at_leaf', is_branch', in_common', next_begins', goes_down', ends_here', star_begins', star_down', stops_here', stuck', no_way', inner_less', past_leaf', unsaid_down')
