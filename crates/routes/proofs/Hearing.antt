-- In an accepted table the answer to the words that are heard is what the routes say.
use Rattle.std.specs.Prelude.{Result, Ok, Some, None}
use Prim.Native.Nat.{ℕ, ◌+◌, ◌-◌}
use mathlib.Core.Path.{◌≡◌, refl, sym, ap, ◌∙◌}
use mathlib.Core.List.{List}
use mathlib.Core.Bool.{Bool, true, false}
use native.Mathlib.Omega.{arith}
use lib.ListN.{get_or}
use Rattle.error.specs.declared.ErrorCode.{ErrorCode}
use Rattle.mnemonic.specs.Spelling.{spells}
use Rattle.names.proofs.Spelling.{match_spells}
use Rattle.node.specs.Word.{command_number}
use Rattle.node.specs.Tree.{default, first, count, name_of, Child}
use Rattle.routes.specs.TableClaims.{Tree}
use Rattle.branch.specs.Children.{Below, unsaid_in, Picks, first_one, not_one}
use Rattle.token.specs.{View.part_of, declared.View.View}
use Rattle.tokenizer.specs.declared.State.{State}
use Rattle.spoken.specs.Spoken.{spoken_by}
use Rattle.ahead.specs.{Seen.seen_with, Seen.seen_at, declared.Stop.Stop, declared.Ahead.Ahead, declared.Seen.Seen}
use Rattle.header.specs.Header.{behind_query, query_answer, answer_at_leaf, leaf_answer, at_branch, turn_of, undefined, Reads, leaf, refused, said, unsaid, unknown, ended, nowhere}
use Rattle.header.specs.{Turn.Turn}
use Rattle.header.specs.Turn as turn
use Rattle.routes.specs.Heard.{Hears, stop, asked, word}
use Rattle.routes.proofs.Outcomes.{Outcome, at_leaf, past_leaf, no_default, unspelled, by_default, by_word, at_end}
use Rattle.header.specs.declared.Header.{Header}

module _ (s : List ℕ) (seen : Seen) where
  stops : {x : Stop} → seen.ahead ≡ Ahead.Stop x → turn_of s seen ≡ turn.Stop
  unfolding turn_of
  stops e = ap (at_branch s seen.state) e

  asks : seen.ahead ≡ Ahead.Query → turn_of s seen ≡ turn.Stop
  unfolding turn_of
  asks e = ap (at_branch s seen.state) e

  -- a leaf's answer
  leaf_stops : (w h : ℕ) {x : Stop} {place : ℕ} → seen.ahead ≡ Ahead.Stop x → seen.state.place ≡ place
      → leaf_answer s w h seen ≡ Ok (record { command = command_number w; query = false; branch = h; stop = x; place = place })
  unfolding leaf_answer
  leaf_stops w h {x} e f = ap (answer_at_leaf s w h seen.state) e ∙ ap (λ p. Ok (record { command = command_number w; query = false; branch = h; stop = x; place = p })) f

  leaf_asks : (w h : ℕ) {x : Stop} {place : ℕ} → seen.ahead ≡ Ahead.Query → (seen_at s seen.state).ahead ≡ Ahead.Stop x → (seen_at s seen.state).state.place ≡ place
      → leaf_answer s w h seen ≡ Ok (record { command = command_number w; query = true; branch = h; stop = x; place = place })
  unfolding leaf_answer query_answer
  leaf_asks w h {x} e f g =
      ap (answer_at_leaf s w h seen.state) e ∙ ap (behind_query w h (seen_at s seen.state).state) f ∙ ap (λ p. Ok (record { command = command_number w; query = true; branch = h; stop = x; place = p })) g

  leaf_goes_on : (w h : ℕ) {v : View} {at : State} → turn_of s seen ≡ turn.Word v at → leaf_answer s w h seen ≡ undefined
  unfolding turn_of leaf_answer
  leaf_goes_on w h {v} {at} = go seen.ahead
    where
      go : (x : Ahead) → at_branch s seen.state x ≡ turn.Word v at → answer_at_leaf s w h seen.state x ≡ undefined
      go (Ahead.Word v) q = refl
      go Ahead.Colon q = refl
      go Ahead.Query q = let z : ◌≡◌ {A = ℕ} 0 1 = cc in absurd (omega arith)
      go (Ahead.Stop x) q = let z : ◌≡◌ {A = ℕ} 0 1 = cc in absurd (omega arith)
      go (Ahead.Refused c) q = let z : ◌≡◌ {A = ℕ} 0 1 = cc in absurd (omega arith)

-- a word that was reached is met again where it stands
again : (s : List ℕ) (v : View) (st : State) → turn_of s (seen_with (Ahead.Word v) st) ≡ turn.Word v st
unfolding turn_of
again s v st = refl

-- what was picked

module _ {t : List ℕ} {b : ℕ} {q : ℕ → Bool} where
  picked : {k : ℕ} → Picks t b q (Some k) → Below t b k × (q k ≡ true)
  picked (first_one x e f) = (x, e)

  not_picked : Picks t b q None → (j : ℕ) → Below t b j → q j ≡ false
  not_picked (not_one f) = f

module _ (t names : List ℕ) (ok : Tree t names) where
  -- every child of an accepted table lies in a block behind its branch, in the table
  below : {b k : ℕ} → Child t b k → Below t b k
  below {b} {k} c =
      let one : Child t b (first t b) = record { holder = c.holder; from = omega arith; below = omega (arith, c.from, c.below) } in
      let end : Child t b (first t b + count t b - 1) = record { holder = c.holder; from = omega (arith, c.from, c.below); below = omega (arith, c.from, c.below) } in
      record { child = c; behind = ok.after one; within = omega (arith, ok.inside end, c.from, c.below) }

  -- a word is spoken for a child exactly where it spells its name
  says : {b k : ℕ} → Child t b k → (w : List ℕ) → spoken_by t names w k ≡ spells (name_of t names k) w
  unfolding spoken_by
  says {b} {k} c w = match_spells (name_of t names k) (ok.named k (omega (arith, ok.after c)) (ok.inside c)) w

  never_said : {b : ℕ} (w : List ℕ) → Picks t b (spoken_by t names w) None → (j : ℕ) → Child t b j → spells (name_of t names j) w ≡ false
  never_said w x j c = sym (says c w) ∙ not_picked x j (below c)

  never_default : {b : ℕ} → Picks t b (unsaid_in t) None → (j : ℕ) → Child t b j → default t j ≡ false
  unfolding unsaid_in
  never_default x j c = not_picked x j (below c)

  is_default : {b k : ℕ} → Picks t b (unsaid_in t) (Some k) → default t k ≡ true
  unfolding unsaid_in
  is_default x = (picked x).1

-- the same turn, told twice
module _ {A : Type 0} {x : Turn} where
  no_word : {at : State} {v : View} → x ≡ turn.Word v at → x ≡ turn.Stop → A
  no_word e f = let z : ◌≡◌ {A = ℕ} 0 1 = cc in absurd (omega arith)

  no_refusal : {at : State} {v : View} {c : ErrorCode} → x ≡ turn.Word v at → x ≡ turn.Refused c → A
  no_refusal e f = let z : ◌≡◌ {A = ℕ} 0 1 = cc in absurd (omega arith)

  stop_refused : {e : ErrorCode} → x ≡ turn.Stop → x ≡ turn.Refused e → A
  stop_refused e f = let z : ◌≡◌ {A = ℕ} 0 1 = cc in absurd (omega arith)

-- what follows the word
hears_on : {s : List ℕ} {end : Stop} {place : ℕ} {x : Turn} {at at' : State} {v v' : View} {words : List (List ℕ)} {q : Bool}
    → x ≡ turn.Word v at → x ≡ turn.Word v' at' → Hears s end place words q (seen_at s at) → Hears s end place words q (seen_at s at')
hears_on {at = at} {at'} e f x = let z : at ≡ at' = cc in rw z at x

pub heard : {t names s : List ℕ} {end : Stop} {place : ℕ} {words : List (List ℕ)} {q : Bool} {h n : ℕ} {seen : Seen} {r : Result Header ErrorCode}
    → Tree t names → Hears s end place words q seen → Reads t names s h n seen r → Outcome t names q end place h n words r
heard {t} {names} {s} {end} {place} {h = h} {n} {seen} ok (stop e g) (leaf m) = rw (leaf_stops s seen (get_or t n 0) h e g) (at_leaf t names false end place m)
heard {t} {names} {s} {end} {place} {h = h} {n} {seen} ok (asked e f g) (leaf m) = rw (leaf_asks s seen (get_or t n 0) h e f g) (at_leaf t names true end place m)
heard {t} {names} {s} {end} {place} {q = q} {h} {n} {seen} ok (word e p x) (leaf m) = rw (leaf_goes_on s seen (get_or t n 0) h e) (past_leaf t names q end place m)
heard {s = s} {seen = seen} ok (stop e g) (refused m f) = stop_refused (stops s seen e) f
heard {s = s} {seen = seen} ok (asked e g i) (refused m f) = stop_refused (asks s seen e) f
heard ok (word e p x) (refused m f) = no_refusal e f
heard {s = s} {seen = seen} ok (stop e g) (said m f k r) = no_word f (stops s seen e)
heard {s = s} {seen = seen} ok (asked e g i) (said m f k r) = no_word f (asks s seen e)
heard {t} {names} {s} {end} {place} {q = q} ok (word {w = w} {words = words} e p x) (said {w = u} m f k r) =
    let c = (picked k).0.child in
    let z : part_of s u ≡ w = cc in
    by_word t names q end place ok c (rw z at (sym (says t names ok c (part_of s u)) ∙ (picked k).1)) (heard {words = words} ok (hears_on e f x) r)
heard {s = s} {seen = seen} ok (stop e g) (unsaid m f k d r) = no_word f (stops s seen e)
heard {s = s} {seen = seen} ok (asked e g i) (unsaid m f k d r) = no_word f (asks s seen e)
heard {t} {names} {s} {end} {place} {q = q} ok (word {w = w} e p x) (unsaid {w = u} {st = at} m f k d r) =
    let z : part_of s u ≡ w = cc in
    by_default t names q end place (rw z at (never_said t names ok (part_of s u) k)) ok (picked d).0.child (is_default t names ok d) (heard ok (word (again s u at) z (hears_on e f x)) r)
heard {s = s} {seen = seen} ok (stop e g) (unknown m f k d) = no_word f (stops s seen e)
heard {s = s} {seen = seen} ok (asked e g i) (unknown m f k d) = no_word f (asks s seen e)
heard {t} {names} {s} {end} {place} {q = q} ok (word {w = w} e p x) (unknown {w = u} m f k d) =
    let z : part_of s u ≡ w = cc in
    unspelled t names q end place (rw z at (never_said t names ok (part_of s u) k)) (never_default t names ok d)
heard {t} {names} {end = end} {place} ok (stop e g) (ended m f d r) = at_end t names false end place ok (picked d).0.child (is_default t names ok d) (heard ok (stop e g) r)
heard {t} {names} {end = end} {place} ok (asked e g i) (ended m f d r) = at_end t names true end place ok (picked d).0.child (is_default t names ok d) (heard ok (asked e g i) r)
heard ok (word e p x) (ended m f d r) = no_word e f
heard {t} {names} {end = end} {place} ok (stop e g) (nowhere m f d) = no_default t names false end place m (never_default t names ok d)
heard {t} {names} {end = end} {place} ok (asked e g i) (nowhere m f d) = no_default t names true end place m (never_default t names ok d)
heard ok (word e p x) (nowhere m f d) = no_word e f
