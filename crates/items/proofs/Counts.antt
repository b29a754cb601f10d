-- Laws of counting the items, as the code meets them.
use Rattle.std.specs.Prelude.{Result, Ok, Err}
use Prim.Native.Nat.{ℕ, ◌+◌, ◌-◌, ◌≤◌, ◌<◌, ◌^◌}
use mathlib.Core.Path.{◌≡◌, refl, sym, ap, ◌∙◌}
use mathlib.Core.Logic.{⊎_elim}
use mathlib.Core.List.{List}
use mathlib.Core.Bool.{true, false}
use native.Mathlib.Omega.{arith}
use lib.ListN.{length, get_or}
use borrow.Author.Rules.{rules}
use borrow.Author.Tests.{eqb-true, lt-leb, ne_eqb}
use Rattle.error.specs.declared.ErrorCode.{ErrorCode}
use Rattle.kind.specs.Class.{is, is_white_space}
use Rattle.kind.proofs.Tests.{either, clash}
use Rattle.util.specs.Run.{run_end}
use Rattle.token.specs.declared.Token.{Token}
use Rattle.item.specs.{Follow.ends_data}
use Rattle.separator.specs.{Separator.newline_to, Separator.comma_to}
use Rattle.tokenizer.specs.{Step.taken, declared.State.State}
use Rattle.items.specs.{Entry.met_with, Entry.met_at}
use Rattle.items.specs.Entry as entry
use Rattle.items.specs.Items.{Joined, ended, more, missing, doubled, refused, refused_item, Items, none, some, first_missing, first_refused}
use Rattle.items.specs.Internal.{ends_unit, among, ItemAt, takes, refuses, at_comma, at_end, no_items, newline_data}
use Rattle.items.proofs.Meets.{met_step, inside, end_met, unit_met, comma_met, comma_refused, newline_met, newline_refused}
use Rattle.items.specs.declared.Data.{Data}

-- What the loop keeps: what is answered after n items and one more at a place, or for an item refused there, is answered from the first
-- place on.
pub record Partway (s : List ℕ) (first n place : ℕ) : Type 0 where
  pub one_more : (next : State) (r : Result Data ErrorCode) → met_at s (among place) ≡ met_with entry.Item next → Joined s (n + 1) next r → Items s (among first) r
  pub no_more : (e : ErrorCode) → ItemAt s place (Err e) → Items s (among first) (Err e)

-- No items.
module _ (s : List ℕ) (first : ℕ) where
  pub no_text' : length s ≤ first → Items s (among first) (Ok (record { count = 0; place = first }))
  no_text' h = none (end_met s first h)

  module _ (h : first < length s) where
    pub no_item' : get_or s first 0 ≡ 59 → (next : ℕ) → next ≡ run_end is_white_space s (first + 1) → Items s (among first) (Ok (record { count = 0; place = next }))
    no_item' e next f = rw f (none (unit_met s first h e))

    pub no_line' : get_or s first 0 ≡ 10 → (r : Result Data ErrorCode) → r ≡ newline_data s (first + 1) → Items s (among first) r
    unfolding newline_data
    no_line' e r f = rw f (go (newline_to s (first + 1)) refl)
      where
        go : (p : Result ℕ ErrorCode) → p ≡ newline_to s (first + 1) → Items s (among first) (no_items p)
        go (Ok to) q = none (newline_met s first h (Ok to) e q to refl)
        go (Err c) q = first_refused (newline_refused s first h (Err c) e q c refl)

    pub begun' : (get_or s first 0 ≡ 59 → ⊥) → (get_or s first 0 ≡ 10 → ⊥) → Partway s first 0 first
    unfolding ends_unit
    begun' u l = record { one_more = λ next r e j. some e j; no_more = λ e i. go e i }
      where
        go : (e : ErrorCode) → ItemAt s first (Err e) → Items s (among first) (Err e)
        go e (refuses m) = first_refused m
        go e (at_comma m) = first_missing m
        go e (at_end z m) = clash z (rw (lt-leb (length s) first h, ne_eqb (get_or s first 0) 10 l, ne_eqb (get_or s first 0) 59 u))

-- An item is read.
module _ (s : List ℕ) (place : ℕ) (x : Result (Token × ℕ) ErrorCode) (d : ItemAt s place x) where
  pub refused' : (first n : ℕ) → Partway s first n place → (e : ErrorCode) → x ≡ Err e → Items s (among first) (Err e)
  refused' first n b e q = b.no_more e (rw q at d)

  module _ (t : Token) (end : ℕ) (q : x ≡ Ok (t, end)) where
    item : (met_at s (among place) ≡ met_with entry.Item (among end)) × (ends_data s end ≡ true)
    unfolding taken
    item = go (rw q at d)
      where
        go : ItemAt s place (Ok (t, end)) → (met_at s (among place) ≡ met_with entry.Item (among end)) × (ends_data s end ≡ true)
        go (takes m i e) = (met_step s (among place) (taken t end false false) (sym m) ∙ ap (λ c. met_with c (among end)) i, e)

    moves : (place < length s) × (place < end)
    moves = inside s (among place) item.0 refl

    pub count_fits' : (n : ℕ) → n ≤ place → length s < 2 ^ 64 → n + 1 < 2 ^ 64
    count_fits' n l u = omega (arith, l, u, moves)

    module _ (first n : ℕ) (b : Partway s first n place) (k : ℕ) (ek : k ≡ n + 1) where
      after : {r : Result Data ErrorCode} → Joined s k (among end) r → Items s (among first) r
      after j = b.one_more _ _ item.0 (rw ek at j)

      pub text_over' : length s ≤ end → Items s (among first) (Ok (record { count = k; place = end }))
      text_over' h = after (ended (end_met s end h))

      pub unit_over' : end < length s → get_or s end 0 ≡ 59 → (next : ℕ) → next ≡ run_end is_white_space s (end + 1) → Items s (among first) (Ok (record { count = k; place = next }))
      unit_over' h f next g = rw g (after (ended (unit_met s end h f)))

    module _ (h : end < length s) (u : get_or s end 0 ≡ 59 → ⊥) (p : Result ℕ ErrorCode) (ep : p ≡ comma_to s (end + 1) false) where
      comma : get_or s end 0 ≡ 44
      unfolding ends_data
      comma =
          ⊎_elim (λ c. eqb-true (get_or s end 0) 44 c) (λ c. absurd (u (eqb-true (get_or s end 0) 59 c)))
          (either (is "," (get_or s end 0)) (is ";" (get_or s end 0)) (rw (lt-leb (length s) end h) at item.1))

      pub comma_wrong' : (first n : ℕ) → Partway s first n place → (c : ErrorCode) → p ≡ Err c → Items s (among first) (Err c)
      comma_wrong' first n b c f = after first n b (n + 1) refl (refused (comma_refused s end h p comma ep c f))

      module _ (to : ℕ) (f : p ≡ Ok to) where
        met : met_at s (among end) ≡ met_with entry.Comma (among to)
        met = comma_met s end h p comma ep to f

        pub partway' : (first n : ℕ) → Partway s first n place → (k : ℕ) → k ≡ n + 1 → Partway s first k to
        partway' first n b k ek = record { one_more = λ next r e j. after first n b k ek (more met e j); no_more = λ e i. after first n b k ek (go e i) }
          where
            go : (e : ErrorCode) → ItemAt s to (Err e) → Joined s k (among end) (Err e)
            go e (refuses m) = refused_item met m
            go e (at_comma m) = doubled met m
            go e (at_end z m) = missing met m

        on : (end < length s) × (end < to)
        on = inside s (among end) met refl

        pub less' : length s - to < length s - place
        less' = omega (arith, moves, on)

        pub count_below' : (n : ℕ) → n ≤ place → (k : ℕ) → k ≡ n + 1 → k ≤ to
        count_below' n l k ek = omega (arith, ek, l, moves, on)

pub ruleset counts = (rules, no_text', no_item', no_line', begun', refused', count_fits', text_over', unit_over', comma_wrong', partway', less', count_below')
