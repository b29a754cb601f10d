-- A header at any place of a message, as the words that the token step gives from there on. It may be followed by white space and data,
-- by another unit, or by nothing.
use Rattle.std.specs.Prelude.{ℕ, ◌≡◌, List, [], ◌∷◌, Bool, true, false}
use Rattle.token.specs.View.{part_of}
use Rattle.token.specs.declared.View.{View}
use Rattle.tokenizer.specs.declared.State.{State}
use Rattle.ahead.specs.Seen.{seen_at}
use Rattle.header.specs.Header.{turn_of, is_common}
use Rattle.ahead.specs.declared.Stop.{Stop}
use Rattle.ahead.specs.declared.Ahead.TheVariants as ahead
use Rattle.ahead.specs.declared.Seen.{Seen}
use Rattle.header.specs.Turn as turn

-- the words from what is seen on, each with a colon before it or not, and then the end of the header: its form, what ends it, and the
-- place behind that
pub data Hears (s : List ℕ) (end : Stop) (place : ℕ) : List (List ℕ) → Bool → Seen → Type 0 where
  stop : {seen : Seen} → seen.ahead ≡ ahead.Stop end → seen.state.place ≡ place → Hears s end place [] false seen
  asked : {seen : Seen} → seen.ahead ≡ ahead.Query → (seen_at s seen.state).ahead ≡ ahead.Stop end → (seen_at s seen.state).state.place ≡ place
      → Hears s end place [] true seen
  word : {seen : Seen} {v : View} {at : State} {w : List ℕ} {words : List (List ℕ)} {q : Bool} → turn_of s seen ≡ turn.Word v at → part_of s v ≡ w
      → Hears s end place words q (seen_at s at) → Hears s end place (w ∷ words) q seen

-- A header without star, from a state on: words alone, or a colon before them, which starts at the root.
pub data Spoken (s : List ℕ) (end : Stop) (place : ℕ) (words : List (List ℕ)) (query : Bool) (at : State) : Bool → Type 0 where
  from_branch : {v : View} → (seen_at s at).ahead ≡ ahead.Word v → is_common s v ≡ false → Hears s end place words query (seen_at s at)
      → Spoken s end place words query at false
  from_root : (seen_at s at).ahead ≡ ahead.Colon → Hears s end place words query (seen_at s (seen_at s at).state) → Spoken s end place words query at true
