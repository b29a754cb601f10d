-- What the walk down the tree rests on. No promise of a public function rests on this.
use Rattle.std.specs.Prelude.{ℕ, ◌+◌, ◌<◌, ◌≡◌, List, Bool, true, false, cond, not, ◌&&◌, ◌||◌, eqb, leb, length, get_or, Result, Ok, Err, Option, Some, None}
use Prim.Native.Char.{code}
use Rattle.error.specs.declared.ErrorCode.TheVariants as refusal
use Rattle.util.specs.Run.{stands_at}
use Rattle.node.specs.Word.{command_number}
use Rattle.node.specs.Tree.{branch}
use Rattle.branch.specs.Children.{unsaid_in, Picks}
use Rattle.tokenizer.specs.Step.{state_of}
use Rattle.ahead.specs.Seen.{seen_at}
use Rattle.ahead.specs.declared.Stop.TheVariants as stop
use Rattle.ahead.specs.declared.Ahead.{Ahead}
use Rattle.ahead.specs.declared.Ahead.TheVariants as ahead
use Rattle.ahead.specs.declared.Seen.{Seen}
use Rattle.spoken.specs.Spoken.{is_letter_at}
use Rattle.header.specs.Header.{undefined, leaf_answer, Reads, Begins}
use Rattle.error.specs.declared.ErrorCode.{ErrorCode}
use Rattle.header.specs.declared.Front.{Front}
use Rattle.header.specs.declared.Header.{Header}

-- what is ahead at a place of a header, of a common command or of another one
abbrev pub ahead_at : List ℕ → ℕ → Bool → Seen
ahead_at s p common = seen_at s (state_of p true common)

-- a mnemonic begins at the place: with a star in a common command, else with a letter
abbrev pub begins : Bool → List ℕ → ℕ → Bool
begins true s at = stands_at (code "*") s at
begins false s at = is_letter_at s at

-- a colon is at the place, and a letter after it
unfoldable pub goes_on : List ℕ → ℕ → Bool
goes_on s at = stands_at (code ":") s at && is_letter_at s (at + 1)

-- the place after a byte, where that is at the place
unfoldable pub after_byte : ℕ → List ℕ → ℕ → ℕ
after_byte b s at = cond (stands_at b s at) (at + 1) at

-- the end of the text, a space or a semicolon is at the place
unfoldable pub halts : List ℕ → ℕ → Bool
halts s at = cond (leb (length s) at) true (eqb (get_or s at 0) (code " ") || eqb (get_or s at 0) (code ";"))

-- a header ends at the place, with a question mark or without, as one or two bytes tell
unfoldable pub ends_at : List ℕ → ℕ → Bool
ends_at s p = halts s (after_byte (code "?") s p)

-- where a header begins
unfoldable pub front_of : List ℕ → ℕ → ℕ → Option Front
front_of s b at =
    cond (is_letter_at s at) (Some (record { node = b; place = at; star = false }))
    (cond (goes_on s at) (Some (record { node = 0; place = at + 1; star = false }))
    (cond (stands_at (code "*") s at) (Some (record { node = 0; place = at; star = true })) None))

-- a common command leaves the branch b as it was
unfoldable pub kept_by : Bool → ℕ → ℕ → ℕ
kept_by star b kept = cond star b kept

-- the header ends with what is ahead
abbrev pub is_ending : Ahead → Bool
is_ending (ahead.Stop x) = true
is_ending ahead.Query = true
is_ending (ahead.Word w) = false
is_ending ahead.Colon = false
is_ending (ahead.Refused e) = false

-- why a header leads to no leaf, by what is ahead where its mnemonics lead no further
abbrev pub refused_by : Ahead → Result Header ErrorCode
refused_by (ahead.Refused e) = Err e
refused_by (ahead.Stop x) = undefined
refused_by ahead.Query = undefined
refused_by (ahead.Word w) = undefined
refused_by ahead.Colon = Err refusal.CommandHeaderError

-- Settles t b r: the leaf r that is reached from the branch b where nothing more is said, or the number of nodes.
pub data Settles (t : List ℕ) : ℕ → ℕ → Type 0 where
  -- the default child, which is a leaf
  at_leaf : {b d : ℕ} → Picks t b (unsaid_in t) (Some d) → branch t d ≡ false → Settles t b d
  -- the default child is a branch; the leaf that is reached from there
  onward : {b d r : ℕ} → Picks t b (unsaid_in t) (Some d) → branch t d ≡ true → Settles t d r → Settles t b r
  -- there is no default child
  unsettled : {b : ℕ} → Picks t b (unsaid_in t) None → Settles t b (length t)

-- Arrives t names s n at c k kept place d: from the node n, with a mnemonic at the place `at`, the leaf k is reached, or the number of nodes where
-- there is none. `kept` is the branch of the node spoken last, `place` the place after its mnemonic, or the one that decides why no leaf is
-- reached; `c` and `d` say whether the two places are in a common command. The branch h kept so far makes no difference.
pub data Arrives (t names s : List ℕ) (n at : ℕ) (c : Bool) : ℕ → ℕ → ℕ → Bool → Type 0 where
  arrives : {k kept place : ℕ} {d : Bool} → k < length t
      → ((h : ℕ) → Reads t names s h n (ahead_at s at c) (leaf_answer s (get_or t k 0) kept (ahead_at s place d))) → Arrives t names s n at c k kept place d
  strays : {kept place : ℕ} {d : Bool} → ((h : ℕ) → Reads t names s h n (ahead_at s at c) (refused_by (ahead_at s place d).ahead))
      → Arrives t names s n at c (length t) kept place d

-- RootLeaf t r: the leaf r of an empty header at the root, or the number of nodes. A root that is a leaf is that leaf.
pub data RootLeaf (t : List ℕ) : ℕ → Type 0 where
  root_leaf : branch t 0 ≡ false → RootLeaf t 0
  root_branch : {r : ℕ} → branch t 0 ≡ true → Settles t 0 r → RootLeaf t r

-- Empty t p r: the answer r to an empty header at the root, which the end of the text ends before the place p.
pub data Empty (t : List ℕ) (p : ℕ) : Result Header ErrorCode → Type 0 where
  found : {k : ℕ} → RootLeaf t k → k < length t → Empty t p (Ok (record { command = command_number (get_or t k 0); query = false; branch = 0; stop = stop.Text; place = p }))
  not_found : RootLeaf t (length t) → Empty t p undefined

-- no mnemonic begins at the place, with a colon before it or not
unfoldable pub bare : List ℕ → ℕ → Bool
bare s at = not (is_letter_at s at || (goes_on s at || stands_at (code "*") s at))

-- the answer r to a header that begins with no mnemonic, from any branch
unfoldable pub Otherwise : List ℕ → List ℕ → ℕ → Result Header ErrorCode → Type 0
Otherwise t s at r = (names : List ℕ) (b : ℕ) → branch t b ≡ true → Begins t names s b (ahead_at s at false) r
