-- A header read token by token from a branch on, well formed or not, in any table at all. What this is for a well-formed header in an
-- accepted table is said by routes, in the claims of the crate tree.
use Rattle.std.specs.Prelude.{ℕ, ◌≡◌, List, Bool, true, false, get_or, Result, Ok, Err, Some, None}
use Prim.Native.Char.{code}
use Rattle.error.specs.declared.ErrorCode.{ErrorCode}
use Rattle.error.specs.declared.ErrorCode.TheVariants as refusal
use Rattle.util.specs.Run.{stands_at}
use Rattle.node.specs.Word.{command_number}
use Rattle.node.specs.Tree.{branch}
use Rattle.branch.specs.Children.{unsaid_in, Picks}
use Rattle.token.specs.View.{part_of}
use Rattle.token.specs.declared.View.{View}
use Rattle.tokenizer.specs.declared.State.{State}
use Rattle.spoken.specs.Spoken.{spoken_by}
use Rattle.ahead.specs.Seen.{seen_with, seen_at}
use Rattle.ahead.specs.declared.Stop.{Stop}
use Rattle.ahead.specs.declared.Ahead.{Ahead}
use Rattle.ahead.specs.declared.Ahead.TheVariants as ahead
use Rattle.ahead.specs.declared.Seen.{Seen}
use Rattle.header.specs.Turn.{Turn}
use Rattle.header.specs.Turn as turn
use Rattle.header.specs.declared.Header.{Header}

-- SCPI-99 21.8: undefined header, -113
abbrev pub undefined : Result Header ErrorCode
undefined = Err refusal.UndefinedHeader

-- IEEE 488.2 7.6.2: after a question mark the header ends. The token step lets nothing else follow; it would be -102.
abbrev pub behind_query : ℕ → ℕ → State → Ahead → Result Header ErrorCode
behind_query leaf h st (ahead.Stop x) = Ok (record { command = command_number leaf; query = true; branch = h; stop = x; place = st.place })
behind_query leaf h st (ahead.Refused e) = Err e
behind_query leaf h st ahead.Query = Err refusal.SyntaxError
behind_query leaf h st (ahead.Word w) = Err refusal.SyntaxError
behind_query leaf h st ahead.Colon = Err refusal.SyntaxError

unfoldable pub query_answer : ℕ → ℕ → Seen → Result Header ErrorCode
query_answer leaf h seen = behind_query leaf h seen.state seen.ahead

-- IEEE 488.2 7.6: at a leaf, given by its node word, the header ends, with a question mark or without; or it goes on, and is -113.
abbrev pub answer_at_leaf : List ℕ → ℕ → ℕ → State → Ahead → Result Header ErrorCode
answer_at_leaf s leaf h st (ahead.Stop x) = Ok (record { command = command_number leaf; query = false; branch = h; stop = x; place = st.place })
answer_at_leaf s leaf h st ahead.Query = query_answer leaf h (seen_at s st)
answer_at_leaf s leaf h st (ahead.Refused e) = Err e
answer_at_leaf s leaf h st (ahead.Word w) = undefined
answer_at_leaf s leaf h st ahead.Colon = undefined

unfoldable pub leaf_answer : List ℕ → ℕ → ℕ → Seen → Result Header ErrorCode
leaf_answer s leaf h seen = answer_at_leaf s leaf h seen.state seen.ahead

-- IEEE 488.2 7.6.1: after a colon a mnemonic follows, or the header is -110. The token step lets only a mnemonic, or the end of the text,
-- follow; a mnemonic that is too long stays -112.
abbrev pub word_behind : State → Ahead → Turn
word_behind st (ahead.Word w) = turn.Word w st
word_behind st (ahead.Refused e) = turn.Refused e
word_behind st (ahead.Stop x) = turn.Refused refusal.CommandHeaderError
word_behind st ahead.Query = turn.Refused refusal.CommandHeaderError
word_behind st ahead.Colon = turn.Refused refusal.CommandHeaderError

unfoldable pub behind_colon : Seen → Turn
behind_colon seen = word_behind seen.state seen.ahead

-- IEEE 488.2 7.6.1: at a branch the header ends, or a mnemonic follows, with a colon before it or not.
abbrev pub at_branch : List ℕ → State → Ahead → Turn
at_branch s st (ahead.Word w) = turn.Word w st
at_branch s st (ahead.Stop x) = turn.Stop
at_branch s st ahead.Query = turn.Stop
at_branch s st (ahead.Refused e) = turn.Refused e
at_branch s st ahead.Colon = behind_colon (seen_at s st)

unfoldable pub turn_of : List ℕ → Seen → Turn
turn_of s seen = at_branch s seen.state seen.ahead

-- Reads h n seen r: the answer r from the node n on, with what is seen ahead. The branch kept so far is h: it holds the node that was
-- spoken last, or is where the header starts.
pub data Reads (t names s : List ℕ) : ℕ → ℕ → Seen → Result Header ErrorCode → Type 0 where
  leaf : {h n : ℕ} {seen : Seen} → branch t n ≡ false → Reads t names s h n seen (leaf_answer s (get_or t n 0) h seen)
  -- a token that is refused at a branch
  refused : {h n : ℕ} {seen : Seen} {e : ErrorCode} → branch t n ≡ true → turn_of s seen ≡ turn.Refused e → Reads t names s h n seen (Err e)
  -- a word that is spoken for a child; the header goes on from there with the next token
  said : {h n k : ℕ} {seen : Seen} {w : View} {st : State} {r : Result Header ErrorCode} → branch t n ≡ true → turn_of s seen ≡ turn.Word w st
      → Picks t n (spoken_by t names (part_of s w)) (Some k) → Reads t names s n k (seen_at s st) r
      → Reads t names s h n seen r
  -- a word that is spoken for no child; the default child is entered unsaid, with the word still ahead
  unsaid : {h n k : ℕ} {seen : Seen} {w : View} {st : State} {r : Result Header ErrorCode} → branch t n ≡ true → turn_of s seen ≡ turn.Word w st
      → Picks t n (spoken_by t names (part_of s w)) None → Picks t n (unsaid_in t) (Some k) → Reads t names s h k (seen_with (ahead.Word w) st) r
      → Reads t names s h n seen r
  -- and where there is no default child, what follows the word is not read
  unknown : {h n : ℕ} {seen : Seen} {w : View} {st : State} → branch t n ≡ true → turn_of s seen ≡ turn.Word w st
      → Picks t n (spoken_by t names (part_of s w)) None → Picks t n (unsaid_in t) None
      → Reads t names s h n seen undefined
  -- the header ends at a branch; the default child is entered unsaid
  ended : {h n k : ℕ} {seen : Seen} {r : Result Header ErrorCode} → branch t n ≡ true → turn_of s seen ≡ turn.Stop
      → Picks t n (unsaid_in t) (Some k) → Reads t names s h k seen r
      → Reads t names s h n seen r
  nowhere : {h n : ℕ} {seen : Seen} → branch t n ≡ true → turn_of s seen ≡ turn.Stop → Picks t n (unsaid_in t) None
      → Reads t names s h n seen undefined

-- IEEE 488.2 7.6.1: the word of a common command begins with a star
abbrev pub is_common : List ℕ → View → Bool
is_common s w = stands_at (code "*") (part_of s w) 0

-- the same answer, with the branch b kept
abbrev pub keeping : ℕ → Result Header ErrorCode → Result Header ErrorCode
keeping b (Ok h) = Ok (record h { branch = b })
keeping b (Err e) = Err e

-- The header of a unit from the branch b on, with its first token seen.
pub data Begins (t names s : List ℕ) (b : ℕ) (seen : Seen) : Result Header ErrorCode → Type 0 where
  no_branch : branch t b ≡ false → Begins t names s b seen (Err refusal.StartIsNoBranch)
  first_refused : {e : ErrorCode} → branch t b ≡ true → seen.ahead ≡ ahead.Refused e → Begins t names s b seen (Err e)
  -- IEEE 488.2 7.6: a header begins with a mnemonic or a colon; white space, `;` or the end of the text begins none
  no_header : {x : Stop} → branch t b ≡ true → seen.ahead ≡ ahead.Stop x → Begins t names s b seen (Err refusal.SyntaxError)
  no_question : branch t b ≡ true → seen.ahead ≡ ahead.Query → Begins t names s b seen (Err refusal.SyntaxError)
  -- SCPI-99 6.2.4: a leading colon starts at the root. Alone at the end of the text it resolves an empty header there.
  from_root : {r : Result Header ErrorCode} → branch t b ≡ true → seen.ahead ≡ ahead.Colon → Reads t names s 0 0 (seen_at s seen.state) r
      → Begins t names s b seen r
  -- IEEE 488.2 appendix A.1.1: a common command starts at the root, and the branch stays
  common : {w : View} {r : Result Header ErrorCode} → branch t b ≡ true → seen.ahead ≡ ahead.Word w → is_common s w ≡ true
      → Reads t names s 0 0 seen r → Begins t names s b seen (keeping b r)
  from_branch : {w : View} {r : Result Header ErrorCode} → branch t b ≡ true → seen.ahead ≡ ahead.Word w → is_common s w ≡ false
      → Reads t names s b b seen r → Begins t names s b seen r
