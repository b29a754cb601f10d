-- Well-formed headers, IEEE 488.2 7.6.1 and 7.6.2, as bytes; and what the token step makes of them.
use Rattle.std.specs.Prelude.{ℕ, ◌≤◌, ◌≡◌, List, [], ◌∷◌, ◌++◌, Bool, true, false, cond, length, get_or}
use Rattle.kind.specs.Text.{ascii}
use Rattle.kind.specs.Class.{is_letter, in_mnemonic}
use Rattle.util.specs.Run.{every}
use Rattle.token.specs.View.{part_of}
use Rattle.token.specs.declared.View.{View}
use Rattle.token.specs.declared.Token.{Token}
use Rattle.token.specs.declared.Token.TheVariants.{HeaderMnemonicSeparator, HeaderQuerySuffix, ProgramMnemonic}
use Rattle.tokenizer.specs.Step.{step}
use Rattle.tokenizer.specs.declared.State.{State}
use Rattle.tokenizer.specs.declared.Answer.TheVariants as answer

-- IEEE 488.2 7.6.1.2: a letter and then letters, digits and underscores, 12 characters at most
pub record Mnemonic (w : List ℕ) : Type 0 where
  pub begins : is_letter (get_or w 0 0) ≡ true
  pub all : every in_mnemonic w ≡ true
  pub short : length w ≤ 12

-- IEEE 488.2 7.6.1.2: one or more mnemonics joined by single colons
pub data Joined : List (List ℕ) → List ℕ → Type 0 where
  last : {w : List ℕ} → Mnemonic w → Joined (w ∷ []) w
  before : {w text : List ℕ} {words : List (List ℕ)} → Mnemonic w → Joined words text → Joined (w ∷ words) (w ++ (ascii ":" ++ text))

-- A header of these mnemonics, none with a star: perhaps a colon before them, which starts at the root, and perhaps a question mark
-- behind them, and no other byte. The text is no longer than 65,535 bytes.
pub record WellFormed (s : List ℕ) (rooted : Bool) (words : List (List ℕ)) (query : Bool) : Type 0 where
  pub mnemonics : List ℕ
  pub joins : Joined words mnemonics
  pub text : s ≡ cond rooted (ascii ":") [] ++ (mnemonics ++ cond query (ascii "?") [])
  pub fits : length s ≤ 65535

-- IEEE 488.2 7.6.1.2: the header of a common command: a star and one mnemonic, 12 characters at most with the star, and perhaps a
-- question mark
pub record Common (s word : List ℕ) (query : Bool) : Type 0 where
  pub mnemonic : List ℕ
  pub starred : word ≡ ascii "*" ++ mnemonic
  pub begins : is_letter (get_or mnemonic 0 0) ≡ true
  pub all : every in_mnemonic mnemonic ≡ true
  pub short : length word ≤ 12
  pub text : s ≡ word ++ cond query (ascii "?") []

-- the tokens from a state to the end of the text, none refused
pub data Tokens (s : List ℕ) : State → List Token → Type 0 where
  no_more : {st : State} → (step s st).answer ≡ answer.End → Tokens s st []
  next : {st : State} {token : Token} {tokens : List Token} → (step s st).answer ≡ answer.Token token → Tokens s (step s st).state tokens
      → Tokens s st (token ∷ tokens)

-- the tokens are a mnemonic for each word, a colon between two of them, and a question mark behind the last of a query
pub data Shown (s : List ℕ) : List (List ℕ) → Bool → List Token → Type 0 where
  event : {v : View} {w : List ℕ} → part_of s v ≡ w → Shown s (w ∷ []) false (ProgramMnemonic v ∷ [])
  query : {v : View} {w : List ℕ} → part_of s v ≡ w → Shown s (w ∷ []) true (ProgramMnemonic v ∷ HeaderQuerySuffix ∷ [])
  then : {v : View} {w : List ℕ} {words : List (List ℕ)} {q : Bool} {tokens : List Token} → part_of s v ≡ w → Shown s words q tokens
      → Shown s (w ∷ words) q (ProgramMnemonic v ∷ HeaderMnemonicSeparator ∷ tokens)
