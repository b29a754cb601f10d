-- Routes: SCPI-99 6.2.4 and IEEE 488.2 appendix A.1, the ways through the command tree that a header can mean. Nothing here says in which order
-- one is looked for.
use Rattle.std.specs.Prelude.{ℕ, ◌≡◌, List, [], ◌∷◌, true, false, get_or}
use Rattle.mnemonic.specs.Spelling.{spells}
use Rattle.node.specs.Word.{command_number}
use Rattle.node.specs.Tree.{branch, default, name_of, Child}

-- a node that a route passes: spoken, or entered unsaid
pub data Stage : Type 0 where
  by_word : ℕ → Stage
  silent : ℕ → Stage

-- Route t names h n words stages leaf kept: from the node n, by the stages in their order, to the leaf. Each word is spoken for one node,
-- in order, and a node that is not spoken is a default one. The branch kept so far is h, and `kept` the one in the end: the branch that
-- holds the node spoken last, and h where none is spoken.
pub data Route (t names : List ℕ) : ℕ → ℕ → List (List ℕ) → List Stage → ℕ → ℕ → Type 0 where
  -- no word is left, at a leaf
  here : {h leaf : ℕ} → branch t leaf ≡ false → Route t names h leaf [] [] leaf h
  -- the next word is spoken for a child
  said : {h b k leaf kept : ℕ} {w : List ℕ} {words : List (List ℕ)} {stages : List Stage}
      → Child t b k → spells (name_of t names k) w ≡ true → Route t names b k words stages leaf kept
      → Route t names h b (w ∷ words) (by_word k ∷ stages) leaf kept
  -- a default child is entered unsaid
  unsaid : {h b k leaf kept : ℕ} {words : List (List ℕ)} {stages : List Stage}
      → Child t b k → default t k ≡ true → Route t names h k words stages leaf kept
      → Route t names h b words (silent k ∷ stages) leaf kept

-- some route from the branch b is spelled by the words, ends at a leaf of the command c, and keeps the branch `kept`
pub record Leads (t names : List ℕ) (b : ℕ) (words : List (List ℕ)) (c kept : ℕ) : Type 0 where
  pub stages : List Stage
  pub leaf : ℕ
  pub route : Route t names b b words stages leaf kept
  pub command : command_number (get_or t leaf 0) ≡ c
