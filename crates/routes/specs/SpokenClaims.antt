-- What is proved of the nodes that a mnemonic spells, besides the promises of the functions. The proofs are in proofs/SpokenClaims.
use Rattle.std.specs.Prelude.{ℕ, ◌≡◌, List, Option}
use Rattle.spoken.specs.Spoken.{Spells}

pub record Claims : Type 0 where
  -- the mnemonic at a place spells one of the nodes of a block first, at one place after it, or none of them
  pub one_spelled : (t names s : List ℕ) (from to at : ℕ) (x y : Option (ℕ × ℕ)) → Spells t names s from to at x → Spells t names s from to at y → x ≡ y
