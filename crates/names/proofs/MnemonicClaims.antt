-- The claims.
use Prim.Native.Nat.{ℕ}
use mathlib.Core.List.{List}
use lib.ListN.{take-append-drop}
use Rattle.mnemonic.specs.Mnemonic.{numeric_suffix_start}
use Rattle.names.specs.MnemonicClaims.{Split, Claims}
use Rattle.mnemonic.proofs.Split.{starts_within, split_digits, split_before}
use Rattle.names.proofs.Spelling.{match_spells, forms_of}

splits : (s : List ℕ) → Split s
splits s = record { inside = starts_within s; whole = take-append-drop (numeric_suffix_start s) s; digits = split_digits s; before = split_before s }

pub claims : Claims
claims = record { splits = splits; forms = forms_of; match_spells = λ n w name. match_spells n name w }
