-- Worked examples of these definitions. They are proved in proofs/TableClaims.
use Rattle.std.specs.Prelude.{◌-◌, ◌^◌, ◌≡◌, [], ◌∷◌, Some, None}
use Rattle.kind.specs.Text.{ascii}
use Rattle.request.specs.Number.{number_of}
use Rattle.request.specs.Slash.{slash_at}
use Rattle.request.specs.Words.{words_in}

pub record Rows : Type 0 where
  pub slash : slash_at (ascii "F 1,2/41 x") 2 8 ≡ 5
  pub no_slash : slash_at (ascii "F 1,2 41/x") 2 5 ≡ 5
  pub zeros : number_of (ascii "00000000000000000000007") ≡ Some 7
  pub largest : number_of (ascii "18446744073709551615") ≡ Some (2 ^ 64 - 1)
  pub too_large : number_of (ascii "18446744073709551616") ≡ None
  pub signed : number_of (ascii "+1") ≡ None
  pub empty : number_of [] ≡ None
  pub words : words_in (ascii "F 1,20/-") 2 6 (9 ∷ 9 ∷ 9 ∷ []) ≡ record { says = Some 2; slots = 1 ∷ 20 ∷ 9 ∷ [] }
  pub too_many : words_in (ascii "1,20,3") 0 6 (9 ∷ 9 ∷ []) ≡ record { says = Some 3; slots = 1 ∷ 20 ∷ [] }
  pub dash : words_in (ascii "-") 0 1 (9 ∷ 9 ∷ []) ≡ record { says = Some 0; slots = 9 ∷ 9 ∷ [] }
  pub two_commas : words_in (ascii "1,,3") 0 4 (9 ∷ 9 ∷ []) ≡ record { says = None; slots = 1 ∷ 9 ∷ [] }
  pub last_comma : words_in (ascii "1,") 0 2 (9 ∷ 9 ∷ []) ≡ record { says = None; slots = 1 ∷ 9 ∷ [] }
  pub fault_behind : words_in (ascii "1,2x,3") 0 6 (9 ∷ 9 ∷ []) ≡ record { says = None; slots = 1 ∷ 9 ∷ [] }
