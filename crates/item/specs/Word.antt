-- Words: the program mnemonic, IEEE 488.2 7.6.1, and character program data, 7.7.1.
use Rattle.std.specs.Prelude.{ℕ, ◌+◌, ◌-◌, List, cond, leb, Result}
use Prim.Native.Char.{code}
use Rattle.error.specs.declared.ErrorCode.TheVariants.{ProgramMnemonicTooLong, InvalidCharacterData, CharacterDataTooLong}
use Rattle.kind.specs.Class.{in_mnemonic}
use Rattle.util.specs.Run.{run_end, stands_at}
use Rattle.token.specs.View.{view_of}
use Rattle.token.specs.declared.Token.TheVariants.{ProgramMnemonic, CharacterProgramData}
use Rattle.item.specs.Follow.{token, refused, followed}
use Rattle.error.specs.declared.ErrorCode.{ErrorCode}
use Rattle.token.specs.declared.Token.{Token}

-- the place behind an optional star
unfoldable pub star_end : List ℕ → ℕ → ℕ
star_end s at = cond (stands_at (code "*") s at) (at + 1) at

-- IEEE 488.2 7.6.1: letters, digits and underscores, a star before them or not, 12 characters at most with the star; the standard
-- does not count the star, and has a letter first (docs/DIFFERENCES.md)
unfoldable pub mnemonic : List ℕ → ℕ → Result (Token × ℕ) ErrorCode
mnemonic s at =
    cond (leb (run_end in_mnemonic s (star_end s at) - at) 12)
    (token (ProgramMnemonic (view_of at (run_end in_mnemonic s (star_end s at)))) (run_end in_mnemonic s (star_end s at)))
    (refused ProgramMnemonicTooLong)

-- IEEE 488.2 7.7.1: letters, digits and underscores, 12 characters at most
unfoldable pub character_data : List ℕ → ℕ → Result (Token × ℕ) ErrorCode
character_data s at =
    cond (leb (run_end in_mnemonic s at - at) 12)
    (followed (CharacterProgramData (view_of at (run_end in_mnemonic s at))) InvalidCharacterData s (run_end in_mnemonic s at))
    (refused CharacterDataTooLong)
