-- What may follow an item of program data.
use Rattle.std.specs.Prelude.{ℕ, List, Bool, cond, ◌||◌, leb, length, get_or, Result, Ok, Err}
use Rattle.error.specs.declared.ErrorCode.{ErrorCode}
use Rattle.kind.specs.Class.{is, is_white_space}
use Rattle.util.specs.Run.{run_end}
use Rattle.token.specs.declared.Token.{Token}

-- a token, and the place behind it
abbrev pub token : Token → ℕ → Result (Token × ℕ) ErrorCode
token t next = Ok (t, next)

abbrev pub refused : ErrorCode → Result (Token × ℕ) ErrorCode
refused e = Err e

-- the end of the text, a data separator (IEEE 488.2 7.4.2) or a unit separator (7.4.1)
unfoldable pub ends_data : List ℕ → ℕ → Bool
ends_data s at = leb (length s) at || (is "," (get_or s at 0) || is ";" (get_or s at 0))

-- an item that ends at a place: behind it perhaps white space, which is passed, and then one of these; anything else is refused
unfoldable pub followed : Token → ErrorCode → List ℕ → ℕ → Result (Token × ℕ) ErrorCode
followed t e s end = cond (ends_data s (run_end is_white_space s end)) (token t (run_end is_white_space s end)) (refused e)
