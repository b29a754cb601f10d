-- A text in hex, written into a buffer.
use Rattle.std.specs.Prelude.{ℕ, ◌+◌, List, ◌++◌, cond, ◌&&◌, leb, length, take, drop, Option, Some, None}
use Rattle.std.proofs.Math.Seq.{slice}
use Rattle.request.specs.Hex.{text_of}

-- what is answered, and what the buffer then holds
pub record Outcome : Type 0 where
  pub says : Option ℕ
  pub slots : List ℕ

-- a refusal writes nothing
abbrev pub refused : List ℕ → Outcome
refused out = record { says = None; slots = out }

-- a text takes the place of as many bytes of the buffer, from a place on; the answer is the place behind it
abbrev pub written : List ℕ → ℕ → List ℕ → Outcome
written out at t = record { says = Some (at + length t); slots = take at out ++ t ++ drop (at + length t) out }

-- a text is written where there is one and the buffer has room for it
unfoldable pub put : List ℕ → ℕ → Option (List ℕ) → Outcome
put out at None = refused out
put out at (Some t) = cond (leb (at + length t) (length out)) (written out at t) (refused out)

-- what the line says from one place up to another, written from a place of the buffer on
unfoldable pub unhexed : List ℕ → ℕ → ℕ → List ℕ → ℕ → Outcome
unhexed line from to out at = put out at (cond (leb from to && leb to (length line)) (text_of (slice from to line)) None)
