-- A line that is written part by part.
use Rattle.std.specs.Prelude.{ℕ, ◌+◌, ◌≡◌, List, ◌++◌, length, take, drop}
use Rattle.report.specs.declared.write.Line.{Line}

-- a text was written to a buffer at a place: where it ends, what stands before its end then, and that the rest is as it was
unfoldable pub Added : List ℕ → ℕ → List ℕ → List ℕ → ℕ → Type 0
Added line at text after end = (end ≡ at + length text) × (take end after ≡ take at line ++ text) × (drop end after ≡ drop end line)

-- a text was added to a line, which is still in the same buffer
abbrev pub Adds : Line → List ℕ → Line → Type 0
Adds line text after = Added line.bytes.now line.len text after.bytes.now after.len × (after.bytes.ghost_name ≡ line.bytes.ghost_name)
