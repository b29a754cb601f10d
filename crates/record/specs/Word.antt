-- The word of a message unit has 64 bits. Its fields and their widths, most significant first: command 16, query 1, branch 16, items 16,
-- zero 15.
use Rattle.std.specs.Prelude.{ℕ, ◌+◌, ◌*◌, ◌/◌, ◌%◌, ◌^◌, Bool, true, false, eqb}
use Rattle.record.specs.declared.Record.{Record}

-- a value in so many bits of a word, with so many below them, where of a larger value the last bits stand; and what stands there
abbrev pub placed : ℕ → ℕ → ℕ → ℕ
placed width below v = v % 2 ^ width * 2 ^ below

abbrev pub field : ℕ → ℕ → ℕ → ℕ
field width below w = w / 2 ^ below % 2 ^ width

-- the bit is set for a query (IEEE 488.2 7.6.2), and clear for a command (7.6.1)
abbrev pub bit : Bool → ℕ
bit true = 1
bit false = 0

unfoldable pub word_of : Record → ℕ
word_of u = placed 16 48 u.command + placed 1 47 (bit u.query) + placed 16 31 u.branch + placed 16 15 u.items

unfoldable pub record_in : ℕ → Record
record_in w = record { command = field 16 48 w; query = eqb (field 1 47 w) 1; branch = field 16 31 w; items = field 16 15 w }
