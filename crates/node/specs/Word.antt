-- The node word has 64 bits. Its fields and their widths, most significant first: branch 1, default 1, name length 4, name start 16,
-- first child or command 16, child count 16, spare 10.
use Rattle.std.specs.Prelude.{ℕ, ◌+◌, ◌/◌, ◌%◌, ◌^◌, List, [], Bool, cond, eqb, leb, length, take, drop, get_or}

-- so many bits of a word, with so many below them
abbrev pub field : ℕ → ℕ → ℕ → ℕ
field width below w = w / 2 ^ below % 2 ^ width

-- a branch has children, a leaf a command
unfoldable pub is_branch : ℕ → Bool
is_branch w = eqb (field 1 63 w) 1

-- SCPI-99 6.2.4: a default node may be left unsaid
unfoldable pub is_default : ℕ → Bool
is_default w = eqb (field 1 62 w) 1

unfoldable pub name_length : ℕ → ℕ
name_length = field 4 58

unfoldable pub name_start : ℕ → ℕ
name_start = field 16 42

-- a branch's children are a block of nodes, and this is the first
unfoldable pub first_child : ℕ → ℕ
first_child = field 16 26

-- a leaf has its command number where a branch has its first child
unfoldable pub command_number : ℕ → ℕ
command_number = field 16 26

unfoldable pub child_count : ℕ → ℕ
child_count = field 16 10

unfoldable pub spare_bits : ℕ → ℕ
spare_bits = field 10 0

-- the name of a node, a part of the text of names; empty where it does not lie in the text
unfoldable pub name_in : List ℕ → ℕ → List ℕ
name_in names w =
    cond (leb (name_start w + name_length w) (length names)) (take (name_length w) (drop (name_start w) names)) []

-- The byte at which the name of a node begins, 0 where that is outside the text. It is the first byte of the name, where the node has one.
unfoldable pub initial_in : List ℕ → ℕ → ℕ
initial_in names w = get_or names (name_start w) 0
