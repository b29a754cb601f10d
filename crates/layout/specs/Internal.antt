-- What the functions look for in one node. No promise of a public function rests on this.
use Rattle.std.specs.Prelude.{ℕ, Bool, not, ◌&&◌, ◌||◌, eqb}
use Rattle.node.specs.Word.{is_branch, is_default, name_length, name_start, child_count, spare_bits}

-- the word of a root: a branch, not default, its name fields 0
unfoldable pub is_root : ℕ → Bool
is_root w = is_branch w && (not (is_default w) && (eqb (name_length w) 0 && eqb (name_start w) 0))

-- no spare bit is set, and a leaf has no children
unfoldable pub has_fields : ℕ → Bool
has_fields w = eqb (spare_bits w) 0 && (is_branch w || eqb (child_count w) 0)
