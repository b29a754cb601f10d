-- The grammar of what follows an item of program data.
use Rattle.std.specs.Prelude.{ℕ, ◌+◌, ◌≡◌, List, ◌++◌, true, length, drop}
use Rattle.kind.specs.Class.{is_white_space}
use Rattle.util.specs.Run.{every}
use Rattle.item.specs.Follow.{ends_data}

-- What may follow an item: white space, and then the end of the text, `,` or `;`.
pub record Follows (t : List ℕ) : Type 0 where
  pub white : List ℕ
  pub rest : List ℕ
  pub parts : t ≡ white ++ rest
  pub all_white : every is_white_space white ≡ true
  pub ends : ends_data rest 0 ≡ true

-- An item that ends at a place is followed so, and `next` is the place behind the white space.
pub record Ended (s : List ℕ) (end next : ℕ) : Type 0 where
  pub follows : Follows (drop end s)
  pub behind : next ≡ end + length follows.white
