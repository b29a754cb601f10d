-- A view of the text, and the part that it is.
use Rattle.std.specs.Prelude.{ℕ, ◌-◌, List, [], cond, ◌&&◌, leb, length, take, drop}
use Rattle.token.specs.declared.View.{View}

-- the view from one place up to another
abbrev pub view_of : ℕ → ℕ → View
view_of start end = record { start = start; end = end }

-- the part that a view is, and none of the text where its places do not fit
unfoldable pub part_of : List ℕ → View → List ℕ
part_of s v = cond (leb v.end (length s) && leb v.start v.end) (take (v.end - v.start) (drop v.start s)) []
