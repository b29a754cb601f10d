-- Channel specs, SCPI-99 8.3.2: where one ends, and its dimension.
use Rattle.std.specs.Prelude.{ℕ, suc, ◌+◌, List, [], ◌∷◌, Bool, cond, ◌||◌, eqb}
use Rattle.kind.specs.Class.{is, is_digit, is_sign}
use Rattle.util.specs.Run.{run_end}
use Rattle.token.specs.View.{view_of, part_of}
use Rattle.channel_spec.specs.declared.ChannelSpec.{ChannelSpec}

-- what may stand in a channel spec: digits, signs and `!`, in any order; SCPI-99 8.3.2 has integers joined by `!` (docs/DIFFERENCES.md)
unfoldable pub in_spec : ℕ → Bool
in_spec b = is_digit b || (is_sign b || is "!" b)

-- 1 for a `!`, 0 for any other character
unfoldable pub bang : ℕ → ℕ
bang b = cond (is "!" b) 1 0

-- how many `!` a text has
unfoldable pub bangs : List ℕ → ℕ
bangs [] = 0
bangs (b ∷ t) = bang b + bangs t

-- SCPI-99 8.3.2: the dimension of a channel spec, one more than it has `!`
unfoldable pub dimension_of : List ℕ → ℕ
dimension_of t = suc (bangs t)

-- the characters of a spec that begin at a place, perhaps none, with the dimension of that part of the text
unfoldable pub spec_to : List ℕ → ℕ → ℕ → ChannelSpec
spec_to s at end = record { view = view_of at end; dimension = dimension_of (part_of s (view_of at end)) }

unfoldable pub spec_at : List ℕ → ℕ → ChannelSpec
spec_at s at = spec_to s at (run_end in_spec s at)

-- a spec of no characters
unfoldable pub is_empty : ChannelSpec → Bool
is_empty c = eqb c.view.start c.view.end
