use Rattle.request.proofs.Texts.{laws}
use Rattle.request.proofs.unhex.Goals as goal
use Rattle.request.proofs.unhex.Goals.{then-not-are_pairs-via-then-not-are_pairs, then-not-are_pairs-via-else-not-are_pairs+then-room-hex}

pub returns-in_err-hex : goal.returns-in_err-hex
returns-in_err-hex c = search (laws, c.in_err-hex.ensures.lookup)

pub returns-in_err-room : goal.returns-in_err-room
returns-in_err-room c = search (laws, c.in_err-room.ensures)

pub returns-then-is_dash : goal.returns-then-is_dash
returns-then-is_dash c = search (laws, c.in_ok-hex.ensures.lookup, c.in_ok-room.ensures)

pub returns-then-not-are_pairs : goal.returns-then-not-are_pairs
returns-then-not-are_pairs c =
    elim c.then-not-are_pairs.branch [
      | then-not-are_pairs-via-then-not-are_pairs w ↦ search (laws, c.in_ok-hex.ensures.lookup)
      | then-not-are_pairs-via-else-not-are_pairs+then-room-hex w ↦ search (laws, c.in_ok-hex.ensures.lookup, c.in_ok-room.ensures)
    ]

pub returns : goal.returns
returns c = search (laws, c.in_ok-hex.ensures.lookup, c.in_ok-room.ensures)
