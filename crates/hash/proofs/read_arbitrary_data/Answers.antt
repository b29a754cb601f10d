use Rattle.hash.proofs.Blocks.{laws}
use Rattle.hash.proofs.read_arbitrary_data.Goals as goal

pub returns-then-not-is_digit : goal.returns-then-not-is_digit
returns-then-not-is_digit c = search laws

pub returns-then-format-eq48 : goal.returns-then-format-eq48
returns-then-format-eq48 c = search laws

pub overflow_sub-format : goal.overflow_sub-format
overflow_sub-format c = search laws

pub read_definite-requires : goal.read_definite-requires
read_definite-requires c = search laws

pub returns : goal.returns
returns c = search laws
