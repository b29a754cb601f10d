use Rattle.hash.proofs.Blocks.{hashes}
use Rattle.hash.proofs.read_hash_data.Goals as goal

pub returns-then-s-at : goal.returns-then-s-at
returns-then-s-at c = search hashes

pub returns-then-is_digit : goal.returns-then-is_digit
returns-then-is_digit c = search hashes

pub returns-in-72 : goal.returns-in-72
returns-in-72 c = search hashes

pub returns-in-81 : goal.returns-in-81
returns-in-81 c = search hashes

pub returns-in-66 : goal.returns-in-66
returns-in-66 c = search hashes

pub returns-in_default : goal.returns-in_default
returns-in_default c = search hashes
