use Rattle.table.proofs.Verdicts.{blocks_follow', ready', check_laws}
use Rattle.table.proofs.check.Goals as goal

pub returns-then-has_wrong_count : goal.returns-then-has_wrong_count
returns-then-has_wrong_count c = search check_laws

pub returns-then-has_wrong_fields : goal.returns-then-has_wrong_fields
returns-then-has_wrong_fields c = search check_laws

pub returns-then-has_wrong_blocks : goal.returns-then-has_wrong_blocks
returns-then-has_wrong_blocks c = search check_laws

pub returns-then-has_wrong_name : goal.returns-then-has_wrong_name
returns-then-has_wrong_name c = search check_laws

pub has_two_defaults-requires : goal.has_two_defaults-requires
has_two_defaults-requires c = blocks_follow' _ _ c.has_wrong_blocks.ensures c.if-has_wrong_blocks.false

pub returns-then-has_two_defaults : goal.returns-then-has_two_defaults
returns-then-has_two_defaults c = search check_laws

pub has_shared_spelling-requires : goal.has_shared_spelling-requires
has_shared_spelling-requires c =
    ready' _ _ c.has_wrong_blocks.ensures c.if-has_wrong_blocks.false _ _ c.has_wrong_name.ensures c.if-has_wrong_name.false _ c.has_two_defaults.ensures c.if-has_two_defaults.false

pub returns-then-has_shared_spelling : goal.returns-then-has_shared_spelling
returns-then-has_shared_spelling c = search check_laws

pub returns : goal.returns
returns c = search check_laws
