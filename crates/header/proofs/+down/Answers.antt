use mathlib.Core.Path.{ap}
use mathlib.Core.Bool.{not}
use Rattle.header.proofs.Walks.{down_laws, is_branch', star_begins', child_less', goes_down', star_down', stops_here', stuck', inner_less', unsaid_down'}
use Rattle.header.proofs.+down.Goals as goal

pub returns-then-not-is_branch : goal.returns-then-not-is_branch
returns-then-not-is_branch t c = search down_laws

pub returns-then-common : goal.returns-then-common
returns-then-common t c = search down_laws

pub down-requires : goal.down-requires
down-requires t c = (search down_laws, (search down_laws, search down_laws))

pub returns-then-goes_on : goal.returns-then-goes_on
returns-then-goes_on t c =
    goes_down' _ _ _ _ _ _ c.requires.0 c.requires.1 _ c.children-block.ensures _ c.spelled_in.ensures _ _ c.in-Some.is _ c.is_branch.ensures (ap not c.if-not-is_branch.false) _ c.goes_on.ensures c.if-goes_on.true c.if-common.false _ c.after-first.ensures _ _ _ _ c.down.ensures

pub returns-then-ends : goal.returns-then-ends
returns-then-ends t c = search down_laws

pub down-requires-then-stands : goal.down-requires-then-stands
down-requires-then-stands t c =
    (child_less' _ _ _ _ _ _ c.children-block.ensures _ c.spelled_in.ensures _ _ c.in-Some.is _ c.decreases, (search (is_branch', c.is_branch.ensures, ap not c.if-not-is_branch.false), star_begins' _ _ _ c.stands.ensures c.if-stands.true))

pub returns-then-stands : goal.returns-then-stands
returns-then-stands t c =
    star_down' _ _ _ _ _ _ c.requires.0 c.requires.1 _ c.children-block.ensures _ c.spelled_in.ensures _ _ c.in-Some.is _ c.is_branch.ensures (ap not c.if-not-is_branch.false) _ c.goes_on.ensures c.if-goes_on.false _ c.ends.ensures c.if-ends.false _ c.stands.ensures c.if-stands.true _ _ _ _ c.down-then-stands.ensures

pub returns-then-stops : goal.returns-then-stops
returns-then-stops t c =
    stops_here' _ _ _ _ _ _ c.requires.0 c.requires.1 _ c.children-block.ensures _ c.spelled_in.ensures _ _ c.in-Some.is _ c.is_branch.ensures (ap not c.if-not-is_branch.false) _ c.goes_on.ensures c.if-goes_on.false _ c.ends.ensures c.if-ends.false _ c.stands.ensures c.if-stands.false _ c.stops.ensures c.if-stops.true _ c.default_leaf-then-stops.ensures

pub returns-in-None-default_in : goal.returns-in-None-default_in
returns-in-None-default_in t c = search down_laws

pub returns-then-not-is_branch-2 : goal.returns-then-not-is_branch-2
returns-then-not-is_branch-2 t c = search down_laws

pub down-requires-in-Some-default_in : goal.down-requires-in-Some-default_in
down-requires-in-Some-default_in t c =
    (inner_less' _ _ _ c.children-block.ensures _ c.default_in.ensures _ c.in-Some-default_in.is _ c.decreases, (search (is_branch', c.is_branch-in-Some-default_in.ensures, ap not c.if-not-is_branch-2.false), c.requires.1))

pub returns-else-stops : goal.returns-else-stops
returns-else-stops t c =
    stuck' _ _ _ _ _ _ c.requires.0 c.requires.1 _ c.children-block.ensures _ c.spelled_in.ensures _ _ c.in-Some.is _ c.is_branch.ensures (ap not c.if-not-is_branch.false) _ c.goes_on.ensures c.if-goes_on.false _ c.ends.ensures c.if-ends.false _ c.stands.ensures c.if-stands.false _ c.stops.ensures c.if-stops.false

pub returns-else-not-is_branch-2 : goal.returns-else-not-is_branch-2
returns-else-not-is_branch-2 t c =
    unsaid_down' _ _ _ _ _ _ c.requires.0 c.requires.1 _ c.children-block.ensures _ c.spelled_in.ensures c.in-None.is _ c.default_in.ensures _ c.in-Some-default_in.is _ c.is_branch-in-Some-default_in.ensures (ap not c.if-not-is_branch-2.false) _ _ _ _ c.down-in-Some-default_in.ensures
