use Rattle.mnemonic.proofs.Match.{laws}
use Rattle.mnemonic.proofs.mnemonic_match.Goals as goal

pub returns-then-begins_otherwise : goal.returns-then-begins_otherwise
returns-then-begins_otherwise c = search laws

pub returns-then-mnemonic_compare : goal.returns-then-mnemonic_compare
returns-then-mnemonic_compare c = search laws

pub returns-then-n-s : goal.returns-then-n-s
returns-then-n-s c = search laws

pub returns-then-m-mnemonic : goal.returns-then-m-mnemonic
returns-then-m-mnemonic c = search laws

pub slice_bounds-match_parts-end-2 : goal.slice_bounds-match_parts-end-2
slice_bounds-match_parts-end-2 c = search laws

pub slice_bounds-match_parts-count-2 : goal.slice_bounds-match_parts-count-2
slice_bounds-match_parts-count-2 c = search laws

pub slice_bounds-match_parts-start-2 : goal.slice_bounds-match_parts-start-2
slice_bounds-match_parts-start-2 c = search laws

pub slice_bounds-match_parts-end-4 : goal.slice_bounds-match_parts-end-4
slice_bounds-match_parts-end-4 c = search laws

pub slice_bounds-match_parts-count-3 : goal.slice_bounds-match_parts-count-3
slice_bounds-match_parts-count-3 c = search laws

pub slice_bounds-match_parts-start-3 : goal.slice_bounds-match_parts-start-3
slice_bounds-match_parts-start-3 c = search laws

pub returns : goal.returns
returns c = search laws

pub slice_bounds-match_parts-end-then-m-mnemonic : goal.slice_bounds-match_parts-end-then-m-mnemonic
slice_bounds-match_parts-end-then-m-mnemonic c = search laws

pub slice_bounds-match_parts-count-then-m-mnemonic : goal.slice_bounds-match_parts-count-then-m-mnemonic
slice_bounds-match_parts-count-then-m-mnemonic c = search laws

pub slice_bounds-match_parts-start-then-m-mnemonic : goal.slice_bounds-match_parts-start-then-m-mnemonic
slice_bounds-match_parts-start-then-m-mnemonic c = search laws
