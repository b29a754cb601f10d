use Rattle.name.proofs.Laws.{share_laws}
use Rattle.name.proofs.is_spelling_shared.Goals as goal

pub slice_bounds-is_same_numeric_suffix-count : goal.slice_bounds-is_same_numeric_suffix-count
slice_bounds-is_same_numeric_suffix-count c = search share_laws

pub slice_bounds-is_same_numeric_suffix-start : goal.slice_bounds-is_same_numeric_suffix-start
slice_bounds-is_same_numeric_suffix-start c = search share_laws

pub slice_bounds-is_same_numeric_suffix-count-2 : goal.slice_bounds-is_same_numeric_suffix-count-2
slice_bounds-is_same_numeric_suffix-count-2 c = search share_laws

pub slice_bounds-is_same_numeric_suffix-start-2 : goal.slice_bounds-is_same_numeric_suffix-start-2
slice_bounds-is_same_numeric_suffix-start-2 c = search share_laws

pub returns-then-not-is_same_numeric_suffix : goal.returns-then-not-is_same_numeric_suffix
returns-then-not-is_same_numeric_suffix c = search share_laws

pub slice_bounds-has_form-end : goal.slice_bounds-has_form-end
slice_bounds-has_form-end c = search share_laws

pub slice_bounds-has_form-end-2 : goal.slice_bounds-has_form-end-2
slice_bounds-has_form-end-2 c = search share_laws

pub returns : goal.returns
returns c = search share_laws
