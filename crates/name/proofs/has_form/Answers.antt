use Rattle.name.proofs.Laws.{form_laws}
use Rattle.name.proofs.has_form.Goals as goal

pub returns-then-mnemonic_compare : goal.returns-then-mnemonic_compare
returns-then-mnemonic_compare c = search form_laws

pub returns-then-short-letters : goal.returns-then-short-letters
returns-then-short-letters c = search form_laws

pub slice_bounds-mnemonic_compare-end : goal.slice_bounds-mnemonic_compare-end
slice_bounds-mnemonic_compare-end c = search form_laws

pub returns : goal.returns
returns c = search form_laws
