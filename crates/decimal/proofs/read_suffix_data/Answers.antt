use Rattle.decimal.proofs.Decimals.{suffixes}
use Rattle.decimal.proofs.read_suffix_data.Goals as goal

pub returns-then-not-begins_suffix : goal.returns-then-not-begins_suffix
returns-then-not-begins_suffix c = search suffixes

pub overflow_sub-end : goal.overflow_sub-end
overflow_sub-end c = search suffixes

pub returns-then-end-at-gt-LONGEST_MNEMONIC : goal.returns-then-end-at-gt-LONGEST_MNEMONIC
returns-then-end-at-gt-LONGEST_MNEMONIC c = search suffixes

pub returns : goal.returns
returns c = search suffixes
