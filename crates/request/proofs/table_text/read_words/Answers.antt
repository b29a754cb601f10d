use Rattle.request.proofs.Stores.{laws}
use Rattle.request.proofs.table_text.read_words.Goals as goal

pub returns-in_err-words : goal.returns-in_err-words
returns-in_err-words c = search (laws, c.in_err-words.ensures.lookup)

pub returns-then-is_dash : goal.returns-then-is_dash
returns-then-is_dash c = search (laws, c.in_ok-words.ensures.lookup)

pub returns : goal.returns
returns c = search (laws, c.in_ok-words.ensures.lookup)
