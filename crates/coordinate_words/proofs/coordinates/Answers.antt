use Rattle.coordinate_words.proofs.Laws.{laws}
use Rattle.coordinate_words.proofs.coordinates.Goals as goal

pub returns-in-Ok : goal.returns-in-Ok
returns-in-Ok c = search laws

pub returns-in-Err : goal.returns-in-Err
returns-in-Err c = search laws

pub returns-in-Ok-read_pair : goal.returns-in-Ok-read_pair
returns-in-Ok-read_pair c = search laws

pub returns-in-Err-read_pair : goal.returns-in-Err-read_pair
returns-in-Err-read_pair c = search laws

pub returns-in-Ok-read_triple : goal.returns-in-Ok-read_triple
returns-in-Ok-read_triple c = search laws

pub returns-in-Err-read_triple : goal.returns-in-Err-read_triple
returns-in-Err-read_triple c = search laws

pub returns : goal.returns
returns c = search laws
