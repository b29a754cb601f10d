use Rattle.coordinate_words.proofs.Laws.{unsigned_laws}
use Rattle.coordinate_words.proofs.unsigned_coordinates.Goals as goal

pub returns-in-Ok : goal.returns-in-Ok
returns-in-Ok c = search unsigned_laws

pub returns-in-Err : goal.returns-in-Err
returns-in-Err c = search unsigned_laws

pub returns-in-Ok-read_unsigned_pair : goal.returns-in-Ok-read_unsigned_pair
returns-in-Ok-read_unsigned_pair c = search unsigned_laws

pub returns-in-Err-read_unsigned_pair : goal.returns-in-Err-read_unsigned_pair
returns-in-Err-read_unsigned_pair c = search unsigned_laws

pub returns-in-Ok-read_unsigned_triple : goal.returns-in-Ok-read_unsigned_triple
returns-in-Ok-read_unsigned_triple c = search unsigned_laws

pub returns-in-Err-read_unsigned_triple : goal.returns-in-Err-read_unsigned_triple
returns-in-Err-read_unsigned_triple c = search unsigned_laws

pub returns : goal.returns
returns c = search unsigned_laws
