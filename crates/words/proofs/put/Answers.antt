use Rattle.words.proofs.Words.{put_laws}
use Rattle.words.proofs.put.Goals as goal

pub returns-then-words-lt-STEP_WORDS : goal.returns-then-words-lt-STEP_WORDS
returns-then-words-lt-STEP_WORDS c = search put_laws

pub returns : goal.returns
returns c = search put_laws
