use Rattle.vinderaz.proofs.Steps.{numeric_laws}
use Rattle.vinderaz.proofs.vinderaz_numeric.Goals as goal

pub returns-then-words-lt-STEP_WORDS : goal.returns-then-words-lt-STEP_WORDS
returns-then-words-lt-STEP_WORDS c = search numeric_laws
