use Rattle.vinderaz.proofs.Steps.{token_laws}
use Rattle.vinderaz.proofs.vinderaz_token.Goals as goal

pub returns-then-words-lt-STEP_WORDS : goal.returns-then-words-lt-STEP_WORDS
returns-then-words-lt-STEP_WORDS c = search token_laws
