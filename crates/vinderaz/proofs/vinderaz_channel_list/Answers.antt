use Rattle.vinderaz.proofs.Steps.{open_laws}
use Rattle.vinderaz.proofs.vinderaz_channel_list.Goals as goal

pub returns-then-words-lt-STEP_WORDS : goal.returns-then-words-lt-STEP_WORDS
returns-then-words-lt-STEP_WORDS c = search open_laws
