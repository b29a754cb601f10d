use Rattle.vinderaz.proofs.Steps.{channel_laws}
use Rattle.vinderaz.proofs.vinderaz_channel.Goals as goal

pub returns-then-words-lt-STEP_WORDS : goal.returns-then-words-lt-STEP_WORDS
returns-then-words-lt-STEP_WORDS c = search channel_laws
