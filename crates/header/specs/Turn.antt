-- What a header goes on with at a branch.
use Rattle.error.specs.declared.ErrorCode.{ErrorCode}
use Rattle.token.specs.declared.View.{View}
use Rattle.tokenizer.specs.declared.State.{State}

pub data Turn : Type 0 where
  -- a mnemonic, and the state after it
  Word : View → State → Turn
  -- the end of the header
  Stop : Turn
  Refused : ErrorCode → Turn
