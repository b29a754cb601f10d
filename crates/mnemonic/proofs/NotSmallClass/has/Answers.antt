use Rattle.mnemonic.proofs.Bytes.{laws}
use Rattle.mnemonic.proofs.NotSmallClass.has.Goals as goal

pub returns : goal.returns
returns c = search laws
