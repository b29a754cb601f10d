use Rattle.header.proofs.Tokens.{leaf_laws}
use Rattle.header.proofs.at_leaf.Goals as goal

pub returns-in-Stop : goal.returns-in-Stop
returns-in-Stop c = search leaf_laws

pub returns-in-Query : goal.returns-in-Query
returns-in-Query c = search leaf_laws

pub returns-in-Refused : goal.returns-in-Refused
returns-in-Refused c = search leaf_laws

pub returns-in-Word : goal.returns-in-Word
returns-in-Word c = search leaf_laws

pub returns-in-Colon : goal.returns-in-Colon
returns-in-Colon c = search leaf_laws
