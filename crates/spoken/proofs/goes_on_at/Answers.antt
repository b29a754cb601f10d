use Rattle.spoken.proofs.Bytes.{goes_laws}
use Rattle.spoken.proofs.goes_on_at.Goals as goal

pub returns-then-s-at : goal.returns-then-s-at
returns-then-s-at c = search goes_laws

pub returns-then-b-lt48 : goal.returns-then-b-lt48
returns-then-b-lt48 c = search goes_laws

pub returns-then-b-le57 : goal.returns-then-b-le57
returns-then-b-le57 c = search goes_laws

pub returns-then-b-lt65 : goal.returns-then-b-lt65
returns-then-b-lt65 c = search goes_laws

pub returns : goal.returns
returns c = search goes_laws
