use Rattle.mnemonic.proofs.Bytes.{case_laws}
use Rattle.mnemonic.proofs.is_either_case.Goals as goal

pub returns-then-c-d : goal.returns-then-c-d
returns-then-c-d c = search case_laws

pub overflow_add-result : goal.overflow_add-result
overflow_add-result c = search case_laws

pub returns-then-is_capital : goal.returns-then-is_capital
returns-then-is_capital c = search case_laws

pub overflow_add-result-then-is_capital-2 : goal.overflow_add-result-then-is_capital-2
overflow_add-result-then-is_capital-2 c = search case_laws

pub returns-then-is_capital-2 : goal.returns-then-is_capital-2
returns-then-is_capital-2 c = search case_laws

pub returns : goal.returns
returns c = search case_laws
