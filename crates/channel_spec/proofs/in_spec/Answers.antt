use Rattle.channel_spec.proofs.Specs.{laws}
use Rattle.channel_spec.proofs.in_spec.Goals as goal

pub returns-then-is_digit : goal.returns-then-is_digit
returns-then-is_digit c = search laws

pub returns-then-is_sign : goal.returns-then-is_sign
returns-then-is_sign c = search laws

pub returns : goal.returns
returns c = search laws
