use Rattle.items.proofs.Forms.{forms}
use Rattle.items.proofs.read_item.Goals as goal

pub returns-then-s-at : goal.returns-then-s-at
returns-then-s-at c = search forms

pub returns-then-b-eq40 : goal.returns-then-b-eq40
returns-then-b-eq40 c = search forms

pub returns-then-is_letter : goal.returns-then-is_letter
returns-then-is_letter c = search forms

pub returns-then-begins_number : goal.returns-then-begins_number
returns-then-begins_number c = search forms

pub no_item-requires : goal.no_item-requires
no_item-requires c = search forms

pub returns-in-34 : goal.returns-in-34
returns-in-34 c = search forms

pub returns-in-35 : goal.returns-in-35
returns-in-35 c = search forms
