use Rattle.tokenizer.proofs.Steps.{steps}
use Rattle.tokenizer.proofs.next.Goals as goal

pub returns-then-s-at : goal.returns-then-s-at
returns-then-s-at c = search steps

pub returns-in-Newline : goal.returns-in-Newline
returns-in-Newline c = search steps

pub returns-in-Blank : goal.returns-in-Blank
returns-in-Blank c = search steps

pub returns-in-Star : goal.returns-in-Star
returns-in-Star c = search steps

pub returns-in-Colon : goal.returns-in-Colon
returns-in-Colon c = search steps

pub returns-in-Question : goal.returns-in-Question
returns-in-Question c = search steps

pub returns-in-Semicolon : goal.returns-in-Semicolon
returns-in-Semicolon c = search steps

pub returns-in-Comma : goal.returns-in-Comma
returns-in-Comma c = search steps

pub returns-in-Small : goal.returns-in-Small
returns-in-Small c = search steps

pub returns-in-Parenthesis : goal.returns-in-Parenthesis
returns-in-Parenthesis c = search steps

pub returns-in-Other : goal.returns-in-Other
returns-in-Other c = search steps

pub returns-in-Beyond : goal.returns-in-Beyond
returns-in-Beyond c = search steps

pub returns-in-Hash : goal.returns-in-Hash
returns-in-Hash c = search steps

pub returns-in-Quote : goal.returns-in-Quote
returns-in-Quote c = search steps

pub returns-in-Digit : goal.returns-in-Digit
returns-in-Digit c = search steps
