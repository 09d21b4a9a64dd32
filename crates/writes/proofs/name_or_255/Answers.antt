use borrow.Author.Rules.{rules}
use Rattle.paper.specs.TheList.{name_or_255}
use Rattle.writes.proofs.name_or_255.Goals as goal

pub returns-in-Some : goal.returns-in-Some
unfolding name_or_255
returns-in-Some c = search rules

pub returns-in-None : goal.returns-in-None
unfolding name_or_255
returns-in-None c = search rules
