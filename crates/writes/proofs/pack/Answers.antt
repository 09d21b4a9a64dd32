use borrow.Author.Rules.{rules}
use Rattle.paper.specs.TheList.{pack}
use Rattle.writes.proofs.pack.Goals as goal

pub returns : goal.returns
unfolding pack
returns c = search rules
