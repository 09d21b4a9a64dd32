use borrow.Author.Rules.{rules}
use Rattle.names.proofs.Bits.{mem_empty}
use Rattle.names.proofs.Names.is_empty.Goals as goal

pub returns : goal.returns
returns c = mem_empty c.args.self (search rules) (search rules)
