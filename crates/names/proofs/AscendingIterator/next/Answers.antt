use Rattle.std.proofs.Common.{rules}
use Rattle.names.specs.Words.{mem}
use Rattle.names.proofs.AscendingLaws.{ascending_none, ascending_first}
use Rattle.names.proofs.AscendingIterator.next.Goals as goal

pub returns-in_err-x-clause-steps : goal.returns-in_err-x-clause-steps
returns-in_err-x-clause-steps c = let e = ascending_none (mem c.args.self.now.left) c.in_err-x.ensures.none in search rules

pub returns-clause-steps : goal.returns-clause-steps
returns-clause-steps c = ascending_first _ c.in_ok-x.ensures.some.0 c.in_ok-x.ensures.some.1 c.without-self.ensures

pub returns-clause-goes : goal.returns-clause-goes
returns-clause-goes c = let e = ascending_first _ c.in_ok-x.ensures.some.0 c.in_ok-x.ensures.some.1 c.without-self.ensures in search rules
