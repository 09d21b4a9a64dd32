-- `naming` has the names twice. Assumes nothing.
use Rattle.names.specs.Words.{bit}
use Rattle.known.specs.Known.{naming}
use Rattle.known.specs.Rows.{meant}
use Rattle.together.proofs.naming.Goals as goal

pub returns : goal.returns
unfolding meant naming bit
returns c = rw c.empty-none.ensures
