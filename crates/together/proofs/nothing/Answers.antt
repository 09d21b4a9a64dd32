-- `nothing` has no names and no marks. Assumes nothing.
use Rattle.names.specs.Words.{bit}
use Rattle.known.specs.Known.{nothing}
use Rattle.known.specs.Rows.{meant}
use Rattle.together.proofs.nothing.Goals as goal

pub returns : goal.returns
unfolding meant nothing bit
returns c = rw c.empty-none.ensures
