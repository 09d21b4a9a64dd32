-- `opaque_aggregate` holds a sigil and is computed. Assumes nothing.
use Rattle.names.specs.Words.{bit}
use Rattle.known.specs.Known.{opaque}
use Rattle.known.specs.Rows.{meant}
use Rattle.together.proofs.opaque_aggregate.Goals as goal

pub returns : goal.returns
unfolding meant opaque bit
returns c = rw (c.empty-none.ensures, c.bitor.ensures)
