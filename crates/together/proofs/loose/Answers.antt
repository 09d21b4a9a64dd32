-- `loose` restricts nothing and owes what is free. Assumes nothing.
use Rattle.known.specs.Known.{loose}
use Rattle.known.specs.Rows.{meant}
use Rattle.together.proofs.loose.Goals as goal

pub returns : goal.returns
unfolding meant loose
returns c = rw (c.bitor-needs.ensures, c.empty-none.ensures)
