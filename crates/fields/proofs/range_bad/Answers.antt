use Rattle.memory.specs.Fields.{out_of_range}
use Rattle.fields.proofs.range_bad.Goals as goal

pub returns : goal.returns
unfolding out_of_range
returns c = rw (c.from-2.ensures, c.from.ensures)
