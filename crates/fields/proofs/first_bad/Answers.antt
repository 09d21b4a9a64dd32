-- `first_bad` looks at no byte where the row has no range, as `out_of_range` of 0 is none. Assumes nothing.
use Rattle.memory.specs.Fields.{out_of_range}
use Rattle.fields.proofs.first_bad.Goals as goal

pub returns-then-range-eq0 : goal.returns-then-range-eq0
unfolding out_of_range
returns-then-range-eq0 c = rw c.if-range-eq0.true

pub returns : goal.returns
returns c = rw (← c.byte.ensures, ← c.byte-2.ensures) c.range_bad.ensures
