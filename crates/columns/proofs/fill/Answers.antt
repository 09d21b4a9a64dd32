-- `fill` goes from node to node: the columns have those before it. Assumes nothing.
use mathlib.Core.Path.{ap, ◌∙◌}
use Rattle.memory.specs.Columns.{in_columns}
use Rattle.memory.proofs.FillLaws.{none_yet, one_more, all_copied}
use Rattle.columns.proofs.fill.Goals as goal

pub loop-i-init : goal.loop-i-init
loop-i-init c = none_yet c.requires.0 c.requires.1

pub loop-i-preserved : goal.loop-i-preserved
loop-i-preserved c = one_more c.loop-i.invariant c.loop-i-test.true c.from.ensures (λ i. (c.type_inv.bytes i).fits) (c.in_columns.ensures ∙ ap in_columns c.eight.ensures)

pub returns : goal.returns
returns c = all_copied c.loop-i.invariant c.loop-i-test.false
