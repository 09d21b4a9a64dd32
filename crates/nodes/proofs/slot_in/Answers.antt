-- `slot_in` has a slot's sort in the lower byte, and its number in the upper one.
use mathlib.Core.Path.{ap₂, ◌∙◌}
use Rattle.paper.specs.Record.{slot_of}
use Rattle.nodes.proofs.slot_in.Goals as goal

pub returns : goal.returns
returns c = c.slot_of.ensures ∙ ap₂ slot_of c.lower-sort.ensures c.upper-number.ensures
