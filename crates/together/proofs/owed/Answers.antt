-- `owed` is the definition, side by side. Assumes nothing.
use mathlib.Core.Path.{◌∙◌}
use Rattle.known.specs.Needs.{owes}
use Rattle.together.proofs.owed.Goals as goal

pub returns-in-Left : goal.returns-in-Left
unfolding owes
returns-in-Left c = rw c.in-Left.is

pub returns-in-Right : goal.returns-in-Right
unfolding owes
returns-in-Right c = rw c.in-Right.is

pub returns-in-Nothing : goal.returns-in-Nothing
unfolding owes
returns-in-Nothing c = c.bitor.ensures ∙ rw c.in-Nothing.is
