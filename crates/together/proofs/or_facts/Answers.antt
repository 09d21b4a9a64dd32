-- `or_facts` restricts nothing. Assumes nothing.
use mathlib.Core.Path.{◌∙◌}
use Rattle.known.specs.Known.{or_known}
use Rattle.known.specs.Rows.{meant}
use Rattle.together.proofs.or_facts.Goals as goal

pub returns : goal.returns
unfolding meant or_known
returns c = c.both.ensures ∙ rw (c.bitor-needs.ensures, c.empty-given.ensures)
