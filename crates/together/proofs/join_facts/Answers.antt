-- `join_facts` joins everything. Assumes nothing.
use mathlib.Core.Path.{◌∙◌}
use Rattle.known.specs.Known.{join}
use Rattle.known.specs.Rows.{meant}
use Rattle.together.proofs.join_facts.Goals as goal

pub returns : goal.returns
unfolding meant join
returns c = c.both.ensures ∙ rw (c.bitor-needs.ensures, c.bitor-given.ensures)
