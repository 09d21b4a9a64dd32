-- `and_facts` eases the right by what the left restricts. Assumes nothing.
use mathlib.Core.Path.{◌∙◌}
use Rattle.known.specs.Known.{and_known}
use Rattle.known.specs.Rows.{meant}
use Rattle.together.proofs.and_facts.Goals as goal

pub returns : goal.returns
unfolding meant and_known
returns c = c.both.ensures ∙ rw (c.bitor-needs.ensures, c.sub-eased.ensures, c.bitor-given.ensures)
