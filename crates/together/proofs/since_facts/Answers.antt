-- `since_facts` eases the left by what the right restricts. Assumes nothing.
use mathlib.Core.Path.{◌∙◌}
use Rattle.known.specs.Known.{since_known}
use Rattle.known.specs.Rows.{meant}
use Rattle.together.proofs.since_facts.Goals as goal

pub returns : goal.returns
unfolding meant since_known
returns c = c.both.ensures ∙ rw (c.bitor-needs.ensures, c.sub-eased.ensures, c.bitor-owed.ensures)
