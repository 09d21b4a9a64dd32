-- `equated` restricts the name that is tied and owes the other side. Assumes nothing.
use mathlib.Core.Path.{◌∙◌}
use Rattle.known.specs.Known.{equated}
use Rattle.known.specs.Rows.{meant}
use Rattle.together.proofs.equated.Goals as goal

pub returns : goal.returns
unfolding meant equated
returns c = c.both.ensures ∙ rw (c.bitor-needs.ensures, c.bitor-below.ensures, c.owed-own.ensures, c.tied_var-given.ensures)

pub tied_var-given-requires : goal.tied_var-given-requires
tied_var-given-requires c = c.requires
