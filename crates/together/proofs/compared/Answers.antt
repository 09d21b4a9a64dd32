-- `compared` restricts nothing and owes what is free on both sides. Assumes nothing.
use mathlib.Core.Path.{◌∙◌}
use Rattle.known.specs.Known.{compared}
use Rattle.known.specs.Rows.{meant}
use Rattle.together.proofs.compared.Goals as goal

pub returns : goal.returns
unfolding meant compared
returns c = c.both.ensures ∙ rw (c.bitor-needs.ensures, c.bitor-deeper.ensures, c.bitor-all.ensures, c.empty-given.ensures)
