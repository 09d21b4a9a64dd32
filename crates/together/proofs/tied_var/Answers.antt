-- `tied_var` is the definition, side by side. Assumes nothing.
use mathlib.Core.Path.{◌∙◌, subst}
use Rattle.paper.specs.FreeAndRestricted.{tied_name}
use Rattle.trees.specs.Terms.{TabledTied}
use Rattle.together.proofs.tied_var.Goals as goal

pub single-requires : goal.single-requires
unfolding tied_name
single-requires c = subst TabledTied c.in-Left.is c.requires

pub single-requires-in-Right : goal.single-requires-in-Right
unfolding tied_name
single-requires-in-Right c = subst TabledTied c.in-Right.is c.requires

pub returns-in-Left : goal.returns-in-Left
unfolding tied_name
returns-in-Left c = c.single.ensures ∙ rw c.in-Left.is

pub returns-in-Right : goal.returns-in-Right
unfolding tied_name
returns-in-Right c = c.single-in-Right.ensures ∙ rw c.in-Right.is

pub returns-in-Nothing : goal.returns-in-Nothing
unfolding tied_name
returns-in-Nothing c = c.empty.ensures ∙ rw c.in-Nothing.is
