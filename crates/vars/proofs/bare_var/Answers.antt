-- `bare_var` gives the variable that is the whole term.
use mathlib.Core.Path.{refl, sym, ◌∙◌}
use Rattle.paper.specs.FreeAndRestricted.{bare}
use Rattle.trees.proofs.Arms.{arm}
use Rattle.vars.proofs.EqualityLaws.{in_term, bare_here, not_bare}
use Rattle.vars.proofs.bare_var.Goals as goal

pub returns-in-Var : goal.returns-in-Var
returns-in-Var c = sym (bare_here (arm _ _ _ _ c.requires c.node_at.ensures c.in-Var.is))

pub returns-in_default : goal.returns-in_default
returns-in_default c = sym (in_term bare (arm _ _ _ _ c.requires c.node_at.ensures refl) ∙ not_bare _ _ _ c.in_default.not-Var)
