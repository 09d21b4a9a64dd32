-- `eq_restricted_var` says what an equality ties, or why nothing. The needs are in the order of the code.
use mathlib.Core.Path.{sym, ◌∙◌}
use Rattle.paper.specs.FreeAndRestricted.{by_bare}
use Rattle.vars.proofs.EqualityLaws.{by_sides}
use Rattle.vars.proofs.eq_restricted_var.Goals as goal

pub returns-in-Some-Some : goal.returns-in-Some-Some
unfolding by_bare
returns-in-Some-Some c = sym (by_sides _ _ (sym c.bare_var-left.ensures ∙ c.in-Some-Some.is-0) (sym c.bare_var-right.ensures ∙ c.in-Some-Some.is-1))

pub returns-in-Some-None : goal.returns-in-Some-None
unfolding by_bare
returns-in-Some-None c =
    c.unless.ensures ∙ sym (by_sides _ _ (sym c.bare_var-left.ensures ∙ c.in-Some-None.is-0) (sym c.bare_var-right.ensures ∙ c.in-Some-None.is-1))

pub returns-in-None-Some : goal.returns-in-None-Some
unfolding by_bare
returns-in-None-Some c =
    c.unless-in-None-Some.ensures
    ∙ sym (by_sides _ _ (sym c.bare_var-left.ensures ∙ c.in-None-Some.is-0) (sym c.bare_var-right.ensures ∙ c.in-None-Some.is-1))

pub returns-in-None-None : goal.returns-in-None-None
unfolding by_bare
returns-in-None-None c = sym (by_sides _ _ (sym c.bare_var-left.ensures ∙ c.in-None-None.is-0) (sym c.bare_var-right.ensures ∙ c.in-None-None.is-1))

pub bare_var-left-requires : goal.bare_var-left-requires
bare_var-left-requires c = c.requires.0

pub bare_var-right-requires : goal.bare_var-right-requires
bare_var-right-requires c = c.requires.1
