-- `Nodes::refer` meets its contract: each return has the tests that led to it. Assumes nothing.
use mathlib.Core.Path.{sym, ◌∙◌}
use borrow.Author.Tests.{lt-ltb, le-ltb, ne_eqb, eq-eqb}
use Rattle.memory.specs.Fields.{refer_in}
use Rattle.fields.proofs.Nodes.refer.Goals as goal

pub returns-then-own-i-clause-found : goal.returns-then-own-i-clause-found
unfolding refer_in
returns-then-own-i-clause-found c = rw (← c.from-i.ensures) (simp (le-ltb _ _ c.if-own-i.true))

pub returns-then-not-fits-clause-found : goal.returns-then-not-fits-clause-found
unfolding refer_in
returns-then-not-fits-clause-found c = rw (← c.from-i.ensures) (simp (lt-ltb _ _ c.if-own-i.false, sym c.fits.ensures ∙ c.if-not-fits.true))

pub returns-then-self-i-ne0-clause-found : goal.returns-then-self-i-ne0-clause-found
unfolding refer_in
returns-then-self-i-ne0-clause-found c =
    rw (← c.from-i.ensures) (simp (lt-ltb _ _ c.if-own-i.false, sym c.fits.ensures ∙ c.if-not-fits.false, ne_eqb _ _ c.if-self-i-ne0.true))

pub returns-clause-found : goal.returns-clause-found
unfolding refer_in
returns-clause-found c =
    rw (← c.from-i.ensures)
    (simp (lt-ltb _ _ c.if-own-i.false, sym c.fits.ensures ∙ c.if-not-fits.false, eq-eqb _ _ c.if-self-i-ne0.false) (rw c.max.ensures))
