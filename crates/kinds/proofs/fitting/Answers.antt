use borrow.Author.Tests.{ne_eqb}
use Rattle.memory.specs.Rows.{fitting}
use Rattle.kinds.proofs.fitting.Goals as goal

pub returns-in-1 : goal.returns-in-1
unfolding fitting
returns-in-1 c = rw c.in-1.is

pub returns-in-2 : goal.returns-in-2
unfolding fitting
returns-in-2 c = rw c.in-2.is

pub returns-in-3 : goal.returns-in-3
unfolding fitting
returns-in-3 c = rw c.in-3.is

pub returns-in-4 : goal.returns-in-4
unfolding fitting
returns-in-4 c = rw c.in-4.is

pub returns-in_default : goal.returns-in_default
unfolding fitting
returns-in_default c =
    let m = c.in_default.in_default-own.rest in rw (ne_eqb _ 1 m.0.0.0.1, ne_eqb _ 2 m.0.0.1, ne_eqb _ 3 m.0.1, ne_eqb _ 4 m.1)
