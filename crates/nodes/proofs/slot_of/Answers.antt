-- `slot_of` goes by the sort byte as the definition does.
use borrow.Author.Tests.{ne_eqb}
use Rattle.paper.specs.Record.{slot_of}
use Rattle.nodes.proofs.slot_of.Goals as goal

pub returns-in-0 : goal.returns-in-0
unfolding slot_of
returns-in-0 c = simp c.in-0.is

pub returns-in-1 : goal.returns-in-1
unfolding slot_of
returns-in-1 c = simp c.in-1.is

pub returns-in_default : goal.returns-in_default
unfolding slot_of
returns-in_default c = simp (ne_eqb _ _ c.in_default.in_default-own.rest.1, ne_eqb _ _ c.in_default.in_default-own.rest.0.1)
