use borrow.Author.Tests.{eq-eqb, ne_eqb}
use Rattle.paper.specs.TheList.{subject_of}
use Rattle.writes.proofs.subject_of.Goals as goal

pub returns-then-x-eq255 : goal.returns-then-x-eq255
unfolding subject_of
returns-then-x-eq255 c = rw (eq-eqb _ 255 c.if-x-eq255.true)

pub returns : goal.returns
unfolding subject_of
returns c = rw (ne_eqb _ 255 c.if-x-eq255.false)
