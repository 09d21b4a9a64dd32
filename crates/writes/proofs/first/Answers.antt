use mathlib.Core.Path.{ap}
use borrow.Author.Tests.{eq-eqb, ne_eqb}
use Rattle.std.specs.Prelude.{Some}
use Rattle.paper.specs.declared.Finding.{Finding}
use Rattle.writes.specs.Written.{first_of}
use Rattle.writes.proofs.first.Goals as goal

pub returns-then-count-eq0 : goal.returns-then-count-eq0
unfolding first_of
returns-then-count-eq0 c = rw (eq-eqb _ 0 c.if-count-eq0.true)

pub returns : goal.returns
unfolding first_of
returns c = rw (ne_eqb _ 0 c.if-count-eq0.false) (ap (λ (f : Finding). Some f) c.unpack.ensures)
