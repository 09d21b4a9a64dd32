-- `Nodes::refer_at` meets its contract: a row with no sort has no reference. Assumes nothing.
use borrow.Author.Tests.{eq-eqb, ne_eqb}
use Rattle.memory.specs.Fields.{refer_if}
use Rattle.memory.proofs.FieldLaws.{two_bytes_at}
use Rattle.fields.proofs.Nodes.refer_at.Goals as goal

pub returns-then-sort-eq0-clause-found : goal.returns-then-sort-eq0-clause-found
unfolding refer_if
returns-then-sort-eq0-clause-found c = rw (eq-eqb _ _ c.if-sort-eq0.true)

pub returns-clause-found : goal.returns-clause-found
unfolding refer_if
returns-clause-found c =
    rw (ne_eqb _ _ c.if-sort-eq0.false, ← c.from.ensures, two_bytes_at c.from.result c.args.b.now, ← c.number.ensures) c.refer.ensures.found
