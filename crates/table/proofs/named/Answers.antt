-- `named` meets its contract: each return has the tests that led to it. Assumes nothing.
use mathlib.Core.Path.{sym, ◌∙◌}
use borrow.Author.Tests.{eq-eqb, ne_eqb}
use Rattle.memory.specs.Naming.{named_in}
use Rattle.table.proofs.named.Goals as goal

pub returns-then-not-is_name : goal.returns-then-not-is_name
unfolding named_in
returns-then-not-is_name c = rw (sym c.is_name.ensures ∙ c.if-not-is_name.true)

pub returns-then-count-eq0 : goal.returns-then-count-eq0
unfolding named_in
returns-then-count-eq0 c = rw (sym c.is_name.ensures ∙ c.if-not-is_name.false, eq-eqb _ _ c.if-count-eq0.true)

pub returns-then-precedes : goal.returns-then-precedes
unfolding named_in
returns-then-precedes c = rw (sym c.is_name.ensures ∙ c.if-not-is_name.false, ne_eqb _ _ c.if-count-eq0.false, ← c.precedes.ensures, c.if-precedes.true)

pub returns-else-precedes : goal.returns-else-precedes
unfolding named_in
returns-else-precedes c = rw (sym c.is_name.ensures ∙ c.if-not-is_name.false, ne_eqb _ _ c.if-count-eq0.false, ← c.precedes.ensures, c.if-precedes.false)
