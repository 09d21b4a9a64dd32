-- `ends::rooted` meets its contract: each return has the tests that led to it. Assumes nothing.
use borrow.Author.Tests.{eq-eqb, ne_eqb}
use Rattle.memory.specs.Ends.{rooted_in}
use Rattle.heads.proofs.ends.rooted.Goals as goal

pub returns-then-nodes-eq0 : goal.returns-then-nodes-eq0
unfolding rooted_in
returns-then-nodes-eq0 c = rw (eq-eqb _ _ c.if-nodes-eq0.true) c.turned_away.ensures

pub returns-then-fits-all_marked : goal.returns-then-fits-all_marked
unfolding rooted_in
returns-then-fits-all_marked c = rw (ne_eqb _ _ c.if-nodes-eq0.false, ← c.fits.ensures, ← c.all_marked.ensures, c.if-fits-all_marked.true)

pub returns : goal.returns
unfolding rooted_in
returns c = rw (ne_eqb _ _ c.if-nodes-eq0.false, ← c.fits.ensures, ← c.all_marked.ensures, c.if-fits-all_marked.false) c.turned_away-2.ensures
