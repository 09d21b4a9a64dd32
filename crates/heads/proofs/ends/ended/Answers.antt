-- `ends::ended` meets its contract: its test is the definition's, and `rooted` says the rest. Assumes nothing.
use Rattle.paper.specs.Record.{two_bytes}
use Rattle.memory.specs.Ends.{ended_in}
use Rattle.heads.proofs.ends.ended.Goals as goal

pub returns-then-from-nodes : goal.returns-then-from-nodes
unfolding ended_in two_bytes
returns-then-from-nodes c = rw (← c.number.ensures, ← c.from.ensures, c.if-from-nodes.true) c.rooted.ensures

pub returns : goal.returns
unfolding ended_in two_bytes
returns c = rw (← c.number.ensures, ← c.from.ensures, c.if-from-nodes.false) c.turned_away.ensures
