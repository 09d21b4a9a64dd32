-- `ends::all_marked` meets its contract. The loop's invariant: `all` says whether each node passed is marked. Assumes nothing.
use mathlib.Core.Path.{◌≡◌}
use Rattle.paper.specs.Sets.{all_below}
use Rattle.memory.specs.Ends.{marks}
use Rattle.heads.proofs.ends.all_marked.Given as goal

abbrev pub invariant-loop-mark : goal.invariant-loop-mark
invariant-loop-mark l = l.all ≡ all_below l.mark-index (marks l.fn.used)
