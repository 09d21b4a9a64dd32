-- `fill` goes from node to node: the columns have those before it. Assumes nothing.
use Rattle.memory.proofs.FillLaws.{FirstCopied}
use Rattle.columns.proofs.fill.Given as goal

abbrev pub invariant-loop-i : goal.invariant-loop-i
invariant-loop-i l = FirstCopied l.bytes l.starts l.nodes l.columns l.i
