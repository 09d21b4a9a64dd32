-- `scan_records` meets its contract: the invariant says what the arrays hold of the records read so far, and each arm cites the law of its turn.
-- Assumes nothing.
use Prim.Native.Nat.{◌-◌}
use lib.ListN.{length}
use Rattle.memory.proofs.ReadLaws.{Looped}
use Rattle.scan.proofs.scan_records.Given as goal

abbrev pub invariant-loop-at : goal.invariant-loop-at
invariant-loop-at l = Looped l.bytes l.at l.begun l.nn l.nk l.starts l.reserved l.table l.nodes.kinds l.nodes.depths l.nodes.used

abbrev pub decreases-loop-at : goal.decreases-loop-at
decreases-loop-at l = length l.bytes - l.at
