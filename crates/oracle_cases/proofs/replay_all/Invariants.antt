-- The loop ends: less of the list is left, since a case takes some of it.
use Rattle.std.proofs.Common.{length}
use Rattle.oracle_cases.proofs.replay_all.Given as goal

abbrev pub decreases-loop-case : goal.decreases-loop-case
decreases-loop-case g l = length l.rest
