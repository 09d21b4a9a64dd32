-- The measure is the node's number.
use Rattle.checks.proofs.arith.+condition_has_arith_term_has_arith.Given as goal

abbrev pub decreases-condition_has_arith : goal.decreases-condition_has_arith
decreases-condition_has_arith l = l.i.0

abbrev pub decreases-term_has_arith : goal.decreases-term_has_arith
decreases-term_has_arith l = l.i.0
