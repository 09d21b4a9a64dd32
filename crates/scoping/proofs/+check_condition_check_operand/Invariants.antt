-- The measure is the node's number.
use Rattle.scoping.proofs.+check_condition_check_operand.Given as goal

abbrev pub decreases-check_condition : goal.decreases-check_condition
decreases-check_condition l = l.i.0

abbrev pub decreases-check_operand : goal.decreases-check_operand
decreases-check_operand l = l.i.0
