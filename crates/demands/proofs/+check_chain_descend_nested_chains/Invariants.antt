-- The measure is the node's number.
use Rattle.demands.proofs.+check_chain_descend_nested_chains.Given as goal

abbrev pub decreases-check_chain : goal.decreases-check_chain
decreases-check_chain l = l.i.0

abbrev pub decreases-descend_nested_chains : goal.decreases-descend_nested_chains
decreases-descend_nested_chains l = l.i.0
