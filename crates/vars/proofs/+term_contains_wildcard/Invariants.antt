-- The measure is the node's number.
use Rattle.vars.proofs.+term_contains_wildcard.Given as goal

abbrev pub decreases-term_contains_wildcard : goal.decreases-term_contains_wildcard
decreases-term_contains_wildcard l = l.i.0
