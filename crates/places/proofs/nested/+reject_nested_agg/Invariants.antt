-- The measure is the node's number.
use Rattle.places.proofs.nested.+reject_nested_agg.Given as goal

abbrev pub decreases-reject_nested_agg : goal.decreases-reject_nested_agg
decreases-reject_nested_agg l = l.i.0
