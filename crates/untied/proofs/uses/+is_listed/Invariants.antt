-- `is_listed` ends: the rest of a list has a lower number.
use Rattle.untied.proofs.uses.+is_listed.Given as goal

abbrev pub decreases-is_listed : goal.decreases-is_listed
decreases-is_listed l = l.i.0
