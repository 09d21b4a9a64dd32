-- `uses` ends: a child that it goes to has a lower number.
use Rattle.untied.proofs.uses.+uses.Given as goal

abbrev pub decreases-uses : goal.decreases-uses
decreases-uses l = l.i.0
