-- `inside` ends: a child that it goes to has a lower number.
use Rattle.untied.proofs.+inside.Given as goal

abbrev pub decreases-inside : goal.decreases-inside
decreases-inside g l = l.i.0
