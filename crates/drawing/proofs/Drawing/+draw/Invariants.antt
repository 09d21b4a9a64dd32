-- `draw` ends: a child that it goes to has a lower number.
use Rattle.drawing.proofs.Drawing.+draw.Given as goal

abbrev pub decreases-draw : goal.decreases-draw
decreases-draw g l = l.i.0
