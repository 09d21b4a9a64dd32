-- The measure is the node's number.
use Rattle.cells.proofs.+emit_cells.Given as goal

abbrev pub decreases-emit_cells : goal.decreases-emit_cells
decreases-emit_cells l = l.i.0
