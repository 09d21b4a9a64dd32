-- `precedes` compares eight bytes at a time. The loop's invariant: those before are the same, so that what is left decides. Assumes nothing.
use mathlib.Core.Path.{◌≡◌}
use Prim.Native.Nat.{◌*◌}
use lib.ListN.{drop}
use Rattle.paper.specs.Record.{precedes}
use Rattle.words.proofs.precedes.Given as goal

abbrev pub invariant-loop-k : goal.invariant-loop-k
invariant-loop-k l = precedes l.fn.a l.fn.b ≡ precedes (drop (8 * l.k) l.fn.a) (drop (8 * l.k) l.fn.b)
