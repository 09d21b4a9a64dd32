-- `Nodes::add` puts a node down that is at most 64 deep, as `check` found. Assumes nothing.
use Prim.Native.Nat.{◌<◌}
use native.Mathlib.Omega.{arith}
use mathlib.Core.Path.{sym, subst}
use Rattle.memory.proofs.FieldLaws.{shallow, Shallow}
use Rattle.fields.proofs.Nodes.add.Goals as goal

pub overflow_add-self : goal.overflow_add-self
overflow_add-self c =
    let h : c.in_ok-deep.deep < 64 = subst Shallow (sym c.in_ok-deep.ensures.found) (shallow _ _ _ _ _ _ _) in omega arith
