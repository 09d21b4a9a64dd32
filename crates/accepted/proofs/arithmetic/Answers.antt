-- `arithmetic` answers as the definitions do, for all accepted bytes.
use mathlib.Core.Path.{refl, sym, ap, ◌∙◌}
use mathlib.Core.Bool.{Bool}
use Rattle.std.specs.Prelude.{Ok}
use Rattle.accepted.proofs.AtRoot.{some_root, has_root, arithmetic_told}
use Rattle.accepted.proofs.arithmetic.Goals as goal

pub returns : goal.returns
returns c =
    ap (λ (b : Bool). Ok b) c.condition_has_arith.ensures ∙ sym (arithmetic_told _ _ c.requires c.fill.ensures _ c.root.ensures)

pub fill-requires : goal.fill-requires
fill-requires c = ((some_root _ _ c.requires).1, refl)

pub root-requires : goal.root-requires
root-requires c = some_root _ _ c.requires

pub condition_has_arith-requires : goal.condition_has_arith-requires
condition_has_arith-requires c = has_root _ _ c.requires c.fill.ensures _ c.root.ensures
