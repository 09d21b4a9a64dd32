-- `answer_check` answers with the first entry of the part that the check asks for, for all accepted bytes.
use mathlib.Core.Path.{refl, ap, ◌∙◌}
use Rattle.std.specs.Prelude.{Option, Ok}
use Rattle.paper.specs.declared.Finding.{Finding}
use Rattle.accepted.proofs.AtRoot.{some_root, last_root, part_room, part_told}
use Rattle.accepted.proofs.answer_check.Goals as goal

pub part_entries-count-requires : goal.part_entries-count-requires
part_entries-count-requires c = record { last = last_root _ _ c.requires.0 c.fill.ensures _ c.root.ensures; room = part_room _ _ c.requires.0 c.fill.ensures _ c.root.ensures _ c.requires.1 }

pub returns : goal.returns
returns c =
    ap (λ (o : Option Finding). Ok o) c.first.ensures ∙ part_told _ _ c.requires.0 c.fill.ensures _ c.root.ensures _ c.requires.1 c.part_entries-count.ensures

pub fill-requires : goal.fill-requires
fill-requires c = ((some_root _ _ c.requires.0).1, refl)

pub root-requires : goal.root-requires
root-requires c = some_root _ _ c.requires.0
