-- `emit_cells` writes the entries at the cells of a list, in order.
use Rattle.std.proofs.Common.{ℕ, List, refl, sym, ap, ◌∙◌, rules}
use Rattle.paper.specs.declared.Finding.{Finding}
use Rattle.paper.specs.Sets.{Set}
use Rattle.paper.specs.Places.{Cell as Bound, at_cells, findings}
use Rattle.paper.specs.Scoping.{cells}
use Rattle.names.proofs.ApartLaws.{empty_everywhere}
use Rattle.trees.proofs.Arms.{down}
use Rattle.writes.proofs.WriteLaws.{added_none, added_then, added_is, room_is, room_first, room_after}
use Rattle.cells.proofs.AggregateLaws.{next_cell, cells_append, cells_end, no_entry_at_no_cell}
use Rattle.slots.proofs.SlotLaws.{cell_arm, at_end}
use Rattle.known.proofs.SoundLaws.{cells_none}
use Rattle.cells.proofs.+emit_cells.Goals as goal

abbrev at : ℕ → Set → List Bound → List Finding
at rule s cs = findings (at_cells rule s cs)

pub returns-then-is_empty : goal.returns-then-is_empty
returns-then-is_empty t c =
    added_is (cells_none _ _ _ (λ k h. empty_everywhere c.args.s (search rules) (sym c.is_empty.ensures ∙ c.if-is_empty.true) k)) added_none

pub emit_cell-requires : goal.emit_cell-requires
emit_cell-requires t c =
    room_first _ _ (room_is (ap (at _ _) (next_cell (cell_arm c.requires.has c.in-Some.ensures refl).1) ∙ cells_append _ _ _ _) c.requires.room)

pub emit_cells-requires : goal.emit_cells-requires
emit_cells-requires t c =
    let a = (cell_arm c.requires.has c.in-Some.ensures refl).1 in
    let d = down a.children.0 c.decreases in (
      d.0,
      (
        d.1,
        room_after _ _ c.emit_cell.ensures (room_is (ap (at _ _) (next_cell a) ∙ cells_append _ _ _ _) c.requires.room),
      ),
    )

pub returns-in-Some : goal.returns-in-Some
returns-in-Some t c =
    let a = (cell_arm c.requires.has c.in-Some.ensures refl).1 in
    added_is (ap (at _ _) (next_cell a) ∙ cells_append _ _ _ _) (added_then c.emit_cell.ensures c.emit_cells.ensures)

pub returns-in-None : goal.returns-in-None
returns-in-None t c =
    added_is (ap (at _ _) (at_end c.requires.has c.binder_at.ensures cells cells_end c.in-None.is) ∙ no_entry_at_no_cell _ _) added_none
