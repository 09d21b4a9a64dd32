-- `check_aggregation` writes the five rules of an aggregate in their order.
use mathlib.Core.Path.{◌≡◌, refl, ap₂, ◌∙◌}
use mathlib.Core.List.{List}
use Rattle.paper.specs.declared.NodeNo.{NodeNo}
use Rattle.paper.specs.Sets.{Set, ◌∪◌, ◌∖◌}
use Rattle.paper.specs.Places.{Cell, gather, findings}
use Rattle.paper.specs.Scoping.{cells}
use Rattle.names.specs.Words.{mem}
use Rattle.trees.specs.Trees.{condition_of, binders_of}
use Rattle.writes.proofs.WriteLaws.{added_then, added_is, room_is, room_first, room_after}
use Rattle.cells.specs.Aggregates.{five}
use Rattle.cells.proofs.AggregateLaws.{written, five_are}
use Rattle.aggregates.proofs.check_aggregation.Goals as goal
use Rattle.aggregates.proofs.check_aggregation.Goals.{After-sub-untied}

same : (words : Set) (n : NodeNo) (cs : List Cell) {a b c d e f g h : Set} → a ≡ e → b ≡ f → c ≡ g → d ≡ h → written words n cs e f g h ≡ written words n cs a b c d
same words n cs p q r s = rw (p, q, r, s)

-- the five rules over the sets that were made
five_here : (c : After-sub-untied) →
    let s = c.args in
    gather findings (five (mem s.words) s.n (mem s.summed) (binders_of s.nodes.now.columns.now s.binders.0) (condition_of s.nodes.now.columns.now s.body.0) (mem s.scope))
    ≡ written (mem s.words) s.n (cells (binders_of s.nodes.now.columns.now s.binders.0)) (mem c.sub-unsummed.result)
    (mem c.sub-unknown.result) (mem c.sub-unused.result) (mem c.sub-untied.result)
five_here c =
    let own = c.binder_names-own.ensures in
    let inner = c.collect_free-inner.ensures in
    let tied = c.collect_range_restricted-tied.ensures in
    let known = c.bitor-known.ensures ∙ ap₂ ◌∪◌ refl own in
    five_are _ _ _ _ _ _
    ∙ same _ _ _ (c.sub-unsummed.ensures ∙ ap₂ ◌∖◌ refl own) (c.sub-unknown.ensures ∙ ap₂ ◌∖◌ inner known)
    (c.sub-unused.ensures ∙ ap₂ ◌∖◌ own inner) (c.sub-untied.ensures ∙ ap₂ ◌∖◌ own tied)

pub returns : goal.returns
returns c =
    added_is (five_here (goal.at.returns c).After-sub-untied) (added_then c.emit_cells.ensures (added_then c.emit.ensures (added_then c.emit-2.ensures (added_then c.emit_cells-2.ensures c.emit_cells-3.ensures))))

pub emit_cells-requires : goal.emit_cells-requires
emit_cells-requires c = record { has = c.requires.has.0; room = room_first _ _ (room_is (five_here (goal.at.emit_cells-requires c).After-sub-untied) c.requires.room) }

pub emit-requires : goal.emit-requires
emit-requires c = room_first _ _ (room_after _ _ c.emit_cells.ensures (room_is (five_here (goal.at.emit-requires c).After-sub-untied) c.requires.room))

pub emit-requires-2 : goal.emit-requires-2
emit-requires-2 c =
    room_first _ _ (room_after _ _ c.emit.ensures (room_after _ _ c.emit_cells.ensures (room_is (five_here (goal.at.emit-requires-2 c).After-sub-untied) c.requires.room)))

pub emit_cells-requires-2 : goal.emit_cells-requires-2
emit_cells-requires-2 c = record {
  has = c.requires.has.0;
  room = room_first _ _ (room_after _ _ c.emit-2.ensures (room_after _ _ c.emit.ensures (room_after _ _ c.emit_cells.ensures
      (room_is (five_here (goal.at.emit_cells-requires-2 c).After-sub-untied) c.requires.room))));
}

pub emit_cells-requires-3 : goal.emit_cells-requires-3
emit_cells-requires-3 c = record {
  has = c.requires.has.0;
  room = room_after _ _ c.emit_cells-2.ensures (room_after _ _ c.emit-2.ensures (room_after _ _ c.emit.ensures (room_after _ _ c.emit_cells.ensures
      (room_is (five_here (goal.at.emit_cells-requires-3 c).After-sub-untied) c.requires.room))));
}
