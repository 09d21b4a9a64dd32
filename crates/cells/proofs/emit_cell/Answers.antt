-- `emit_cell` writes the entry of a cell whose name is in the set.
use mathlib.Core.Path.{◌≡◌, sym, ◌∙◌}
use mathlib.Core.Bool.{true, false}
use mathlib.Core.List.{[], ◌∷◌}
use Prim.Native.Nat.{ℕ}
use borrow.Enum.Refused.{opened}
use Rattle.paper.specs.declared.NodeNo.{NodeNo}
use Rattle.paper.specs.declared.NameNo.{NameNo}
use Rattle.std.specs.Prelude.{Some}
use Rattle.paper.specs.declared.Slot.{Slot}
use Rattle.paper.specs.declared.Slot.TheVariants.{Name}
use Rattle.paper.specs.Sets.{Set}
use Rattle.paper.specs.Places.{at_cells, gather, at_cell, findings}
use Rattle.paper.specs.Scoping.{cell_of}
use Rattle.writes.proofs.WriteLaws.{added_none, added_is, room_is}
use Rattle.cells.proofs.AggregateLaws.{no_cell_entry}
use Rattle.cells.proofs.emit_cell.Goals as goal

has_name : (rule : ℕ) (s : Set) (n : NodeNo) (x : NameNo) {slot : Slot} → slot ≡ Name x → s x.0 ≡ true
    → findings (at_cells rule s (cell_of n slot)) ≡ record { rule = rule; node = n; name = Some x } ∷ []
unfolding findings gather at_cell cell_of
has_name rule s n x e h = rw (e, h)

has_other_name : (rule : ℕ) (s : Set) (n : NodeNo) (x : NameNo) {slot : Slot} → slot ≡ Name x → s x.0 ≡ false
    → findings (at_cells rule s (cell_of n slot)) ≡ []
unfolding findings gather at_cell cell_of
has_other_name rule s n x e h = rw (e, h)

pub returns-then-contains : goal.returns-then-contains
returns-then-contains c =
    added_is (has_name _ _ _ _ c.in-Name.is (sym c.contains.ensures ∙ c.if-contains.true)) c.put.ensures

pub returns-else-contains : goal.returns-else-contains
returns-else-contains c =
    added_is (has_other_name _ _ _ _ c.in-Name.is (sym c.contains.ensures ∙ c.if-contains.false)) added_none

pub returns-in_default : goal.returns-in_default
returns-in_default c =
    added_is (no_cell_entry _ _ _ _ (opened c.in_default.in_default-own.keys2)) added_none

pub put-requires : goal.put-requires
put-requires c = room_is (has_name _ _ _ _ c.in-Name.is (sym c.contains.ensures ∙ c.if-contains.true)) c.requires
