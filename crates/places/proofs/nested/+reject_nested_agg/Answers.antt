-- `reject_nested_agg` writes the entries of 20 and 21.
use Rattle.std.proofs.Common.{◌≡◌, ◌⊎◌, ℕ, refl, ◌∙◌}
use mathlib.Core.Logic.{⊎_elim}
use borrow.Enum.Refused.{opened}
use Rattle.paper.specs.declared.NodeNo.{NodeNo}
use Rattle.paper.specs.declared.Node.{Node}
use Rattle.paper.specs.declared.Node.TheVariants as node
use Rattle.trees.proofs.Arms.{arm, down}
use Rattle.trees.proofs.Shapes.{Row, row_terms, of_terms, met₂}
use Rattle.trees.proofs.Shapes.Row.{argument, item}
use Rattle.writes.proofs.WriteLaws.{added_none, added_then, added_is, room_is, room_first, room_after}
use Rattle.places.proofs.NestedLaws.{in_nested, nested_arith, nested_array, nested_row, nested_aggregate, no_nested}
use Rattle.places.proofs.nested.+reject_nested_agg.Goals as goal

-- which of the two the cell is
row : {m : Node} {t l : NodeNo} → ((f : ℕ) × (m ≡ node.ArgumentCell f t l)) ⊎ (m ≡ node.ItemCell t l) → Row t l m
row =
    ⊎_elim (λ w. met₂ Row (node.ArgumentCell w.0) (λ t l. argument) w.1 refl refl)
    (λ w. met₂ Row node.ItemCell (λ t l. item) w refl refl)

pub reject-requires : goal.reject-requires
reject-requires t c =
    room_is (in_nested (arm _ _ _ _ c.requires.has c.node_at-node.ensures refl) ∙ nested_aggregate _ _ _ c.in-Sum.in-Sum-own.keys1) c.requires.room

pub reject-requires-in-Arith : goal.reject-requires-in-Arith
reject-requires-in-Arith t c = room_is (nested_arith (arm _ _ _ _ c.requires.has c.node_at-node.ensures c.in-Arith.is)) c.requires.room

pub reject_nested_agg-requires : goal.reject_nested_agg-requires
reject_nested_agg-requires t c =
    let a = arm _ _ _ _ c.requires.has c.node_at-node.ensures c.in-Array.is in
    let d = down a.children.0 c.decreases in (d.0, (d.1, room_is (nested_array a) c.requires.room))

pub reject_nested_agg-requires-in-ArgumentCell : goal.reject_nested_agg-requires-in-ArgumentCell
reject_nested_agg-requires-in-ArgumentCell t c =
    let a = arm _ _ _ _ c.requires.has c.node_at-node.ensures refl in
    let r = row c.in-ArgumentCell.is in
    let d = down (of_terms (row_terms r) a).0 c.decreases in (d.0, (d.1, room_first _ _ (room_is (nested_row r a) c.requires.room)))

pub reject_nested_agg-requires-in-ArgumentCell-2 : goal.reject_nested_agg-requires-in-ArgumentCell-2
reject_nested_agg-requires-in-ArgumentCell-2 t c =
    let a = arm _ _ _ _ c.requires.has c.node_at-node.ensures refl in
    let r = row c.in-ArgumentCell.is in
    let d = down (of_terms (row_terms r) a).1 c.decreases in
    (d.0, (d.1, room_after _ _ c.reject_nested_agg-in-ArgumentCell.ensures (room_is (nested_row r a) c.requires.room)))

pub returns-in-Sum : goal.returns-in-Sum
returns-in-Sum t c =
    added_is (in_nested (arm _ _ _ _ c.requires.has c.node_at-node.ensures refl) ∙ nested_aggregate _ _ _ c.in-Sum.in-Sum-own.keys1) c.reject.ensures

pub returns-in-Arith : goal.returns-in-Arith
returns-in-Arith t c = added_is (nested_arith (arm _ _ _ _ c.requires.has c.node_at-node.ensures c.in-Arith.is)) c.reject-in-Arith.ensures

pub returns-in-Array : goal.returns-in-Array
returns-in-Array t c = added_is (nested_array (arm _ _ _ _ c.requires.has c.node_at-node.ensures c.in-Array.is)) c.reject_nested_agg.ensures

pub returns-in_default : goal.returns-in_default
returns-in_default t c =
    added_is (in_nested (arm _ _ _ _ c.requires.has c.node_at-node.ensures refl) ∙ no_nested _ _ _ (opened c.in_default.in_default-own.keys6)) added_none

pub returns-in-ArgumentCell : goal.returns-in-ArgumentCell
returns-in-ArgumentCell t c =
    added_is (nested_row (row c.in-ArgumentCell.is) (arm _ _ _ _ c.requires.has c.node_at-node.ensures refl))
    (added_then c.reject_nested_agg-in-ArgumentCell.ensures c.reject_nested_agg-in-ArgumentCell-2.ensures)
