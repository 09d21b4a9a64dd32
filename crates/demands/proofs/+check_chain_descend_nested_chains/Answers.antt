-- `check_chain` and `descend_nested_chains` write what is demanded from a condition and from an operand on. What each arm writes goes by the law of its kind.
use Rattle.paper.specs.Sets.{◌∖◌}
use Rattle.std.proofs.Common.{refl, sym, ◌∙◌, ap₂}
use Rattle.known.proofs.RowLaws.{under_body, under_term}
use Rattle.trees.proofs.Shapes.{of_aggregate}
use Rattle.views.proofs.EnteredLaws.{entered}
use Rattle.views.proofs.SeenLaws.{held_arm, operand_told}
use Rattle.writes.proofs.WriteLaws.{added_none, added_then, added_is, room_is, room_first, room_after}
use Rattle.owed.proofs.DemandLaws.{met_demanded, met_operand_demanded, added_own_first, room_own, room_below, below_entered, operand_arith, operand_aggregate, operand_none}
use Rattle.demands.proofs.+check_chain_descend_nested_chains.Goals as goal

-- ---- a condition

pub check_chain-returns-then-is_met : goal.check_chain-returns-then-is_met
check_chain-returns-then-is_met t c = added_is (met_demanded _ _ _ c.requires.has.1 (sym c.is_met.ensures ∙ c.if-is_met.true)) added_none

pub check_chain-check_own_demands-requires-clause-room : goal.check_chain-check_own_demands-requires-clause-room
check_chain-check_own_demands-requires-clause-room t c = room_own _ _ _ c.requires.room

pub check_chain-check_chain-requires : goal.check_chain-check_chain-requires
check_chain-check_chain-requires t c =
    let h = held_arm c.requires.has.0 in
    let e = c.in-Condition.ensures in
    let d = under_body (entered e h) c.decreases in
    let room = room_below _ _ _ c.check_own_demands.ensures c.requires.room in
    (d.0, (d.1, room_is (below_entered _ h e c.tied_first-inner.ensures refl (c.asked_first-further.ensures _)) room))

pub check_chain-check_chain-requires-in-Conditions : goal.check_chain-check_chain-requires-in-Conditions
check_chain-check_chain-requires-in-Conditions t c =
    let h = held_arm c.requires.has.0 in
    let e = c.in-Conditions.ensures in
    let d = under_body (entered e h).0 c.decreases in
    let room = room_below _ _ _ c.check_own_demands.ensures c.requires.room in
    (d.0, (d.1, room_first _ _ (room_is (below_entered _ h e c.tied_first-first.ensures c.tied_second-second.ensures refl) room)))

pub check_chain-check_chain-requires-in-Conditions-2 : goal.check_chain-check_chain-requires-in-Conditions-2
check_chain-check_chain-requires-in-Conditions-2 t c =
    let h = held_arm c.requires.has.0 in
    let e = c.in-Conditions.ensures in
    let d = under_body (entered e h).1 c.decreases in
    let room = room_below _ _ _ c.check_own_demands.ensures c.requires.room in
    (d.0, (d.1, room_after _ _ c.check_chain-in-Conditions.ensures (room_is (below_entered _ h e c.tied_first-first.ensures c.tied_second-second.ensures refl) room)))

pub check_chain-descend_nested_chains-requires : goal.check_chain-descend_nested_chains-requires
check_chain-descend_nested_chains-requires t c =
    let h = held_arm c.requires.has.0 in
    let e = c.in-Operands.ensures in
    let d = under_term (entered e h).0 c.decreases in
    let room = room_below _ _ _ c.check_own_demands.ensures c.requires.room in
    (d.0, (d.1, room_first _ _ (room_is (below_entered _ h e refl refl refl) room)))

pub check_chain-descend_nested_chains-requires-in-Operands : goal.check_chain-descend_nested_chains-requires-in-Operands
check_chain-descend_nested_chains-requires-in-Operands t c =
    let h = held_arm c.requires.has.0 in
    let e = c.in-Operands.ensures in
    let d = under_term (entered e h).1 c.decreases in
    let room = room_below _ _ _ c.check_own_demands.ensures c.requires.room in
    (d.0, (d.1, room_after _ _ c.descend_nested_chains.ensures (room_is (below_entered _ h e refl refl refl) room)))

pub check_chain-returns-in-Nothing : goal.check_chain-returns-in-Nothing
check_chain-returns-in-Nothing t c =
    added_own_first _ _ _ c.check_own_demands.ensures (added_is (below_entered _ (held_arm c.requires.has.0) c.in-Nothing.ensures refl refl refl) added_none)

pub check_chain-returns-in-Condition : goal.check_chain-returns-in-Condition
check_chain-returns-in-Condition t c =
    added_own_first _ _ _ c.check_own_demands.ensures
    (added_is (below_entered _ (held_arm c.requires.has.0) c.in-Condition.ensures c.tied_first-inner.ensures refl (c.asked_first-further.ensures _)) c.check_chain.ensures)

pub check_chain-returns-in-Conditions : goal.check_chain-returns-in-Conditions
check_chain-returns-in-Conditions t c =
    added_own_first _ _ _ c.check_own_demands.ensures
    (added_is (below_entered _ (held_arm c.requires.has.0) c.in-Conditions.ensures c.tied_first-first.ensures c.tied_second-second.ensures refl)
    (added_then c.check_chain-in-Conditions.ensures c.check_chain-in-Conditions-2.ensures))

pub check_chain-returns-in-Operands : goal.check_chain-returns-in-Operands
check_chain-returns-in-Operands t c =
    added_own_first _ _ _ c.check_own_demands.ensures
    (added_is (below_entered _ (held_arm c.requires.has.0) c.in-Operands.ensures refl refl refl)
    (added_then c.descend_nested_chains.ensures c.descend_nested_chains-in-Operands.ensures))

-- ---- an operand

pub descend_nested_chains-returns-then-is_met : goal.descend_nested_chains-returns-then-is_met
descend_nested_chains-returns-then-is_met t c = added_is (met_operand_demanded _ _ c.requires.has.1 (sym c.is_met.ensures ∙ c.if-is_met.true)) added_none

pub descend_nested_chains-descend_nested_chains-requires : goal.descend_nested_chains-descend_nested_chains-requires
descend_nested_chains-descend_nested_chains-requires t c =
    let a = (operand_told c.in-Arith.ensures (held_arm c.requires.has.0)).1 in
    let d = under_term a.children.0 c.decreases in (d.0, (d.1, room_first _ _ (room_is (operand_arith _ a) c.requires.room)))

pub descend_nested_chains-descend_nested_chains-requires-in-Arith : goal.descend_nested_chains-descend_nested_chains-requires-in-Arith
descend_nested_chains-descend_nested_chains-requires-in-Arith t c =
    let a = (operand_told c.in-Arith.ensures (held_arm c.requires.has.0)).1 in
    let d = under_term a.children.1.0 c.decreases in
    (d.0, (d.1, room_after _ _ c.descend_nested_chains.ensures (room_is (operand_arith _ a) c.requires.room)))

pub descend_nested_chains-binder_names-own-requires : goal.descend_nested_chains-binder_names-own-requires
descend_nested_chains-binder_names-own-requires t c =
    let g = operand_told c.in-Aggregate.ensures (held_arm c.requires.has.0) in (of_aggregate g.1 g.2).0.has

pub descend_nested_chains-check_chain-requires : goal.descend_nested_chains-check_chain-requires
descend_nested_chains-check_chain-requires t c =
    let g = operand_told c.in-Aggregate.ensures (held_arm c.requires.has.0) in
    let d = under_body (of_aggregate g.1 g.2).1 c.decreases in
    (d.0, (d.1, room_is (operand_aggregate _ g.1 g.2 (c.sub-inner.ensures ∙ ap₂ ◌∖◌ refl c.binder_names-own.ensures)) c.requires.room))

pub descend_nested_chains-returns-in-Arith : goal.descend_nested_chains-returns-in-Arith
descend_nested_chains-returns-in-Arith t c =
    added_is (operand_arith _ (operand_told c.in-Arith.ensures (held_arm c.requires.has.0)).1) (added_then c.descend_nested_chains.ensures c.descend_nested_chains-in-Arith.ensures)

pub descend_nested_chains-returns-in-Aggregate : goal.descend_nested_chains-returns-in-Aggregate
descend_nested_chains-returns-in-Aggregate t c =
    let g = operand_told c.in-Aggregate.ensures (held_arm c.requires.has.0) in
    added_is (operand_aggregate _ g.1 g.2 (c.sub-inner.ensures ∙ ap₂ ◌∖◌ refl c.binder_names-own.ensures)) c.check_chain.ensures

pub descend_nested_chains-returns-in_default : goal.descend_nested_chains-returns-in_default
descend_nested_chains-returns-in_default t c =
    added_is (operand_none _ c.operand_at-operand.ensures (held_arm c.requires.has.0) c.in_default.in_default-own.keys3) added_none
