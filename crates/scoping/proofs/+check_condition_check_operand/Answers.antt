-- `check_condition` and `check_operand` write the entries of 20 to 27.
use Rattle.paper.specs.Sets.{◌∪◌}
use Rattle.std.proofs.Common.{refl, sym, ◌∙◌, rules, ap₂}
use Rattle.names.specs.Words.{mem}
use Rattle.names.proofs.ApartLaws.{empty_everywhere}
use Rattle.known.proofs.RowLaws.{under_body, under_term}
use Rattle.known.specs.Needs.{has_none}
use Rattle.trees.proofs.Shapes.{of_aggregate}
use Rattle.views.proofs.EnteredLaws.{entered}
use Rattle.views.proofs.SeenLaws.{held_arm, operand_told}
use Rattle.writes.proofs.WriteLaws.{added_none, added_then, added_is, room_is, room_first, room_after}
use Rattle.scoping.proofs.ScopingLaws.{sound_scoped, sound_operand_scoped, not_skipped, scoped_entered, scoped_arith, scoped_array, scoped_aggregate, operand_none}
use Rattle.scoping.proofs.+check_condition_check_operand.Goals as goal

-- ---- a condition: nothing is entered, or what stands at it and then where the walk goes on

pub check_condition-returns-then-is_sound : goal.check_condition-returns-then-is_sound
unfolding has_none
check_condition-returns-then-is_sound t c =
    added_is (sound_scoped _ (λ k e. empty_everywhere c.args.words (search rules) e k) _ _ c.requires.has.1 (sym c.is_sound.ensures ∙ c.if-is_sound.true)) added_none

pub check_condition-check_itself-requires-clause-room : goal.check_condition-check_itself-requires-clause-room
check_condition-check_itself-requires-clause-room t c =
    room_first _ _ (room_is (scoped_entered _ _ (held_arm c.requires.has.0) refl refl) c.requires.room)

pub check_condition-check_condition-requires : goal.check_condition-check_condition-requires
check_condition-check_condition-requires t c =
    let h = held_arm c.requires.has.0 in
    let e = c.in-Condition.ensures in
    let d = under_body (entered e h) c.decreases in
    (d.0, (d.1, room_after _ _ c.check_itself.ensures (room_is (scoped_entered _ _ h e c.scope_first-inner.ensures) c.requires.room)))

pub check_condition-check_condition-requires-in-Conditions : goal.check_condition-check_condition-requires-in-Conditions
check_condition-check_condition-requires-in-Conditions t c =
    let h = held_arm c.requires.has.0 in
    let e = c.in-Conditions.ensures in
    let d = under_body (entered e h).0 c.decreases in
    (d.0, (d.1, room_first _ _ (room_after _ _ c.check_itself.ensures (room_is (scoped_entered _ _ h e refl) c.requires.room))))

pub check_condition-check_condition-requires-in-Conditions-2 : goal.check_condition-check_condition-requires-in-Conditions-2
check_condition-check_condition-requires-in-Conditions-2 t c =
    let h = held_arm c.requires.has.0 in
    let e = c.in-Conditions.ensures in
    let d = under_body (entered e h).1 c.decreases in
    (d.0, (d.1, room_after _ _ c.check_condition-in-Conditions.ensures (room_after _ _ c.check_itself.ensures (room_is (scoped_entered _ _ h e refl) c.requires.room))))

pub check_condition-check_operand-requires : goal.check_condition-check_operand-requires
check_condition-check_operand-requires t c =
    let h = held_arm c.requires.has.0 in
    let e = c.in-Operands.ensures in
    let d = under_term (entered e h).0 c.decreases in
    (d.0, (d.1, room_first _ _ (room_after _ _ c.check_itself.ensures (room_is (scoped_entered _ _ h e refl) c.requires.room))))

pub check_condition-check_operand-requires-in-Operands : goal.check_condition-check_operand-requires-in-Operands
check_condition-check_operand-requires-in-Operands t c =
    let h = held_arm c.requires.has.0 in
    let e = c.in-Operands.ensures in
    let d = under_term (entered e h).1 c.decreases in
    (d.0, (d.1, room_after _ _ c.check_operand.ensures (room_after _ _ c.check_itself.ensures (room_is (scoped_entered _ _ h e refl) c.requires.room))))

pub check_condition-returns-in-Nothing : goal.check_condition-returns-in-Nothing
check_condition-returns-in-Nothing t c =
    added_is (scoped_entered _ _ (held_arm c.requires.has.0) c.in-Nothing.ensures refl) (added_then c.check_itself.ensures added_none)

pub check_condition-returns-in-Condition : goal.check_condition-returns-in-Condition
check_condition-returns-in-Condition t c =
    added_is (scoped_entered _ _ (held_arm c.requires.has.0) c.in-Condition.ensures c.scope_first-inner.ensures) (added_then c.check_itself.ensures c.check_condition.ensures)

pub check_condition-returns-in-Conditions : goal.check_condition-returns-in-Conditions
check_condition-returns-in-Conditions t c =
    added_is (scoped_entered _ _ (held_arm c.requires.has.0) c.in-Conditions.ensures refl)
    (added_then c.check_itself.ensures (added_then c.check_condition-in-Conditions.ensures c.check_condition-in-Conditions-2.ensures))

pub check_condition-returns-in-Operands : goal.check_condition-returns-in-Operands
check_condition-returns-in-Operands t c =
    added_is (scoped_entered _ _ (held_arm c.requires.has.0) c.in-Operands.ensures refl)
    (added_then c.check_itself.ensures (added_then c.check_operand.ensures c.check_operand-in-Operands.ensures))

-- ---- an operand: nothing is entered, or its sides, its binders and its body, or its items

pub check_operand-returns-then-is_sound : goal.check_operand-returns-then-is_sound
unfolding has_none
check_operand-returns-then-is_sound t c =
    added_is (sound_operand_scoped _ (λ k e. empty_everywhere c.args.words (search rules) e k) _ _ c.requires.has.1 (sym c.is_sound.ensures ∙ c.if-is_sound.true)) added_none

pub check_operand-check_operand-requires : goal.check_operand-check_operand-requires
check_operand-check_operand-requires t c =
    let a = (operand_told c.in-Arith.ensures (held_arm c.requires.has.0)).1 in
    let d = under_term a.children.0 c.decreases in (d.0, (d.1, room_first _ _ (room_is (scoped_arith _ _ a) c.requires.room)))

pub check_operand-check_operand-requires-in-Arith : goal.check_operand-check_operand-requires-in-Arith
check_operand-check_operand-requires-in-Arith t c =
    let a = (operand_told c.in-Arith.ensures (held_arm c.requires.has.0)).1 in
    let d = under_term a.children.1.0 c.decreases in
    (d.0, (d.1, room_after _ _ c.check_operand.ensures (room_is (scoped_arith _ _ a) c.requires.room)))

pub check_operand-check_agg_expr-requires-clause-room : goal.check_operand-check_agg_expr-requires-clause-room
check_operand-check_agg_expr-requires-clause-room t c =
    let g = operand_told c.in-Aggregate.ensures (held_arm c.requires.has.0) in
    let n = not_skipped _ (mem c.args.words) (mem c.args.scope) c.requires.has.1 (sym c.is_sound.ensures ∙ c.if-is_sound.false) in
    room_first _ _ (room_is (scoped_aggregate _ _ g.1 refl g.2 n) c.requires.room)

pub check_operand-binder_names-own-requires : goal.check_operand-binder_names-own-requires
check_operand-binder_names-own-requires t c =
    let g = operand_told c.in-Aggregate.ensures (held_arm c.requires.has.0) in (of_aggregate g.1 g.2).0.has

pub check_operand-check_condition-requires : goal.check_operand-check_condition-requires
check_operand-check_condition-requires t c =
    let g = operand_told c.in-Aggregate.ensures (held_arm c.requires.has.0) in
    let n = not_skipped _ (mem c.args.words) (mem c.args.scope) c.requires.has.1 (sym c.is_sound.ensures ∙ c.if-is_sound.false) in
    let d = under_body (of_aggregate g.1 g.2).1 c.decreases in
    (d.0, (d.1, room_after _ _ c.check_agg_expr.ensures (room_is (scoped_aggregate _ _ g.1 (c.bitor-inner.ensures ∙ ap₂ ◌∪◌ refl c.binder_names-own.ensures) g.2 n) c.requires.room)))

pub check_operand-reject_nested_agg-requires-clause-has : goal.check_operand-reject_nested_agg-requires-clause-has
check_operand-reject_nested_agg-requires-clause-has t c = (operand_told c.in-Array.ensures (held_arm c.requires.has.0)).children.0.has

pub check_operand-reject_nested_agg-requires-clause-room : goal.check_operand-reject_nested_agg-requires-clause-room
check_operand-reject_nested_agg-requires-clause-room t c = room_is (scoped_array _ _ (operand_told c.in-Array.ensures (held_arm c.requires.has.0))) c.requires.room

pub check_operand-returns-in-Arith : goal.check_operand-returns-in-Arith
check_operand-returns-in-Arith t c =
    added_is (scoped_arith _ _ (operand_told c.in-Arith.ensures (held_arm c.requires.has.0)).1) (added_then c.check_operand.ensures c.check_operand-in-Arith.ensures)

pub check_operand-returns-in-Aggregate : goal.check_operand-returns-in-Aggregate
check_operand-returns-in-Aggregate t c =
    let g = operand_told c.in-Aggregate.ensures (held_arm c.requires.has.0) in
    let n = not_skipped _ (mem c.args.words) (mem c.args.scope) c.requires.has.1 (sym c.is_sound.ensures ∙ c.if-is_sound.false) in
    added_is (scoped_aggregate _ _ g.1 (c.bitor-inner.ensures ∙ ap₂ ◌∪◌ refl c.binder_names-own.ensures) g.2 n) (added_then c.check_agg_expr.ensures c.check_condition.ensures)

pub check_operand-returns-in-Array : goal.check_operand-returns-in-Array
check_operand-returns-in-Array t c =
    added_is (scoped_array _ _ (operand_told c.in-Array.ensures (held_arm c.requires.has.0))) c.reject_nested_agg.ensures

pub check_operand-returns-in_default : goal.check_operand-returns-in_default
check_operand-returns-in_default t c =
    added_is (operand_none _ _ c.in_default.ensures (held_arm c.requires.has.0)) added_none
