-- `condition_has_arith` and `term_has_arith` find arithmetic where the definitions do.
use Rattle.std.proofs.Common.{sym, ◌∙◌}
use Rattle.trees.proofs.Arms.{down}
use Rattle.trees.proofs.Shapes.{of_aggregate}
use Rattle.trees.proofs.Joins.{or_taken, or_else}
use Rattle.views.proofs.EnteredLaws.{entered}
use Rattle.views.proofs.SeenLaws.{held_arm, operand_told}
use Rattle.checks.proofs.ArithLaws.{arith_entered, arith_here, arith_aggregate, arith_none}
use Rattle.checks.proofs.arith.+condition_has_arith_term_has_arith.Goals as goal

-- ---- where the walk goes on below a condition, and what it finds there

pub condition_has_arith-condition_has_arith-requires : goal.condition_has_arith-condition_has_arith-requires
condition_has_arith-condition_has_arith-requires t c = down (entered c.in-Condition.ensures (held_arm c.requires)) c.decreases

pub condition_has_arith-condition_has_arith-requires-in-Conditions : goal.condition_has_arith-condition_has_arith-requires-in-Conditions
condition_has_arith-condition_has_arith-requires-in-Conditions t c = down (entered c.in-Conditions.ensures (held_arm c.requires)).0 c.decreases

pub condition_has_arith-condition_has_arith-requires-else-condition_has_arith : goal.condition_has_arith-condition_has_arith-requires-else-condition_has_arith
condition_has_arith-condition_has_arith-requires-else-condition_has_arith t c = down (entered c.in-Conditions.ensures (held_arm c.requires)).1 c.decreases

pub condition_has_arith-term_has_arith-requires : goal.condition_has_arith-term_has_arith-requires
condition_has_arith-term_has_arith-requires t c = down (entered c.in-Operands.ensures (held_arm c.requires)).0 c.decreases

pub condition_has_arith-term_has_arith-requires-else-term_has_arith : goal.condition_has_arith-term_has_arith-requires-else-term_has_arith
condition_has_arith-term_has_arith-requires-else-term_has_arith t c = down (entered c.in-Operands.ensures (held_arm c.requires)).1 c.decreases

pub condition_has_arith-returns-in-Nothing : goal.condition_has_arith-returns-in-Nothing
condition_has_arith-returns-in-Nothing t c = sym (arith_entered (held_arm c.requires) c.in-Nothing.ensures)

pub condition_has_arith-returns-in-Condition : goal.condition_has_arith-returns-in-Condition
condition_has_arith-returns-in-Condition t c = c.condition_has_arith.ensures ∙ sym (arith_entered (held_arm c.requires) c.in-Condition.ensures)

pub condition_has_arith-returns-then-condition_has_arith : goal.condition_has_arith-returns-then-condition_has_arith
condition_has_arith-returns-then-condition_has_arith t c =
    or_taken _ c.if-condition_has_arith.true c.condition_has_arith-in-Conditions.ensures (arith_entered (held_arm c.requires) c.in-Conditions.ensures)

pub condition_has_arith-returns-else-condition_has_arith : goal.condition_has_arith-returns-else-condition_has_arith
condition_has_arith-returns-else-condition_has_arith t c =
    or_else c.if-condition_has_arith.false c.condition_has_arith-in-Conditions.ensures c.condition_has_arith-else-condition_has_arith.ensures
    (arith_entered (held_arm c.requires) c.in-Conditions.ensures)

pub condition_has_arith-returns-then-term_has_arith : goal.condition_has_arith-returns-then-term_has_arith
condition_has_arith-returns-then-term_has_arith t c =
    or_taken _ c.if-term_has_arith.true c.term_has_arith.ensures (arith_entered (held_arm c.requires) c.in-Operands.ensures)

pub condition_has_arith-returns-else-term_has_arith : goal.condition_has_arith-returns-else-term_has_arith
condition_has_arith-returns-else-term_has_arith t c =
    or_else c.if-term_has_arith.false c.term_has_arith.ensures c.term_has_arith-else-term_has_arith.ensures
    (arith_entered (held_arm c.requires) c.in-Operands.ensures)

-- ---- an operand

pub term_has_arith-condition_has_arith-requires : goal.term_has_arith-condition_has_arith-requires
term_has_arith-condition_has_arith-requires t c =
    let g = operand_told c.in-Aggregate.ensures (held_arm c.requires) in down (of_aggregate g.1 g.2).1 c.decreases

pub term_has_arith-returns-in-Arith : goal.term_has_arith-returns-in-Arith
term_has_arith-returns-in-Arith t c = sym (arith_here (operand_told c.in-Arith.ensures (held_arm c.requires)).1)

pub term_has_arith-returns-in-Aggregate : goal.term_has_arith-returns-in-Aggregate
term_has_arith-returns-in-Aggregate t c =
    let g = operand_told c.in-Aggregate.ensures (held_arm c.requires) in c.condition_has_arith.ensures ∙ sym (arith_aggregate g.1 g.2)

pub term_has_arith-returns-in_default : goal.term_has_arith-returns-in_default
term_has_arith-returns-in_default t c = sym (arith_none c.operand_at.ensures (held_arm c.requires) c.in_default.in_default-own.keys3)
