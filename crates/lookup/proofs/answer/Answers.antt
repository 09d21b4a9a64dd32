-- `answer` asks equalities alone. Assumes nothing.
use mathlib.Core.Path.{◌≡◌, sym, ◌∙◌}
use borrow.Author.Rules.{rules}
use borrow.Enum.Refused.{opened}
use Rattle.views.specs.declared.Owing.{Owing}
use Rattle.views.proofs.SeenLaws.{held_arm, OwingArm, owing_told}
use Rattle.lookup.proofs.FoundLaws.{asked_other, asked_equality, asked_compared}
use Rattle.lookup.proofs.answer.Goals as goal
use Rattle.lookup.proofs.answer.Goals.{After-owing_at}

told : (c : After-owing_at) {s : Owing} → c.owing_at.result ≡ s → OwingArm c.args.columns.now c.args.i.0 s
told c p = owing_told (sym p ∙ c.owing_at.ensures) (held_arm c.requires)

pub eq_restricted_var-requires : goal.eq_restricted_var-requires
eq_restricted_var-requires c =
    let a = told (goal.at.eq_restricted_var-requires c).After-owing_at c.in-Comparison.is in
    let left = a.children.0.has in
    let right = a.children.1.0.has in
    (search rules, search rules)

pub returns-then-op-eq0 : goal.returns-then-op-eq0
returns-then-op-eq0 c =
    asked_equality (told (goal.at.returns-then-op-eq0 c).After-owing_at c.in-Comparison.is) c.if-op-eq0.true c.eq_restricted_var.ensures

pub returns-else-op-eq0 : goal.returns-else-op-eq0
returns-else-op-eq0 c = asked_compared (told (goal.at.returns-else-op-eq0 c).After-owing_at c.in-Comparison.is) c.if-op-eq0.false

pub returns-in_default : goal.returns-in_default
returns-in_default c = asked_other c.owing_at.ensures (held_arm c.requires) (opened c.in_default.in_default-own.keys2)

pub owing_at-requires : goal.owing_at-requires
owing_at-requires c = c.requires
