-- `tied_second` gives what is tied at the second place below a condition.
use mathlib.Core.Path.{◌≡◌, sym, ◌∙◌}
use borrow.Enum.Refused.{opened}
use Rattle.known.proofs.RowLaws.{body_row}
use Rattle.views.specs.declared.Owing.{Owing}
use Rattle.views.proofs.SeenLaws.{held_arm, OwingArm, owing_told}
use Rattle.owed.proofs.DemandLaws.{second_and, second_same}
use Rattle.owed.proofs.tied_second.Goals as goal
use Rattle.owed.proofs.tied_second.Goals.{After-owing_at}

told : (c : After-owing_at) {s : Owing} → c.owing_at.result ≡ s → OwingArm c.args.nodes.now.columns.now c.args.i.0 s
told c p = owing_told (sym p ∙ c.owing_at.ensures) (held_arm c.requires)

pub owing_at-requires : goal.owing_at-requires
owing_at-requires c = c.requires

pub collect_range_restricted-given-requires : goal.collect_range_restricted-given-requires
collect_range_restricted-given-requires c = body_row (told (goal.at.collect_range_restricted-given-requires c).After-owing_at c.in-And.is).1.children.0

pub returns-in-And : goal.returns-in-And
returns-in-And c = second_and _ (told (goal.at.returns-in-And c).After-owing_at c.in-And.is).1 c.collect_range_restricted-given.ensures c.bitor.ensures

pub returns-in_default : goal.returns-in_default
returns-in_default c = second_same c.owing_at.ensures (held_arm c.requires) _ (opened c.in_default.in_default-own.keys2)
