-- `tied_first` gives what is tied at the first place below a condition.
use Rattle.paper.specs.Sets.{◌∖◌}
use Rattle.std.proofs.Common.{ap₂, refl}
use mathlib.Core.Path.{◌≡◌, sym, ◌∙◌}
use borrow.Enum.Refused.{opened}
use Rattle.slots.proofs.SlotLaws.{slot_tabled}
use Rattle.known.proofs.RowLaws.{body_row}
use Rattle.views.specs.declared.Owing.{Owing}
use Rattle.views.proofs.SeenLaws.{held_arm, OwingArm, owing_told}
use Rattle.owed.proofs.DemandLaws.{first_since, first_exists, first_same}
use Rattle.owed.proofs.tied_first.Goals as goal
use Rattle.owed.proofs.tied_first.Goals.{After-owing_at}

told : (c : After-owing_at) {s : Owing} → c.owing_at.result ≡ s → OwingArm c.args.nodes.now.columns.now c.args.i.0 s
told c p = owing_told (sym p ∙ c.owing_at.ensures) (held_arm c.requires)

pub owing_at-requires : goal.owing_at-requires
owing_at-requires c = c.requires

pub collect_range_restricted-given-requires : goal.collect_range_restricted-given-requires
collect_range_restricted-given-requires c = body_row (told (goal.at.collect_range_restricted-given-requires c).After-owing_at c.in-Since.is).1.children.1.0

pub slot_name-own-requires : goal.slot_name-own-requires
slot_name-own-requires c = slot_tabled c.in-Exists.slot (told (goal.at.slot_name-own-requires c).After-owing_at c.in-Exists.is).2.tabled

pub returns-in-Since : goal.returns-in-Since
returns-in-Since c = first_since _ (told (goal.at.returns-in-Since c).After-owing_at c.in-Since.is).1 c.collect_range_restricted-given.ensures c.bitor.ensures

pub returns-in-Exists : goal.returns-in-Exists
returns-in-Exists c = first_exists _ (told (goal.at.returns-in-Exists c).After-owing_at c.in-Exists.is).2 (c.sub.ensures ∙ ap₂ ◌∖◌ refl c.slot_name-own.ensures)

pub returns-in_default : goal.returns-in_default
returns-in_default c = first_same c.owing_at.ensures (held_arm c.requires) _ (opened c.in_default.in_default-own.keys3)
