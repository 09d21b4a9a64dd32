-- `scope_first` gives what is in scope at the first place below a condition.
use Rattle.paper.specs.Sets.{◌∪◌}
use Rattle.std.proofs.Common.{ap₂, refl}
use mathlib.Core.Path.{◌≡◌, sym, ◌∙◌}
use borrow.Enum.Refused.{opened}
use Rattle.slots.proofs.SlotLaws.{slot_tabled}
use Rattle.views.specs.declared.Itself.{Itself}
use Rattle.views.proofs.SeenLaws.{held_arm, ItselfArm, itself_told}
use Rattle.places.proofs.ItselfLaws.{first_exists, first_same}
use Rattle.places.proofs.itself.scope_first.Goals as goal
use Rattle.places.proofs.itself.scope_first.Goals.{After-itself_at}

told : (c : After-itself_at) {s : Itself} → c.itself_at.result ≡ s → ItselfArm c.args.columns.now c.args.i.0 s
told c p = itself_told (sym p ∙ c.itself_at.ensures) (held_arm c.requires)

pub itself_at-requires : goal.itself_at-requires
itself_at-requires c = c.requires

pub slot_name-own-requires : goal.slot_name-own-requires
slot_name-own-requires c = slot_tabled c.in-Exists.slot (told (goal.at.slot_name-own-requires c).After-itself_at c.in-Exists.is).1.tabled

pub returns-in-Exists : goal.returns-in-Exists
returns-in-Exists c = first_exists _ (told (goal.at.returns-in-Exists c).After-itself_at c.in-Exists.is).1 (c.bitor.ensures ∙ ap₂ ◌∪◌ refl c.slot_name-own.ensures)

pub returns-in_default : goal.returns-in_default
returns-in_default c = first_same _ c.itself_at.ensures (held_arm c.requires) (opened c.in_default.in_default-own.keys2)
