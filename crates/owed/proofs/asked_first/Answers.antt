-- `asked_first` says whether the first place below a condition is asked.
use borrow.Enum.Refused.{opened}
use Rattle.views.proofs.SeenLaws.{held_arm}
use Rattle.owed.proofs.DemandLaws.{first_asked, first_unasked}
use Rattle.owed.proofs.asked_first.Goals as goal

pub owing_at-requires : goal.owing_at-requires
owing_at-requires c = c.requires

pub returns-in-Not : goal.returns-in-Not
returns-in-Not c = first_unasked c.owing_at.ensures (held_arm c.requires) c.in-Not.in-Not-own.keys1

pub returns-in_default : goal.returns-in_default
returns-in_default c = first_asked c.owing_at.ensures (held_arm c.requires) (opened c.in_default.in_default-own.keys2)
