-- `check_equality_demands` writes 30 for the value of a binding equality, and what any other comparison has where nothing is tied.
use Rattle.writes.proofs.WriteLaws.{added_is, room_is}
use Rattle.owed.proofs.DemandLaws.{equated_left, equated_right, equated_nothing}
use Rattle.owed.proofs.check_equality_demands.Goals as goal

pub returns-in-Left : goal.returns-in-Left
returns-in-Left c = added_is (equated_left _ _ _ _ c.in-Left.is) c.reject_unmet_var.ensures

pub returns-in-Right : goal.returns-in-Right
returns-in-Right c = added_is (equated_right _ _ _ _ c.in-Right.is) c.reject_unmet_var-in-Right.ensures

pub returns-in-Nothing : goal.returns-in-Nothing
returns-in-Nothing c = added_is (equated_nothing _ _ _ _ c.in-Nothing.is) c.reject_unmet_sides.ensures

pub reject_unmet_var-requires : goal.reject_unmet_var-requires
reject_unmet_var-requires c = room_is (equated_left _ _ _ _ c.in-Left.is) c.requires

pub reject_unmet_var-requires-in-Right : goal.reject_unmet_var-requires-in-Right
reject_unmet_var-requires-in-Right c = room_is (equated_right _ _ _ _ c.in-Right.is) c.requires

pub reject_unmet_sides-requires : goal.reject_unmet_sides-requires
reject_unmet_sides-requires c = room_is (equated_nothing _ _ _ _ c.in-Nothing.is) c.requires
