-- `reject_unmet_sides` writes 31 for the names of both sides that are not tied.
use Rattle.writes.proofs.WriteLaws.{added_is, room_is}
use Rattle.owed.proofs.DemandLaws.{compared_sides}
use Rattle.owed.proofs.reject_unmet_sides.Goals as goal

pub returns : goal.returns
returns c = added_is (compared_sides _ _ _ _ c.bitor-both.ensures) c.reject_unmet_var.ensures

pub reject_unmet_var-requires : goal.reject_unmet_var-requires
reject_unmet_var-requires c = room_is (compared_sides _ _ _ _ c.bitor-both.ensures) c.requires
