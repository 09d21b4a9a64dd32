-- `write_part` writes the part that the check asks for.
use Rattle.writes.proofs.WriteLaws.{added_is, room_is}
use Rattle.listing.proofs.ListingLaws.{part_scoping, part_closedness, part_demands}
use Rattle.listing.proofs.write_part.Goals as goal

pub returns-in-Scoping : goal.returns-in-Scoping
returns-in-Scoping c = added_is (part_scoping _ _ c.in-Scoping.is) c.check_condition.ensures

pub returns-in-Closedness : goal.returns-in-Closedness
returns-in-Closedness c = added_is (part_closedness _ _ c.in-Closedness.is) c.check_leaf_closed.ensures

pub returns-in-Demands : goal.returns-in-Demands
returns-in-Demands c = added_is (part_demands _ _ c.in-Demands.is) c.check_demands.ensures

pub check_condition-requires : goal.check_condition-requires
check_condition-requires c = record { has = c.requires.has; room = room_is (part_scoping _ _ c.in-Scoping.is) c.requires.room }

pub check_leaf_closed-requires : goal.check_leaf_closed-requires
check_leaf_closed-requires c = record { i_in_bounds = (c.requires.has.0.1, c.requires.has.1); room = room_is (part_closedness _ _ c.in-Closedness.is) c.requires.room }

pub check_demands-requires : goal.check_demands-requires
check_demands-requires c = record { has = c.requires.has; room = room_is (part_demands _ _ c.in-Demands.is) c.requires.room }
