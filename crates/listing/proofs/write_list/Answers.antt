-- `write_list` writes the three parts in their order.
use Rattle.writes.proofs.WriteLaws.{added_then, added_is, room_is, room_first, room_after}
use Rattle.listing.proofs.ListingLaws.{listed_are}
use Rattle.listing.proofs.write_list.Goals as goal

pub returns : goal.returns
returns c =
    added_is (listed_are _ _ _ c.empty-scope.ensures) (added_then c.check_condition.ensures (added_then c.check_leaf_closed.ensures c.check_demands.ensures))

pub check_condition-requires : goal.check_condition-requires
check_condition-requires c = record { has = c.requires.has; room = room_first _ _ (room_is (listed_are _ _ _ c.empty-scope.ensures) c.requires.room) }

pub check_leaf_closed-requires : goal.check_leaf_closed-requires
check_leaf_closed-requires c = record {
  i_in_bounds = (c.requires.has.0.1, c.requires.has.1);
  room = room_first _ _ (room_after _ _ c.check_condition.ensures (room_is (listed_are _ _ _ c.empty-scope.ensures) c.requires.room));
}

pub check_demands-requires : goal.check_demands-requires
check_demands-requires c = record {
  has = c.requires.has;
  room = room_after _ _ c.check_leaf_closed.ensures (room_after _ _ c.check_condition.ensures (room_is (listed_are _ _ _ c.empty-scope.ensures) c.requires.room));
}
