use Rattle.writes.proofs.WriteLaws.{added_is, room_is}
use Rattle.writes.proofs.NameLaws.{for_same}
use Rattle.checks.proofs.closed.check_leaf_closed.Goals as goal

pub returns : goal.returns
returns c =
    added_is (for_same _ _ c.collect_free-open.ensures) c.emit.ensures

pub collect_free-open-requires : goal.collect_free-open-requires
collect_free-open-requires c = c.requires.i_in_bounds

pub emit-requires : goal.emit-requires
emit-requires c = room_is (for_same _ _ c.collect_free-open.ensures) c.requires.room
