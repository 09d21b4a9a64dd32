-- `check_exists_binder` writes 22 and then 23 at the binder of an exists.
use Rattle.writes.proofs.WriteLaws.{added_then, added_is, room_is, room_first, room_after}
use Rattle.writes.proofs.NameLaws.{for_same}
use Rattle.places.proofs.binders.check_exists_binder.Goals as goal

pub reject_reserved_binder-requires : goal.reject_reserved_binder-requires
reject_reserved_binder-requires c = record { tabled = c.requires.tabled.0; room = room_first _ _ c.requires.room }

pub unsafe_name-loose-requires : goal.unsafe_name-loose-requires
unsafe_name-loose-requires c = c.requires.tabled

pub emit-requires : goal.emit-requires
emit-requires c = room_is (for_same _ _ c.unsafe_name-loose.ensures) (room_after _ _ c.reject_reserved_binder.ensures c.requires.room)

pub returns : goal.returns
returns c = added_then c.reject_reserved_binder.ensures (added_is (for_same _ _ c.unsafe_name-loose.ensures) c.emit.ensures)
