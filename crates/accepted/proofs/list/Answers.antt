-- `list` answers as the definitions do, and leaves in the buffer what they say, for all accepted bytes and every buffer.
use mathlib.Core.Path.{refl}
use Rattle.accepted.proofs.AtRoot.{some_root, counts_small, last_root, list_room, list_most, list_without_room, list_with_room}
use Rattle.accepted.proofs.list.Goals as goal

pub list_entries-count-requires : goal.list_entries-count-requires
list_entries-count-requires c =
    let r = c.root.ensures in record {
      last = last_root _ _ c.requires.0 c.fill.ensures _ r;
      room = (
        list_room _ _ c.requires.0 c.fill.ensures _ r _ c.requires.1,
        list_most _ _ c.requires.0 c.fill.ensures _ r _ c.requires.1 c.requires.2 c.most_entries-most.ensures,
      );
    }

pub returns-then-room-count : goal.returns-then-room-count
returns-then-room-count c =
    list_without_room _ _ c.requires.0 c.fill.ensures _ c.root.ensures _ c.requires.1 c.list_entries-count.ensures c.if-room-count.true

pub returns : goal.returns
returns c =
    list_with_room _ _ c.requires.0 c.fill.ensures _ c.root.ensures _ c.requires.1 c.list_entries-count.ensures c.if-room-count.false

pub fill-requires : goal.fill-requires
fill-requires c = ((some_root _ _ c.requires.0).1, refl)

pub most_entries-most-requires : goal.most_entries-most-requires
most_entries-most-requires c = counts_small _ _ c.requires.0 c.requires.2

pub root-requires : goal.root-requires
root-requires c = some_root _ _ c.requires.0
