use mathlib.Core.Path.{refl, ap₂, ◌∙◌}
use Rattle.paper.specs.Sets.{◌∩◌}
use Rattle.writes.proofs.WriteLaws.{added_is, room_is}
use Rattle.writes.proofs.NameLaws.{for_same}
use Rattle.places.proofs.binders.reject_reserved_binder.Goals as goal

pub returns : goal.returns
returns c =
    added_is (for_same _ _ (c.bitand-taken.ensures ∙ ap₂ ◌∩◌ c.slot_name-own.ensures refl)) c.emit.ensures

pub slot_name-own-requires : goal.slot_name-own-requires
slot_name-own-requires c = c.requires.tabled

pub emit-requires : goal.emit-requires
emit-requires c = room_is (for_same _ _ (c.bitand-taken.ensures ∙ ap₂ ◌∩◌ c.slot_name-own.ensures refl)) c.requires.room
