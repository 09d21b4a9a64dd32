-- `is_sigil` says whether a slot is a sigil.
use mathlib.Core.Path.{sym, ap}
use borrow.Enum.Refused.{opened}
use Rattle.paper.specs.FreeAndRestricted.{is_sigil}
use Rattle.slots.proofs.SlotLaws.{sigil_slot}
use Rattle.slots.proofs.is_sigil.Goals as goal

pub returns-in-Name : goal.returns-in-Name
unfolding is_sigil
returns-in-Name c = sym (ap is_sigil c.in-Name.is)

pub returns-in_default : goal.returns-in_default
returns-in_default c = sym (sigil_slot _ (opened c.in_default.in_default-own.keys2))
