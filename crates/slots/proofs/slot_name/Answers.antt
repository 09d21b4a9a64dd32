-- `slot_name` gives a slot's name, if it is one.
use mathlib.Core.Path.{sym, ap, ◌∙◌, subst}
use Prim.Native.Nat.{◌<◌}
use native.Mathlib.Omega.{arith}
use borrow.Enum.Refused.{opened}
use Rattle.paper.specs.FreeAndRestricted.{named}
use Rattle.trees.specs.Terms.{Tabled}
use Rattle.slots.proofs.SlotLaws.{unnamed_slot}
use Rattle.slots.proofs.slot_name.Goals as goal

pub single-requires : goal.single-requires
single-requires c = let tabled : c.in-Name.x.0 < 128 = subst Tabled c.in-Name.is c.requires in omega arith

pub returns-in-Name : goal.returns-in-Name
unfolding named
returns-in-Name c = c.single.ensures ∙ sym (ap named c.in-Name.is)

pub returns-in_default : goal.returns-in_default
returns-in_default c = c.empty.ensures ∙ sym (unnamed_slot _ (opened c.in_default.in_default-own.keys2))
