-- `binder_names` joins the names of the binders: those of the slots so far and those of the slots that are left are all.
use Rattle.std.proofs.Common.{◌≡◌}
use Rattle.paper.specs.Sets.{◌∪◌}
use Rattle.paper.specs.FreeAndRestricted.{binder_names}
use Rattle.names.specs.Words.{mem}
use Rattle.trees.specs.Trees.{binders_of}
use Rattle.slots.specs.Binders.{slots_of}
use Rattle.slots.proofs.SlotLaws.{names_of}
use Rattle.slots.proofs.binder_names.Given as goal

abbrev pub invariant-loop-slot : goal.invariant-loop-slot
invariant-loop-slot l =
    (goal.iterator-loop-slot).can_next l.slot-iterator × (goal.iterator-loop-slot).is_finite l.slot-iterator
    × (mem l.own ∪ names_of (slots_of (binders_of l.slot-iterator.columns.now l.slot-iterator.at.0)) ≡ binder_names (binders_of l.fn.columns l.fn.i.0))
