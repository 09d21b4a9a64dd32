use Rattle.std.proofs.Common.{rules}
use Rattle.slots.specs.Binders.{slots_of}
use Rattle.slots.proofs.SlotLaws.{cell_arm, at_end, slots_end, slots_cell}
use Rattle.slots.proofs.BindersIterator.next.Goals as goal

pub returns-in_err-slot-clause-steps : goal.returns-in_err-slot-clause-steps
returns-in_err-slot-clause-steps c = let e = at_end c.requires c.binder_at.ensures slots_of slots_end c.in_err-slot.was in search rules

pub returns-clause-steps : goal.returns-clause-steps
returns-clause-steps c = slots_cell (cell_arm c.requires c.binder_at.ensures c.in_ok-slot.was).1

pub returns-clause-goes : goal.returns-clause-goes
returns-clause-goes c =
    let a = (cell_arm c.requires c.binder_at.ensures c.in_ok-slot.was).1 in
    let e = slots_cell a in
    let h = a.children.0.has in
    search rules
