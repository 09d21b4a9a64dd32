-- `reject_unmet_var` writes a rule's entries for the names that are not tied.
use mathlib.Core.Path.{sym, ap}
use mathlib.Core.List.{List}
use Prim.Native.Nat.{ℕ}
use Rattle.paper.specs.declared.NodeNo.{NodeNo}
use Rattle.paper.specs.declared.Finding.{Finding}
use Rattle.paper.specs.Sets.{Set}
use Rattle.paper.specs.Places.{for_names, findings}
use Rattle.writes.proofs.WriteLaws.{added_is, room_is}
use Rattle.owed.proofs.reject_unmet_var.Goals as goal

abbrev entries_for : ℕ → NodeNo → Set → List Finding
entries_for rule n s = findings (for_names rule n s)

pub returns : goal.returns
returns c = added_is (ap (entries_for _ _) (sym c.sub-unmet.ensures)) c.emit.ensures

pub emit-requires : goal.emit-requires
emit-requires c = room_is (ap (entries_for _ _) (sym c.sub-unmet.ensures)) c.requires
