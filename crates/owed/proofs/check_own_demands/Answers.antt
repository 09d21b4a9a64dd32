-- `check_own_demands` writes a condition's own entries where it is asked, and nothing elsewhere.
use mathlib.Core.Path.{◌≡◌}
use mathlib.Core.Bool.{Bool, true, false}
use mathlib.Core.List.{List, []}
use Rattle.paper.specs.declared.Finding.{Finding}
use Rattle.paper.specs.Record.{pick}
use Rattle.writes.proofs.WriteLaws.{added_none, added_is, room_is}
use Rattle.owed.proofs.check_own_demands.Goals as goal

picked : {b : Bool} (l : List Finding) → b ≡ true → pick b l [] ≡ l
picked l e = rw e

passed_over : {b : Bool} (l : List Finding) → b ≡ false → pick b l [] ≡ []
passed_over l e = rw e

pub returns-then-asked : goal.returns-then-asked
returns-then-asked c = added_is (picked _ c.if-asked.true) c.check_conjunct_demands.ensures

pub returns-else-asked : goal.returns-else-asked
returns-else-asked c = added_is (passed_over _ c.if-asked.false) added_none

pub check_conjunct_demands-requires : goal.check_conjunct_demands-requires
check_conjunct_demands-requires c = record { has = c.requires.has; room = room_is (picked _ c.if-asked.true) c.requires.room }
