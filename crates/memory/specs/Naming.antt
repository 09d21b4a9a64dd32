-- A new name, over the reader's table. Assumes nothing: these are definitions.
use Rattle.std.specs.Prelude.{ℕ, ◌-◌, ◌&&◌, List, [], eqb, get_or}
use Rattle.std.specs.Prelude.{Ok, Err}
use Rattle.std.specs.declared.result.Result.{Result}
use Rattle.paper.specs.Sets.{Set}
use Rattle.paper.specs.Record.{pick, is_name, precedes}
use Rattle.paper.specs.Scoping.{is_reserved}
use Rattle.memory.specs.declared.Fault.{Fault}
use Rattle.memory.specs.declared.Fault.TheVariants.{NotAName, NamesNotAscending}

-- its fault, if it has one, where the table has so many names
unfoldable pub named_in : List ℕ → List (List ℕ) → ℕ → Result (Unit {0}) Fault
named_in n names count =
    pick (is_name n) (pick (eqb count 0) (Ok tt) (pick (precedes (get_or names (count - 1) []) n) (Ok tt) (Err NamesNotAscending))) (Err NotAName)

-- the name as a reserved one, if it is
unfoldable pub reserved_as : List ℕ → ℕ → Set
reserved_as n x k = eqb k x && is_reserved n
