-- Kind, cut and capacity of a record by its row. Assumes nothing: these are definitions.
use Rattle.std.specs.Prelude.{ℕ, ◌<◌, ◌≤◌, ◌≡◌, Bool, not, ◌&&◌, ◌||◌, eqb, leb}
use Rattle.paper.specs.Record.{pick}
use Rattle.std.specs.Prelude.{Ok, Err}
use Rattle.std.specs.declared.result.Result.{Result}
use Rattle.memory.specs.declared.Fault.{Fault}
use Rattle.memory.specs.declared.Fault.TheVariants.{CutShort, OutOfOrder, NoRoom}
use Rattle.memory.specs.declared.Row.{Row}
use Rattle.memory.specs.declared.Head.{Head}
use Rattle.memory.specs.declared.Head.TheVariants.{Format, Name, Node, End}

-- a class of records in its order: the format record first, names before nodes
unfoldable pub order_by : ℕ → Bool → ℕ → Bool
order_by class begun nodes = (eqb class 1 && not begun) || ((eqb class 2 && (begun && eqb nodes 0)) || (leb 3 class && begun))

unfoldable pub full_by : ℕ → ℕ → ℕ → Bool
full_by class names nodes = (eqb class 2 && leb 128 names) || (eqb class 3 && leb 512 nodes)

abbrev pub head_at : ℕ → Head
head_at class = pick (eqb class 1) Format (pick (eqb class 2) Name (pick (eqb class 3) Node End))

unfoldable pub head_by : Row → ℕ → Bool → ℕ → ℕ → Result Head Fault
head_by row left begun names nodes =
    pick (order_by row.class begun nodes)
    (pick (leb row.len left) (pick (full_by row.class names nodes) (Err NoRoom) (Ok (head_at row.class))) (Err CutShort))
    (Err OutOfOrder)

-- what a head lets the code count on
abbrev pub Allows : Result Head Fault → Row → ℕ → ℕ → ℕ → Type 0
Allows (Err f) row left names nodes = Unit {0}
Allows (Ok h) row left names nodes = of h
  where
    of : Head → Type 0
    of Format = row.class ≡ 1
    of Name = (row.class ≡ 2) × (row.len ≤ left) × (names < 128)
    of Node = (row.class ≡ 3) × (nodes < 512)
    of End = Unit {0}

pub record Headed (row : Row) (left : ℕ) (begun : Bool) (names nodes : ℕ) (r : Result Head Fault) : Type 0 where
  pub is : r ≡ head_by row left begun names nodes
  pub allows : Allows r row left names nodes
