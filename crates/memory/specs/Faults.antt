-- Document 01's number of each refusal of the reader. Assumes nothing: this is a definition.
use Rattle.std.specs.Prelude.{ℕ}
use Rattle.memory.specs.declared.Fault.{Fault}
use Rattle.memory.specs.declared.Fault.TheVariants.{CutShort, OutOfOrder, OtherEdition, NotAName, NamesNotAscending, NoRoom, OutOfRange, NotBelow, WrongSort, TooDeep, ReferredTwice, WrongEnd, NotOneTree}

abbrev pub number : Fault → ℕ
number CutShort = 1
number OutOfOrder = 2
number OtherEdition = 3
number NotAName = 4
number NamesNotAscending = 5
number NoRoom = 6
number OutOfRange = 7
number NotBelow = 8
number WrongSort = 9
number TooDeep = 10
number ReferredTwice = 11
number WrongEnd = 12
number NotOneTree = 13
