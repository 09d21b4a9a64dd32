-- The names of a set one after the other. Assumes nothing: this is a definition.
use Rattle.std.specs.Prelude.{List, map}
use Rattle.paper.specs.declared.NameNo.{NameNo}
use Rattle.paper.specs.Record.{name_no}
use Rattle.paper.specs.Sets.{Set, members}

abbrev pub ascending : Set → List NameNo
ascending a = map name_no (members a 128)
