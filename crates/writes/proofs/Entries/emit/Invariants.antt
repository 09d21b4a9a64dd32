-- `emit` writes the entries for the names of a set, ascending: the entries written so far and those of the names that are left are all.
use Rattle.std.proofs.Common.{◌≡◌, List, ◌++◌}
use Rattle.paper.specs.declared.Finding.{Finding}
use Rattle.paper.specs.Places.{for_names, findings}
use Rattle.names.specs.Words.{mem}
use Rattle.names.specs.Ascending.{ascending}
use Rattle.writes.specs.Walked.{Added}
use Rattle.writes.proofs.NameLaws.{for_each}
use Rattle.writes.proofs.Entries.emit.Given as goal

abbrev pub invariant-loop-x : goal.invariant-loop-x
invariant-loop-x l =
    (done : List Finding) × (findings (for_names l.rule l.node (mem l.fn.s)) ≡ done ++ for_each l.rule l.node (ascending (mem l.x-iterator.left))) × Added done l.initial.self l.self
