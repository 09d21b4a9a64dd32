-- `part_noted` gathers the facts of the nodes, and walks over them where there may be something to tell. Assumes nothing.
use Rattle.listing.proofs.ListingLaws.{from_last}
use Rattle.entries.proofs.part_noted.Goals as goal

pub invariant_of-nodes : goal.invariant_of-nodes
invariant_of-nodes c = record { noted = (from_last c.requires.last c.collect_facts.ensures).1 }

pub is_quiet-requires : goal.is_quiet-requires
is_quiet-requires c = let s = from_last c.requires.last c.collect_facts.ensures in (s.0, s.2)

pub write_part-requires-clause-has : goal.write_part-requires-clause-has
write_part-requires-clause-has c = let s = from_last c.requires.last c.collect_facts.ensures in (s.0, s.2)
