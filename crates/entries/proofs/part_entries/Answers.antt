-- `part_entries` has a row for each node. Assumes nothing.
use Rattle.listing.proofs.ListingLaws.{in_all_rows}
use Rattle.entries.proofs.part_entries.Goals as goal

pub part_over-requires-2-clause-last : goal.part_over-requires-2-clause-last
part_over-requires-2-clause-last c = (c.requires.last, in_all_rows c.requires.last)
