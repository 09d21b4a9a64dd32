-- `list_entries` has a row for each node. Assumes nothing.
use Rattle.listing.proofs.ListingLaws.{in_all_rows}
use Rattle.whole.proofs.list_entries.Goals as goal

pub list_over-requires-2-clause-last : goal.list_over-requires-2-clause-last
list_over-requires-2-clause-last c = (c.requires.last, in_all_rows c.requires.last)
