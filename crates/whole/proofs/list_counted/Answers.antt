-- `list_counted` counts the entries, and writes them where there are any and room for all. Assumes nothing.
use Rattle.listing.proofs.ListingLaws.{filled_none, filled_not, filled_all}
use Rattle.whole.proofs.list_counted.Goals as goal

pub returns-then-count-eq0 : goal.returns-then-count-eq0
returns-then-count-eq0 c = filled_none c.list_into-count.ensures c.if-count-eq0.true

pub returns-then-out-count : goal.returns-then-out-count
returns-then-out-count c = filled_not c.list_into-count.ensures c.if-out-count.true

pub returns : goal.returns
returns c = filled_all c.list_into-count.ensures c.if-out-count.false c.list_into.ensures
