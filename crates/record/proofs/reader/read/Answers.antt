-- `read` answers what the walk over the records came to, with the starts that it put into the array. Assumes nothing.
use mathlib.Core.Path.{refl}
use Rattle.record.proofs.reader.read.Goals as goal

pub returns : goal.returns
returns c = let s = c.scan_records-scanned.ensures in record { said = s.said; held = s.held }

pub scan_records-scanned-requires : goal.scan_records-scanned-requires
scan_records-scanned-requires c = refl
