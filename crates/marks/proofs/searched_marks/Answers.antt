-- `searched_marks` keeps sigils, and what is computed is broken. Assumes nothing.
use Rattle.names.specs.Words.{bit}
use Rattle.known.proofs.MarkLaws.{searched_marked}
use Rattle.marks.proofs.searched_marks.Goals as goal

pub returns : goal.returns
unfolding bit
returns c = rw (c.bitor-2.ensures, c.bitand.ensures, c.bitor.ensures, c.mark-broken.ensures, c.has-computed.ensures) (searched_marked c.args.marks.0)
