-- `searched` keeps the free names, and what is computed is broken. Assumes nothing.
use Rattle.known.specs.Known.{searched}
use Rattle.known.specs.Rows.{meant}
use Rattle.together.proofs.searched.Goals as goal

pub returns : goal.returns
unfolding meant searched
returns c =
    let m = c.searched_marks-marks.ensures in
    rw (c.empty-none.ensures, m.sigils, m.hards, m.brokens, m.bindings, m.unclosings, m.computings)
