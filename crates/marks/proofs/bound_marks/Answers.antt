-- `bound_marks` adds the marks of an exists. Assumes nothing.
use Rattle.names.specs.Words.{bit}
use Rattle.known.proofs.MarkLaws.{bound_marked}
use Rattle.marks.proofs.bound_marks.Goals as goal

pub returns : goal.returns
unfolding bit
returns c =
    let s = c.args in
    rw (c.bitor-3.ensures, c.bitor-2.ensures, c.bitor.ensures, c.mark-broken.ensures, c.mark-hard.ensures, c.has-sigil.ensures) (bound_marked s.marks.0 s.met s.tied)
