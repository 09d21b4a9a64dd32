-- `gathered_marks` has the marks of an aggregate that is skipped, and of one that is entered. Assumes nothing.
use Rattle.known.proofs.MarkLaws.{skipped_marked, entered_marked}
use Rattle.marks.proofs.gathered_marks.Goals as goal

pub returns-then-skipped : goal.returns-then-skipped
returns-then-skipped c = let s = c.args in rw (c.if-skipped.true, c.bitor-base.ensures, c.bitor-2.ensures, c.bitand-kept.ensures, c.bitor.ensures, c.mark-hard.ensures) (skipped_marked s.marks.0 s.met)

pub returns : goal.returns
returns c =
    let s = c.args in
    rw (
      c.if-skipped.false,
      c.bitor-7.ensures,
      c.bitor-6.ensures,
      c.bitor-5.ensures,
      c.bitor-4.ensures,
      c.bitand-entered.ensures,
      c.bitor-3.ensures,
      c.bitor-base.ensures,
      c.bitor-2.ensures,
      c.bitand-kept.ensures,
      c.bitor.ensures,
      c.mark-unclosed.ensures,
      c.mark-broken.ensures,
      c.mark-hard.ensures,
    ) (entered_marked s.marks.0 s.met s.wrong s.closed)
