-- `both` joins the free names and the marks. Assumes nothing.
use Rattle.names.proofs.Bits.{bit_of_or}
use Rattle.known.specs.Known.{both}
use Rattle.known.specs.Rows.{meant}
use Rattle.together.proofs.both.Goals as goal

pub returns : goal.returns
unfolding meant both
returns c =
    let s = c.args in
    let m = s.one.marks.0 in
    let n = s.other.marks.0 in
    rw (c.bitor-free.ensures, c.bitor.ensures, bit_of_or m n 0, bit_of_or m n 1, bit_of_or m n 2, bit_of_or m n 3, bit_of_or m n 4, bit_of_or m n 5)
