-- `arith_facts` restricts nothing and is computed. Assumes nothing.
use mathlib.Core.Path.{refl, ◌∙◌}
use lib.Bits.{bit_or}
use Rattle.names.specs.Words.{bit}
use Rattle.names.proofs.Bits.{bit_of_or}
use Rattle.known.proofs.MarkLaws.{kept, added}
use Rattle.known.specs.Known.{arith_known}
use Rattle.known.specs.Rows.{meant}
use Rattle.together.proofs.arith_facts.Goals as goal

pub returns : goal.returns
unfolding meant arith_known bit
returns c =
    let s = c.args in
    let m = s.left.marks.0 in
    let n = s.right.marks.0 in
    let o = bit_or m n in
    rw (
      c.bitor-needs.ensures,
      c.empty-given.ensures,
      c.bitor-free.ensures,
      c.bitor-2.ensures,
      c.bitor.ensures,
      kept o 32 0 refl ∙ bit_of_or m n 0,
      kept o 32 1 refl ∙ bit_of_or m n 1,
      kept o 32 2 refl ∙ bit_of_or m n 2,
      kept o 32 3 refl ∙ bit_of_or m n 3,
      kept o 32 4 refl ∙ bit_of_or m n 4,
      added o 32 5 refl,
    )
