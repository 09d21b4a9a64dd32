-- `refined` joins the free and the restricted names, and the sigils. Assumes nothing.
use mathlib.Core.Path.{refl, ap, ◌∙◌}
use mathlib.Core.Bool.{◌||◌}
use lib.Bits.{bit_and}
use Rattle.names.specs.Words.{bit}
use Rattle.names.proofs.Bits.{bit_of_or}
use Rattle.known.proofs.MarkLaws.{kept, masked, cleared}
use Rattle.known.specs.Known.{refined}
use Rattle.known.specs.Rows.{meant}
use Rattle.together.proofs.refined.Goals as goal

pub returns : goal.returns
unfolding meant refined bit
returns c =
    let s = c.args in
    let m = s.base.marks.0 in
    let n = s.fields.marks.0 in
    let o = bit_and n 1 in
    rw (
      c.bitor-restricted.ensures,
      c.bitor-free.ensures,
      c.bitor.ensures,
      c.bitand.ensures,
      bit_of_or m o 0 ∙ ap (◌||◌ (bit m 0)) (masked n 1 0 refl),
      kept m o 1 (cleared n 1 1 refl),
      kept m o 2 (cleared n 1 2 refl),
      kept m o 3 (cleared n 1 3 refl),
      kept m o 4 (cleared n 1 4 refl),
      kept m o 5 (cleared n 1 5 refl),
    )
