-- `timed` has the names twice, and may be a sigil. Assumes nothing.
use mathlib.Core.Path.{refl}
use Rattle.names.specs.Words.{bit}
use Rattle.known.proofs.MarkLaws.{maybe_kept, maybe_added}
use Rattle.known.specs.Known.{naming}
use Rattle.known.specs.Rows.{meant}
use Rattle.together.proofs.timed.Goals as goal

pub returns : goal.returns
unfolding meant naming bit
returns c =
    let b = c.args.sigil in
    rw (
      c.empty-none.ensures,
      c.bitor.ensures,
      c.mark-marks.ensures,
      maybe_added 8 1 0 b refl,
      maybe_kept 8 1 1 b refl,
      maybe_kept 8 1 2 b refl,
      maybe_kept 8 1 3 b refl,
      maybe_kept 8 1 4 b refl,
      maybe_kept 8 1 5 b refl,
    )
