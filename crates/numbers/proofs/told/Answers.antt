-- `told` puts three numbers side by side. A check makes this proof by itself; it stands here so that a wrong `told` is refused here first.
use mathlib.Core.Path.{refl}
use Rattle.numbers.proofs.told.Goals as goal

pub returns : goal.returns
returns c = refl
