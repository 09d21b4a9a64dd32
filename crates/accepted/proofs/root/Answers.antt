-- `root` is the last node.
use mathlib.Core.Path.{refl}
use Rattle.accepted.proofs.root.Goals as goal

pub returns : goal.returns
returns c = refl
