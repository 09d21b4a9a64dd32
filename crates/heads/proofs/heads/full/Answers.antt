-- `heads::full` meets its contract: its test is the definition's. Assumes nothing.
use Rattle.memory.specs.Heads.{full_by}
use Rattle.heads.proofs.heads.full.Goals as goal
use mathlib.Core.Path.{refl}

pub returns : goal.returns
unfolding full_by
returns c = refl
