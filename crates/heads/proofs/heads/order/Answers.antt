-- `heads::order` meets its contract: its test is the definition's. Assumes nothing.
use Rattle.memory.specs.Heads.{order_by}
use Rattle.heads.proofs.heads.order.Goals as goal
use mathlib.Core.Path.{refl}

pub returns : goal.returns
unfolding order_by
returns c = refl
