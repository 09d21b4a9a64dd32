use Rattle.names.proofs.LeastLaws.{trailing}
use Rattle.names.proofs.lowest.Goals as goal

pub returns : goal.returns
returns c = trailing 64 _
