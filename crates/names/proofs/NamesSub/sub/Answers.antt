use Rattle.names.proofs.Bits.{mem_minus}
use Rattle.names.proofs.NamesSub.sub.Goals as goal

pub returns : goal.returns
returns c = mem_minus _ _
