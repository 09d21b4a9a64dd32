use Rattle.names.proofs.Bits.{mem_none}
use Rattle.names.proofs.Names.empty.Goals as goal

pub returns : goal.returns
returns c = mem_none
