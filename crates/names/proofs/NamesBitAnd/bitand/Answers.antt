use Rattle.names.proofs.Bits.{mem_common}
use Rattle.names.proofs.NamesBitAnd.bitand.Goals as goal

pub returns : goal.returns
returns c = mem_common _ _
