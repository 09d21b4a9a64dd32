use Rattle.names.proofs.Bits.{mem_union}
use Rattle.names.proofs.NamesBitOr.bitor.Goals as goal

pub returns : goal.returns
returns c = mem_union _ _
