use Rattle.names.proofs.Bits.{mem_low, mem_high}
use borrow.Author.Rules.{rules}
use Rattle.names.proofs.Names.single.Goals as goal

pub returns-then-k-lt64 : goal.returns-then-k-lt64
returns-then-k-lt64 c = mem_low _ (search rules)

pub returns-else-k-lt64 : goal.returns-else-k-lt64
returns-else-k-lt64 c = mem_high _ (search rules) (search rules)
