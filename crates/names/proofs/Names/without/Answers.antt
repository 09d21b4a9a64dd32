use Rattle.names.proofs.Bits.{mem_out_low, mem_out_high}
use borrow.Author.Rules.{rules}
use Rattle.names.proofs.Names.without.Goals as goal

pub returns-then-k-lt64 : goal.returns-then-k-lt64
returns-then-k-lt64 c = mem_out_low _ _ (search rules)

pub returns : goal.returns
returns c = mem_out_high _ _ (search rules) (search rules)
