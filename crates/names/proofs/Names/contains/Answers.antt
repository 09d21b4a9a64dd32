use Rattle.names.proofs.Bits.{has_low, has_high, mem_past}
use borrow.Author.Rules.{rules}
use Rattle.names.proofs.Names.contains.Goals as goal

pub returns-then-k-lt64 : goal.returns-then-k-lt64
returns-then-k-lt64 c = has_low _ _ (search rules)

pub returns-then-k-lt128 : goal.returns-then-k-lt128
returns-then-k-lt128 c = has_high _ _ (search rules)

pub returns : goal.returns
returns c = mem_past _ _ (search rules) (search rules)
