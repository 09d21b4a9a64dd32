-- `numbers_at` takes the numbers of a node from its word. Assumes nothing.
use mathlib.Core.Path.{ap, ◌∙◌}
use Rattle.memory.specs.Columns.{numbers_in}
use Rattle.record.proofs.access.numbers_at.Goals as goal

pub word_at-requires : goal.word_at-requires
word_at-requires c = c.requires

pub returns : goal.returns
returns c = c.numbers_in.ensures ∙ ap numbers_in c.word_at.ensures
