-- What a node ties, by its number alone, is the definitions'. Assumes nothing.
use mathlib.Core.Path.{◌∙◌}
use borrow.Author.Rules.{rules}
use Rattle.lookup.proofs.FoundLaws.{no_equality}
use Rattle.lookup.proofs.equality.Goals as goal

pub returns-in_err-columns : goal.returns-in_err-columns
returns-in_err-columns c = c.from_residual.ensures ∙ no_equality _ _ (c.load.ensures.has_not (search rules))
