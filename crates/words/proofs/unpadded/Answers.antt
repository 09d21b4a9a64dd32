-- `unpadded` lends the bytes before the first zero, or all of them. Assumes nothing.
use mathlib.Core.Path.{sym, ◌∙◌}
use Rattle.words.proofs.Padding.{before_zero, no_zero}
use Rattle.words.proofs.unpadded.Goals as goal

pub returns-in-Some : goal.returns-in-Some
returns-in-Some c = before_zero _ _ (sym c.first_zero.ensures ∙ c.in-Some.is)

pub returns-in-None : goal.returns-in-None
returns-in-None c = no_zero _ (sym c.first_zero.ensures ∙ c.in-None.is)
