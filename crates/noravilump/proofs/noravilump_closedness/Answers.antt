-- `noravilump_closedness` says the answer in numbers, and its place fits.
use mathlib.Core.Path.{ap, ◌∙◌}
use Rattle.paper.specs.Questions.{Answer, answer_numbers}
use Rattle.numbers.specs.Numbers.{asked}
use Rattle.numbers.proofs.Places.{closedness_fits}
use Rattle.noravilump.proofs.noravilump_closedness.Goals as goal

pub answered-requires : goal.answered-requires
answered-requires c = closedness_fits _ _ c.closedness-a.ensures

pub returns : goal.returns
returns c = c.answered.ensures ∙ ap (λ (a : Answer). asked (answer_numbers a)) c.closedness-a.ensures
