-- `noravilump_scoping` says the answer in numbers, and its place fits.
use mathlib.Core.Path.{ap, ◌∙◌}
use Rattle.paper.specs.Questions.{Answer, answer_numbers}
use Rattle.numbers.specs.Numbers.{asked}
use Rattle.numbers.proofs.Places.{scoping_fits}
use Rattle.noravilump.proofs.noravilump_scoping.Goals as goal

pub answered-requires : goal.answered-requires
answered-requires c = scoping_fits _ _ _ c.scoping-a.ensures

pub returns : goal.returns
returns c = c.answered.ensures ∙ ap (λ (a : Answer). asked (answer_numbers a)) c.scoping-a.ensures
