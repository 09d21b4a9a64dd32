-- `noravilump_arithmetic` says the answer in numbers, and its place fits.
use mathlib.Core.Path.{ap, ◌∙◌}
use Rattle.paper.specs.Questions.{Arithmetic, arithmetic_numbers}
use Rattle.numbers.specs.Numbers.{asked}
use Rattle.numbers.proofs.Places.{arithmetic_fits}
use Rattle.noravilump.proofs.noravilump_arithmetic.Goals as goal

pub yes_or_no-requires : goal.yes_or_no-requires
yes_or_no-requires c = arithmetic_fits _ _ c.arithmetic-a.ensures

pub returns : goal.returns
returns c = c.yes_or_no.ensures ∙ ap (λ (a : Arithmetic). asked (arithmetic_numbers a)) c.arithmetic-a.ensures
