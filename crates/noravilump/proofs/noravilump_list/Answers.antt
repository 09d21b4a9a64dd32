-- `noravilump_list` says the list's answer in numbers, and leaves the buffer as the list does.
use mathlib.Core.Path.{ap, ◌∙◌}
use Rattle.paper.specs.Questions.{Listing, listing_numbers}
use Rattle.numbers.specs.Numbers.{asked}
use Rattle.numbers.proofs.Places.{list_fits}
use Rattle.noravilump.proofs.noravilump_list.Goals as goal

pub listed-requires : goal.listed-requires
listed-requires c = list_fits _ _ _ c.list-l.ensures.0

pub returns : goal.returns
returns c = (
  c.listed.ensures ∙ ap (λ (l : Listing). asked (listing_numbers l)) c.list-l.ensures.0,
  c.list-l.ensures.1,
)
