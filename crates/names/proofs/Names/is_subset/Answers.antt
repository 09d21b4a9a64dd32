-- `is_subset` asks whether what is left of the one is empty. Assumes nothing.
use mathlib.Core.Path.{ap, ◌∙◌}
use Rattle.paper.specs.Sets.{Set, ◌∩◌, ◌∖◌, outside, all_below}
use borrow.Author.Rules.{rules}
use Rattle.names.proofs.ApartLaws.{is_apart}
use Rattle.names.proofs.Names.is_subset.Goals as goal

pub returns : goal.returns
unfolding ◌∩◌ ◌∖◌ outside
returns c = is_apart _ _ (search rules) (c.is_empty.ensures ∙ ap (λ (s : Set). all_below 128 (outside s)) c.sub-left.ensures)
