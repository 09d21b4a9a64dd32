-- `is_disjoint` asks whether what both have is empty. Assumes nothing.
use mathlib.Core.Path.{ap, ◌∙◌}
use Rattle.paper.specs.Sets.{Set, outside, all_below}
use borrow.Author.Rules.{rules}
use Rattle.names.proofs.ApartLaws.{is_apart}
use Rattle.names.proofs.Names.is_disjoint.Goals as goal

pub returns : goal.returns
returns c = is_apart _ _ (search rules) (c.is_empty.ensures ∙ ap (λ (s : Set). all_below 128 (outside s)) c.bitand-shared.ensures)
