-- `same` compares the names' three numbers. Assumes nothing.
use mathlib.Core.Path.{ap₂, ◌∙◌}
use Rattle.std.specs.Str.{bytes_eq}
use Rattle.words.proofs.Eights.{typed}
use Rattle.words.proofs.Pairs.{same_numbers}
use Rattle.words.proofs.same.Goals as goal

pub returns : goal.returns
returns c =
    let g = c.well_formed in
    c.eq.ensures ∙ ap₂ bytes_eq c.numbers.ensures c.numbers-2.ensures ∙ same_numbers (typed _ _ g.0) (typed _ _ g.1.0)
