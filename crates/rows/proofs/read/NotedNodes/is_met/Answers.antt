-- `is_met` asks the test of a node's row. Assumes nothing.
use mathlib.Core.Path.{ap, ap₂, ◌∙◌}
use mathlib.Core.Bool.{Bool, not, ◌&&◌}
use native.Mathlib.Omega.{arith}
use Rattle.names.specs.Words.{bit, mem}
use Rattle.known.specs.Needs.{has_none, met}
use Rattle.known.specs.Known.{Known}
use Rattle.known.specs.Rows.{meant}
use Rattle.known.proofs.RowLaws.{noted}
use Rattle.rows.proofs.read.NotedNodes.is_met.Goals as goal

pub returns : goal.returns
unfolding met has_none meant bit
returns c =
    ap₂ (λ (a b : Bool). not a && b) c.has.ensures (c.is_empty.ensures ∙ ap has_none c.sub-unmet.ensures)
    ∙ ap (λ (k : Known). met k.need k.hard (mem c.args.tied)) (noted c.args.self.now.noted c.requires.0 c.requires.1 c.facts_at-f.ensures)

pub facts_at-f-requires : goal.facts_at-f-requires
facts_at-f-requires c = let l = c.requires.0 in let f = c.args.self.now.noted.fits in omega arith
