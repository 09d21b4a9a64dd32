-- `collect_range_restricted` reads a fact from a row.
use mathlib.Core.Path.{ap}
use native.Mathlib.Omega.{arith}
use Rattle.known.specs.Known.{Known, condition_known}
use Rattle.known.specs.Rows.{meant}
use Rattle.known.proofs.RowLaws.{noted_body}
use Rattle.rows.proofs.read.NotedNodes.collect_range_restricted.Goals as goal

pub returns : goal.returns
unfolding meant condition_known
returns c = ap (λ (k : Known). k.restricted) (noted_body c.args.self.now.noted c.requires.0 c.requires.1 c.facts_at-f.ensures)

pub facts_at-f-requires : goal.facts_at-f-requires
facts_at-f-requires c = let l = c.requires.0 in let f = c.args.self.now.noted.fits in omega arith
