-- `collect_term_var` reads a fact from a row.
use mathlib.Core.Path.{ap}
use native.Mathlib.Omega.{arith}
use Rattle.known.specs.Known.{Known, term_known}
use Rattle.known.specs.Rows.{meant}
use Rattle.known.proofs.RowLaws.{noted_term}
use Rattle.rows.proofs.read.NotedNodes.collect_term_var.Goals as goal

pub returns : goal.returns
unfolding meant term_known
returns c = ap (λ (k : Known). k.free) (noted_term c.args.self.now.noted c.requires.0 c.requires.1 c.facts_at-f.ensures)

pub facts_at-f-requires : goal.facts_at-f-requires
facts_at-f-requires c = let l = c.requires.0 in let f = c.args.self.now.noted.fits in omega arith
