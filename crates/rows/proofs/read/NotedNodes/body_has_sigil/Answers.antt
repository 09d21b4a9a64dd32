-- `body_has_sigil` reads a fact from a row.
use mathlib.Core.Path.{ap, ◌∙◌}
use native.Mathlib.Omega.{arith}
use Rattle.names.specs.Words.{bit}
use Rattle.known.specs.Known.{Known, condition_known}
use Rattle.known.specs.Rows.{meant}
use Rattle.known.proofs.RowLaws.{noted_body}
use Rattle.rows.proofs.read.NotedNodes.body_has_sigil.Goals as goal

pub returns : goal.returns
unfolding meant condition_known bit
returns c = c.has.ensures ∙ ap (λ (k : Known). k.sigil) (noted_body c.args.self.now.noted c.requires.0 c.requires.1 c.facts_at-f.ensures)

pub facts_at-f-requires : goal.facts_at-f-requires
facts_at-f-requires c = let l = c.requires.0 in let f = c.args.self.now.noted.fits in omega arith
