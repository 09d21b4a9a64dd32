-- `is_sound` asks the test of a node's row. Assumes nothing.
use mathlib.Core.Path.{ap, ap₂, ◌∙◌}
use mathlib.Core.Bool.{Bool, not, ◌&&◌, ◌||◌}
use native.Mathlib.Omega.{arith}
use Rattle.names.specs.Words.{bit, mem}
use Rattle.known.specs.Needs.{has_none, sound}
use Rattle.known.specs.Known.{Known}
use Rattle.known.specs.Rows.{meant}
use Rattle.known.proofs.RowLaws.{noted}
use Rattle.rows.proofs.read.NotedNodes.is_sound.Goals as goal

pub returns : goal.returns
unfolding sound has_none meant bit
returns c =
    let m = c.facts_at-f.result.marks.0 in
    rw (c.has-broken.ensures, c.has-binds.ensures, c.has-unclosed.ensures)
    (ap₂ (λ (a b : Bool). not (bit m 2) && ((not (bit m 3) || a) && (not (bit m 4) || b))) c.is_empty.ensures
    (c.is_empty-2.ensures ∙ ap has_none c.sub-unknown.ensures)
    ∙ ap (λ (k : Known). sound k.broken k.binds k.unclosed k.free (mem c.args.words) (mem c.args.scope))
    (noted c.args.self.now.noted c.requires.0 c.requires.1 c.facts_at-f.ensures))

pub facts_at-f-requires : goal.facts_at-f-requires
facts_at-f-requires c = let l = c.requires.0 in let f = c.args.self.now.noted.fits in omega arith
