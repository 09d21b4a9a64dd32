-- `is_clean` asks of a root's row what the walks would ask of it. Assumes nothing.
use mathlib.Core.Path.{ap, ap₂, ◌∙◌}
use mathlib.Core.Bool.{Bool, ◌&&◌, ◌||◌}
use Rattle.paper.specs.Sets.{Set}
use Rattle.trees.specs.Trees.{tree_of}
use Rattle.names.specs.Words.{mem}
use Rattle.known.specs.Needs.{has_none, met, sound}
use Rattle.known.specs.Known.{known_of}
use Rattle.known.proofs.RowLaws.{body_had}
use Rattle.listing.specs.Parts.{clean}
use Rattle.listing.proofs.is_clean.Goals as goal

pub returns : goal.returns
unfolding clean has_none
returns c =
    let k = known_of (tree_of c.args.nodes.now.columns.now c.args.i.0) in
    ap₂ (λ (a b : Bool). a && b)
    (ap₂ (λ (a b : Bool). a && b) (c.is_sound-sound.ensures ∙ ap (λ (z : Set). sound k.broken k.binds k.unclosed k.free (mem c.args.words) z) c.empty-none.ensures)
    (c.is_empty-closed.ensures ∙ ap has_none c.collect_free-free.ensures))
    (ap₂ (λ (a b : Bool). a || b) c.body_has_sigil-sigil.ensures (c.is_met-met.ensures ∙ ap (met k.need k.hard) c.empty-none.ensures))

pub is_sound-sound-requires : goal.is_sound-sound-requires
is_sound-sound-requires c = (c.requires.0.1, body_had _ c.requires.1)

pub collect_free-free-requires : goal.collect_free-free-requires
collect_free-free-requires c = (c.requires.0.1, c.requires.1)

pub body_has_sigil-sigil-requires : goal.body_has_sigil-sigil-requires
body_has_sigil-sigil-requires c = (c.requires.0.1, c.requires.1)

pub is_met-met-requires : goal.is_met-met-requires
is_met-met-requires c = (c.requires.0.1, body_had _ c.requires.1)
