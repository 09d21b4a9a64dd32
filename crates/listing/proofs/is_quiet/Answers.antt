-- `is_quiet` asks of a root's row what the walk of the part would ask of it. Assumes nothing.
use mathlib.Core.Path.{sym, ap, ap₂, ◌∙◌}
use mathlib.Core.Bool.{Bool, ◌||◌}
use borrow.Author.Rules.{rules}
use Rattle.trees.specs.Trees.{tree_of}
use Rattle.names.proofs.ApartLaws.{empty_everywhere}
use Rattle.known.specs.Needs.{has_none, met}
use Rattle.known.specs.Known.{known_of}
use Rattle.known.proofs.RowLaws.{body_had}
use Rattle.listing.specs.declared.Check.{Check}
use Rattle.listing.specs.Parts.{quiet}
use Rattle.listing.proofs.ListingLaws.{part_scoping, part_closedness, part_demands, quiet_scoping, quiet_closed, quiet_demands}
use Rattle.listing.proofs.is_quiet.Goals as goal

pub returns-in-Scoping : goal.returns-in-Scoping
unfolding quiet has_none
returns-in-Scoping c = (
  c.is_sound.ensures ∙ sym (ap (λ (k : Check). quiet k (tree_of c.args.nodes.now.columns.now c.args.i.0)) c.in-Scoping.is),
  (λ e. part_scoping _ _ c.in-Scoping.is ∙ quiet_scoping _ c.args.i c.requires.1 _ _ (λ k z. empty_everywhere _ (search rules) z k) (sym c.is_sound.ensures ∙ e)),
)

pub returns-in-Closedness : goal.returns-in-Closedness
unfolding quiet has_none
returns-in-Closedness c =
    let is = c.is_empty.ensures ∙ ap has_none c.collect_free-free.ensures in (
      is ∙ sym (ap (λ (k : Check). quiet k (tree_of c.args.nodes.now.columns.now c.args.i.0)) c.in-Closedness.is),
      (λ e. part_closedness _ _ c.in-Closedness.is ∙ quiet_closed _ c.args.i c.requires.1 (sym is ∙ e)),
    )

pub returns-in-Demands : goal.returns-in-Demands
unfolding quiet
returns-in-Demands c =
    let k = known_of (tree_of c.args.nodes.now.columns.now c.args.i.0) in
    let is = ap₂ (λ (a b : Bool). a || b) c.body_has_sigil-sigil.ensures (c.is_met-met.ensures ∙ ap (met k.need k.hard) c.empty-none.ensures) in (
      is ∙ sym (ap (λ (x : Check). quiet x (tree_of c.args.nodes.now.columns.now c.args.i.0)) c.in-Demands.is),
      (λ e. part_demands _ _ c.in-Demands.is ∙ quiet_demands _ c.args.i c.requires.1 (sym is ∙ e)),
    )

pub is_sound-requires : goal.is_sound-requires
is_sound-requires c = (c.requires.0.1, body_had _ c.requires.1)

pub collect_free-free-requires : goal.collect_free-free-requires
collect_free-free-requires c = (c.requires.0.1, c.requires.1)

pub body_has_sigil-sigil-requires : goal.body_has_sigil-sigil-requires
body_has_sigil-sigil-requires c = (c.requires.0.1, c.requires.1)

pub is_met-met-requires : goal.is_met-met-requires
is_met-met-requires c = (c.requires.0.1, body_had _ c.requires.1)
