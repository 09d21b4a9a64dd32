-- `summed` asks whether the slot is a sigil, or a name that no binder has. Assumes nothing.
use mathlib.Core.Path.{◌∙◌, ap₂, subst}
use mathlib.Core.Bool.{Bool, ◌||◌}
use Rattle.paper.specs.Sets.{Set, outside}
use Rattle.paper.specs.FreeAndRestricted.{binder_names}
use Rattle.names.specs.Words.{mem}
use Rattle.names.specs.Apart.{Apart}
use Rattle.trees.specs.Trees.{binders_of}
use Rattle.known.specs.Known.{gathered}
use Rattle.known.specs.Rows.{meant}
use Rattle.known.proofs.Covers.{slot_said}
use Rattle.derived.proofs.summed.Goals as goal

pub returns : goal.returns
returns c =
    let s = c.args in
    let list = binders_of s.columns.now s.list.0 in
    c.gathered.ensures
    ∙ ap₂ (λ (a b : Bool). gathered (meant s.body) list a b) (ap₂ ◌||◌ c.is_sigil-sigil.ensures c.has_sigil_binder-skipped.ensures)
    (slot_said s.slot (outside (binder_names list))
    (subst (λ (a : Set). Apart c.is_subset-summed.result a (outside (binder_names list))) c.slot_name-own.ensures
    (subst (λ (a : Set). Apart c.is_subset-summed.result (mem c.slot_name-own.result) (outside a)) c.binder_names-bound.ensures c.is_subset-summed.ensures)))

pub slot_name-own-requires : goal.slot_name-own-requires
slot_name-own-requires c = c.requires.1

pub binder_names-bound-requires : goal.binder_names-bound-requires
binder_names-bound-requires c = c.requires.0

pub has_sigil_binder-skipped-requires : goal.has_sigil_binder-skipped-requires
has_sigil_binder-skipped-requires c = c.requires.0

pub gathered-requires : goal.gathered-requires
gathered-requires c = c.requires.0
