-- `binder_names` joins the names of the binders: those of the slots so far and those of the slots that are left are all.
use Rattle.std.proofs.Common.{◌≡◌, List, refl, sym, ap, ap₂, ◌∙◌, subst}
use Rattle.paper.specs.declared.Slot.{Slot}
use Rattle.paper.specs.Sets.{Set, none, ◌∪◌}
use Rattle.paper.specs.FreeAndRestricted.{binder_names}
use Rattle.paper.proofs.Walks.{All}
use Rattle.names.specs.Words.{mem}
use Rattle.record.specs.Stored.{Has}
use Rattle.trees.specs.Trees.{binders_of}
use Rattle.trees.specs.Terms.{Tabled}
use Rattle.slots.specs.declared.Binders.{Binders}
use Rattle.slots.specs.Binders.{slots_of}
use Rattle.slots.proofs.SlotLaws.{slots_tabled, names_of, names_are, union_none, union_assoc}
use Rattle.slots.proofs.binder_names.Goals as goal

pub loop-slot-init : goal.loop-slot-init
unfolding ◌∪◌ none
loop-slot-init c =
    subst (λ (b : Binders). Has b.columns.now b.at.0 × Unit {0} × (mem c.empty-own.result ∪ names_of (slots_of (binders_of b.columns.now b.at.0)) ≡ binder_names (binders_of c.args.columns.now c.args.i.0)))
    (sym c.into_iter-slot-iterator.ensures.into_iter_gives)
    (c.requires, tt, ap (λ (a : Set). a ∪ names_of (slots_of (binders_of c.args.columns.now c.args.i.0))) c.empty-own.ensures ∙ names_are _)

pub slot_name-name-requires : goal.slot_name-name-requires
slot_name-name-requires c = (subst (All Tabled) c.in-Some.ensures.steps (slots_tabled _ _ c.loop-slot.invariant.0)).0

pub loop-slot-preserved : goal.loop-slot-preserved
loop-slot-preserved c = (
  c.in-Some.ensures.goes.keeps,
  tt,
  ap₂ ◌∪◌ (c.bitor-own.ensures ∙ ap₂ ◌∪◌ refl c.slot_name-name.ensures) refl ∙ union_assoc _ _ _
      ∙ ap (λ (l : List Slot). mem c.loop-slot.own ∪ names_of l) (sym c.in-Some.ensures.steps) ∙ c.loop-slot.invariant.2,
)

pub returns : goal.returns
returns c =
    sym (union_none _) ∙ ap (λ (l : List Slot). mem c.loop-slot.own ∪ names_of l) (sym c.in-None.ensures.steps.0) ∙ c.loop-slot.invariant.2
