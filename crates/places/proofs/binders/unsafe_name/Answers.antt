-- `unsafe_name` gives the binder's name where 23 is broken.
use mathlib.Core.Path.{◌≡◌, sym, ap₂, ◌∙◌}
use mathlib.Core.Bool.{Bool, true, false}
use Rattle.paper.specs.Record.{pick}
use Rattle.paper.specs.Sets.{Set, ◌∖◌}
use Rattle.places.proofs.binders.unsafe_name.Goals as goal

first_picked : {b : Bool} (x y : Set) → b ≡ true → pick b x y ≡ x
first_picked x y e = rw e

second_picked : {b : Bool} (x y : Set) → b ≡ false → pick b x y ≡ y
second_picked x y e = rw e

pub returns-then-body_has_sigil : goal.returns-then-body_has_sigil
returns-then-body_has_sigil c = c.empty.ensures ∙ sym (first_picked _ _ (sym c.body_has_sigil.ensures ∙ c.if-body_has_sigil.true))

pub returns : goal.returns
returns c = c.sub.ensures ∙ ap₂ ◌∖◌ c.slot_name-own.ensures c.collect_range_restricted-tied.ensures
    ∙ sym (second_picked _ _ (sym c.body_has_sigil.ensures ∙ c.if-body_has_sigil.false))
