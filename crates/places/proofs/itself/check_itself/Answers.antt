-- `check_itself` writes what is found at a condition itself.
use mathlib.Core.Path.{◌≡◌, sym, ◌∙◌}
use Rattle.trees.proofs.Sorts.{a_body}
use Rattle.slots.proofs.SlotLaws.{slot_tabled}
use Rattle.views.specs.declared.Itself.{Itself}
use Rattle.views.proofs.SeenLaws.{held_arm, ItselfArm, itself_told}
use Rattle.writes.proofs.WriteLaws.{added_none, added_is, room_is}
use Rattle.places.proofs.ItselfLaws.{itself_exists, itself_predicate, itself_tp, itself_none}
use Rattle.places.proofs.itself.check_itself.Goals as goal
use Rattle.places.proofs.itself.check_itself.Goals.{After-itself_at}

told : (c : After-itself_at) {s : Itself} → c.itself_at.result ≡ s → ItselfArm c.args.nodes.now.columns.now c.args.i.0 s
told c p = itself_told (sym p ∙ c.itself_at.ensures) (held_arm c.requires.has)

pub itself_at-requires : goal.itself_at-requires
itself_at-requires c = c.requires.has

pub check_exists_binder-requires : goal.check_exists_binder-requires
check_exists_binder-requires c = let a = (told (goal.at.check_exists_binder-requires c).After-itself_at c.in-Exists.is).1 in record { tabled = (slot_tabled c.in-Exists.slot a.tabled, a.children.0.has.1, a_body _ a.children.0.fits); room = room_is (itself_exists _ a) c.requires.room }

pub reject_nested_agg-requires : goal.reject_nested_agg-requires
reject_nested_agg-requires c = let a = (told (goal.at.reject_nested_agg-requires c).After-itself_at c.in-Predicate.is).1 in record { has = a.children.0.has; room = room_is (itself_predicate _ a) c.requires.room }

pub reject_reserved_binder-requires : goal.reject_reserved_binder-requires
reject_reserved_binder-requires c = let a = told (goal.at.reject_reserved_binder-requires c).After-itself_at c.in-Tp.is in record { tabled = slot_tabled c.in-Tp.slot a.tabled; room = room_is (itself_tp _ a) c.requires.room }

pub returns-in-Exists : goal.returns-in-Exists
returns-in-Exists c = added_is (itself_exists _ (told (goal.at.returns-in-Exists c).After-itself_at c.in-Exists.is).1) c.check_exists_binder.ensures

pub returns-in-Predicate : goal.returns-in-Predicate
returns-in-Predicate c = added_is (itself_predicate _ (told (goal.at.returns-in-Predicate c).After-itself_at c.in-Predicate.is).1) c.reject_nested_agg.ensures

pub returns-in-Tp : goal.returns-in-Tp
returns-in-Tp c = added_is (itself_tp _ (told (goal.at.returns-in-Tp c).After-itself_at c.in-Tp.is)) c.reject_reserved_binder.ensures

pub returns-in_default : goal.returns-in_default
returns-in_default c = added_is (itself_none _ (sym c.in_default.is ∙ c.itself_at.ensures) (held_arm c.requires.has)) added_none
