-- `check_conjunct_demands` writes a condition's own entries: a comparison's, 31 of Not, 32 of Since. What each arm writes stands first.
use mathlib.Core.Path.{◌≡◌, refl, sym, ap₂, ◌∙◌}
use borrow.Enum.Refused.{opened}
use Rattle.paper.specs.Sets.{◌∪◌}
use Rattle.known.proofs.RowLaws.{body_row, term_row}
use Rattle.views.specs.declared.Owing.{Owing}
use Rattle.views.proofs.SeenLaws.{held_arm, OwingArm, owing_told}
use Rattle.writes.proofs.WriteLaws.{added_none, added_is, room_is}
use Rattle.owed.proofs.DemandLaws.{owed_equality, owed_other, owed_not, owed_since, owed_none}
use Rattle.owed.proofs.check_conjunct_demands.Goals as goal
use Rattle.owed.proofs.check_conjunct_demands.Goals.{After-owing_at}

told : (c : After-owing_at) {s : Owing} → c.owing_at.result ≡ s → OwingArm c.args.nodes.now.columns.now c.args.i.0 s
told c p = owing_told (sym p ∙ c.owing_at.ensures) (held_arm c.requires.has)

pub returns-then-op-eq0 : goal.returns-then-op-eq0
returns-then-op-eq0 c =
    added_is (owed_equality _ (told (goal.at.returns-then-op-eq0 c).After-owing_at c.in-Comparison.is) c.collect_term_var-left.ensures c.collect_term_var-right.ensures c.if-op-eq0.true c.eq_restricted_var-side.ensures) c.check_equality_demands.ensures

pub returns-else-op-eq0 : goal.returns-else-op-eq0
returns-else-op-eq0 c =
    added_is (owed_other _ (told (goal.at.returns-else-op-eq0 c).After-owing_at c.in-Comparison.is) c.collect_term_var-left-else-op-eq0.ensures c.collect_term_var-right-else-op-eq0.ensures c.if-op-eq0.false) c.reject_unmet_sides.ensures

pub returns-in-Not : goal.returns-in-Not
returns-in-Not c =
    added_is (owed_not _ (told (goal.at.returns-in-Not c).After-owing_at c.in-Not.is) c.collect_free-needs.ensures) c.reject_unmet_var.ensures

pub returns-in-Since : goal.returns-in-Since
returns-in-Since c =
    added_is (owed_since _ (told (goal.at.returns-in-Since c).After-owing_at c.in-Since.is).1 c.collect_free-needs-in-Since.ensures (c.bitor-known.ensures ∙ ap₂ ◌∪◌ refl c.collect_range_restricted-anchored.ensures)) c.reject_unmet_var-in-Since.ensures

pub returns-in_default : goal.returns-in_default
returns-in_default c =
    added_is (owed_none c.owing_at.ensures (held_arm c.requires.has) _ (opened c.in_default.in_default-own.keys4)) added_none

pub owing_at-requires : goal.owing_at-requires
owing_at-requires c = c.requires.has

pub eq_restricted_var-side-requires : goal.eq_restricted_var-side-requires
eq_restricted_var-side-requires c = let a = told (goal.at.eq_restricted_var-side-requires c).After-owing_at c.in-Comparison.is in (a.children.0.has, a.children.1.0.has)

pub collect_term_var-left-requires : goal.collect_term_var-left-requires
collect_term_var-left-requires c = term_row (told (goal.at.collect_term_var-left-requires c).After-owing_at c.in-Comparison.is).children.0

pub collect_term_var-right-requires : goal.collect_term_var-right-requires
collect_term_var-right-requires c = term_row (told (goal.at.collect_term_var-right-requires c).After-owing_at c.in-Comparison.is).children.1.0

pub check_equality_demands-requires : goal.check_equality_demands-requires
check_equality_demands-requires c = room_is (owed_equality _ (told (goal.at.check_equality_demands-requires c).After-owing_at c.in-Comparison.is) c.collect_term_var-left.ensures c.collect_term_var-right.ensures c.if-op-eq0.true c.eq_restricted_var-side.ensures) c.requires.room

pub collect_term_var-left-requires-else-op-eq0 : goal.collect_term_var-left-requires-else-op-eq0
collect_term_var-left-requires-else-op-eq0 c = term_row (told (goal.at.collect_term_var-left-requires-else-op-eq0 c).After-owing_at c.in-Comparison.is).children.0

pub collect_term_var-right-requires-else-op-eq0 : goal.collect_term_var-right-requires-else-op-eq0
collect_term_var-right-requires-else-op-eq0 c = term_row (told (goal.at.collect_term_var-right-requires-else-op-eq0 c).After-owing_at c.in-Comparison.is).children.1.0

pub reject_unmet_sides-requires : goal.reject_unmet_sides-requires
reject_unmet_sides-requires c = room_is (owed_other _ (told (goal.at.reject_unmet_sides-requires c).After-owing_at c.in-Comparison.is) c.collect_term_var-left-else-op-eq0.ensures c.collect_term_var-right-else-op-eq0.ensures c.if-op-eq0.false) c.requires.room

pub collect_free-needs-requires : goal.collect_free-needs-requires
collect_free-needs-requires c = body_row (told (goal.at.collect_free-needs-requires c).After-owing_at c.in-Not.is).children.0

pub reject_unmet_var-requires : goal.reject_unmet_var-requires
reject_unmet_var-requires c = room_is (owed_not _ (told (goal.at.reject_unmet_var-requires c).After-owing_at c.in-Not.is) c.collect_free-needs.ensures) c.requires.room

pub collect_free-needs-requires-in-Since : goal.collect_free-needs-requires-in-Since
collect_free-needs-requires-in-Since c = body_row (told (goal.at.collect_free-needs-requires-in-Since c).After-owing_at c.in-Since.is).1.children.0

pub collect_range_restricted-anchored-requires : goal.collect_range_restricted-anchored-requires
collect_range_restricted-anchored-requires c = body_row (told (goal.at.collect_range_restricted-anchored-requires c).After-owing_at c.in-Since.is).1.children.1.0

pub reject_unmet_var-requires-in-Since : goal.reject_unmet_var-requires-in-Since
reject_unmet_var-requires-in-Since c = room_is (owed_since _ (told (goal.at.reject_unmet_var-requires-in-Since c).After-owing_at c.in-Since.is).1 c.collect_free-needs-in-Since.ensures (c.bitor-known.ensures ∙ ap₂ ◌∪◌ refl c.collect_range_restricted-anchored.ensures)) c.requires.room
