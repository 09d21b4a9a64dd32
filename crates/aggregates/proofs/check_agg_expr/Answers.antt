-- `check_agg_expr` writes the five rules of the aggregate that a node is, and nothing for any other node.
use mathlib.Core.Path.{◌≡◌, refl, ap, ◌∙◌}
use mathlib.Core.List.{List}
use borrow.Enum.Refused.{opened}
use Rattle.paper.specs.declared.Finding.{Finding}
use Rattle.paper.specs.declared.Node.{Node}
use Rattle.paper.specs.Places.{Broken, gather, findings}
use Rattle.trees.proofs.Arms.{Arm, arm}
use Rattle.trees.proofs.Sorts.{a_body}
use Rattle.slots.proofs.SlotLaws.{slot_tabled}
use Rattle.writes.proofs.WriteLaws.{added_none, added_is, room_is}
use Rattle.cells.proofs.AggregateLaws.{five_sum, five_count, five_none}
use Rattle.aggregates.proofs.check_agg_expr.Goals as goal
use Rattle.aggregates.proofs.check_agg_expr.Goals.{After-node_at-node}

here : (c : After-node_at-node) {m : Node} → c.node_at-node.result ≡ m
    → Arm c.args.nodes.now.columns.now c.args.i.0 m
here c p = arm _ _ _ _ c.requires.has c.node_at-node.ensures p

abbrev all : List Broken → List Finding
all l = gather findings l

nothing : all mathlib.Core.List.[] ≡ mathlib.Core.List.[]
unfolding gather
nothing = refl

pub returns-in-Sum : goal.returns-in-Sum
returns-in-Sum c =
    added_is (ap all (five_sum _ _ c.slot_name-summed.ensures (here (goal.at.returns-in-Sum c).After-node_at-node c.in-Sum.is))) c.check_aggregation.ensures

pub returns-in-Count : goal.returns-in-Count
returns-in-Count c =
    added_is (ap all (five_count _ _ c.empty-summed.ensures (here (goal.at.returns-in-Count c).After-node_at-node c.in-Count.is))) c.check_aggregation-in-Count.ensures

pub returns-in_default : goal.returns-in_default
returns-in_default c =
    added_is (ap all (five_none _ _ (here (goal.at.returns-in_default c).After-node_at-node refl) (opened c.in_default.in_default-own.keys3)) ∙ nothing) added_none

pub node_at-node-requires : goal.node_at-node-requires
node_at-node-requires c = c.requires.has

pub slot_name-summed-requires : goal.slot_name-summed-requires
slot_name-summed-requires c = slot_tabled c.in-Sum.slot (here (goal.at.slot_name-summed-requires c).After-node_at-node c.in-Sum.is).tabled

pub check_aggregation-requires : goal.check_aggregation-requires
check_aggregation-requires c = let a = here (goal.at.check_aggregation-requires c).After-node_at-node c.in-Sum.is in record { has = (a.children.0.has, a.children.1.0.has.1, a_body _ a.children.1.0.fits); room = room_is (ap all (five_sum _ _ c.slot_name-summed.ensures a)) c.requires.room }

pub check_aggregation-requires-in-Count : goal.check_aggregation-requires-in-Count
check_aggregation-requires-in-Count c = let a = here (goal.at.check_aggregation-requires-in-Count c).After-node_at-node c.in-Count.is in record { has = (a.children.0.has, a.children.1.0.has.1, a_body _ a.children.1.0.fits); room = room_is (ap all (five_count _ _ c.empty-summed.ensures a)) c.requires.room }
