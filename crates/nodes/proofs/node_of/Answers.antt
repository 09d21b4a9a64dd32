-- Each arm of `node_of` takes the fields of its kind from its word, and the last has the kinds that carry nothing.
use mathlib.Core.List.{[], ◌∷◌}
use Rattle.memory.specs.Columns.{node_told}
use Rattle.memory.proofs.NodeLaws.{arms, last_arm}
use Rattle.memory.proofs.Unnamed.{Rest}
use Rattle.nodes.proofs.node_of.Goals as goal

pub returns-in-16 : goal.returns-in-16
unfolding node_told Rest
returns-in-16 c = search arms

pub returns-in-17 : goal.returns-in-17
unfolding node_told Rest
returns-in-17 c = search arms

pub returns-in-18 : goal.returns-in-18
unfolding node_told Rest
returns-in-18 c = search arms

pub returns-in-19 : goal.returns-in-19
unfolding node_told Rest
returns-in-19 c = search arms

pub returns-in-20 : goal.returns-in-20
unfolding node_told Rest
returns-in-20 c = search arms

pub returns-in-21 : goal.returns-in-21
unfolding node_told Rest
returns-in-21 c = search arms

pub returns-in-22 : goal.returns-in-22
unfolding node_told Rest
returns-in-22 c = search arms

pub returns-in-23 : goal.returns-in-23
unfolding node_told Rest
returns-in-23 c = search arms

pub returns-in-24 : goal.returns-in-24
unfolding node_told Rest
returns-in-24 c = search arms

pub returns-in-25 : goal.returns-in-25
unfolding node_told Rest
returns-in-25 c = search arms

pub returns-in-26 : goal.returns-in-26
unfolding node_told Rest
returns-in-26 c = search arms

pub returns-in-27 : goal.returns-in-27
unfolding node_told Rest
returns-in-27 c = search arms

pub returns-in-28 : goal.returns-in-28
unfolding node_told Rest
returns-in-28 c = search arms

pub returns-in-32 : goal.returns-in-32
unfolding node_told Rest
returns-in-32 c = search arms

pub returns-in-33 : goal.returns-in-33
unfolding node_told Rest
returns-in-33 c = search arms

pub returns-in-34 : goal.returns-in-34
unfolding node_told Rest
returns-in-34 c = search arms

pub returns-in-35 : goal.returns-in-35
unfolding node_told Rest
returns-in-35 c = search arms

pub returns-in-36 : goal.returns-in-36
unfolding node_told Rest
returns-in-36 c = search arms

pub returns-in-37 : goal.returns-in-37
unfolding node_told Rest
returns-in-37 c = search arms

pub returns-in-38 : goal.returns-in-38
unfolding node_told Rest
returns-in-38 c = search arms

pub returns-in-39 : goal.returns-in-39
unfolding node_told Rest
returns-in-39 c = search arms

pub returns-in-40 : goal.returns-in-40
unfolding node_told Rest
returns-in-40 c = search arms

pub returns-in-41 : goal.returns-in-41
unfolding node_told Rest
returns-in-41 c = search arms

pub returns-in-42 : goal.returns-in-42
unfolding node_told Rest
returns-in-42 c = search arms

pub returns-in-43 : goal.returns-in-43
unfolding node_told Rest
returns-in-43 c = search arms

pub returns-in-49 : goal.returns-in-49
unfolding node_told Rest
returns-in-49 c = search arms

pub returns-in-50 : goal.returns-in-50
unfolding node_told Rest
returns-in-50 c = search arms

pub returns-in-51 : goal.returns-in-51
unfolding node_told Rest
returns-in-51 c = search arms

pub returns-in_default : goal.returns-in_default
unfolding node_told Rest
returns-in_default c = let a = c.args.n in last_arm _ (a.p0 ∷ a.p1 ∷ a.p2 ∷ a.p3 ∷ a.p4 ∷ []) c.in_default.in_default-own.rest
