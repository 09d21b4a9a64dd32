-- `collect_facts` and `collect_list` call each other on the nodes below.
use Rattle.std.proofs.Common.{refl, ap, ◌∙◌, arith}
use Rattle.known.specs.Known.{join}
use Rattle.known.specs.Rows.{meant}
use Rattle.known.proofs.RowLaws.{read_right}
use Rattle.known.proofs.NodeLaws.{node_held, room, call, call_list, came_none, came_one, came_two, finished}
use Rattle.known.proofs.ListLaws.{along_start, along_step, along_end, no_cell, parts_held}
use Rattle.facts.proofs.+collect_facts_collect_list.Goals as goal

-- ---- a node

pub collect_facts-collect_facts-requires : goal.collect_facts-collect_facts-requires
collect_facts-collect_facts-requires t c = call (node_held c.requires.0 refl c.in-One.ensures) c.decreases c.requires.1

pub collect_facts-collect_facts-requires-in-Two : goal.collect_facts-collect_facts-requires-in-Two
collect_facts-collect_facts-requires-in-Two t c = call (node_held c.requires.0 refl c.in-Two.ensures).0 c.decreases c.requires.1

pub collect_facts-collect_facts-requires-in-Two-2 : goal.collect_facts-collect_facts-requires-in-Two-2
collect_facts-collect_facts-requires-in-Two-2 t c =
    call (node_held c.requires.0 refl c.in-Two.ensures).1 c.decreases (room c.collect_facts-in-Two.ensures.kept c.requires.1)

pub collect_facts-collect_list-requires : goal.collect_facts-collect_list-requires
collect_facts-collect_list-requires t c = let h = node_held c.requires.0 refl c.in-List.ensures in call_list h.0 h.1 c.decreases c.requires.1

pub collect_facts-collect_facts-requires-in-Then : goal.collect_facts-collect_facts-requires-in-Then
collect_facts-collect_facts-requires-in-Then t c = call (node_held c.requires.0 refl c.in-Then.ensures).0 c.decreases c.requires.1

pub collect_facts-collect_list-requires-in-Then : goal.collect_facts-collect_list-requires-in-Then
collect_facts-collect_list-requires-in-Then t c =
    let h = node_held c.requires.0 refl c.in-Then.ensures in call_list h.1 h.2 c.decreases (room c.collect_facts-in-Then.ensures.kept c.requires.1)

pub collect_facts-returns-in-Leaf : goal.collect_facts-returns-in-Leaf
collect_facts-returns-in-Leaf t c = finished c.requires.0 refl (came_none c.in-Leaf.ensures refl) c.put_leaf.ensures

pub collect_facts-returns-in-One : goal.collect_facts-returns-in-One
collect_facts-returns-in-One t c = finished c.requires.0 refl (came_one c.in-One.ensures refl c.collect_facts.ensures) c.put_over.ensures

pub collect_facts-returns-in-Two : goal.collect_facts-returns-in-Two
collect_facts-returns-in-Two t c =
    finished c.requires.0 refl (came_two c.in-Two.ensures refl c.collect_facts-in-Two.ensures c.collect_facts-in-Two-2.ensures) c.put_pair.ensures

pub collect_facts-returns-in-List : goal.collect_facts-returns-in-List
collect_facts-returns-in-List t c = finished c.requires.0 refl (came_one c.in-List.ensures refl c.collect_list.ensures) c.put_over-in-List.ensures

pub collect_facts-returns-in-Then : goal.collect_facts-returns-in-Then
collect_facts-returns-in-Then t c =
    finished c.requires.0 refl (came_two c.in-Then.ensures refl c.collect_facts-in-Then.ensures c.collect_list-in-Then.ensures) c.put_pair-in-Then.ensures

-- ---- a list

pub collect_list-loop-term-init : goal.collect_list-loop-term-init
collect_list-loop-term-init t c = (omega arith, along_start c.nothing-all.ensures c.requires.0 c.requires.2)

pub collect_list-collect_facts-requires : goal.collect_list-collect_facts-requires
collect_list-collect_facts-requires t c =
    let l = c.loop-term.invariant in
    let u = parts_held l.1 refl c.in-Some.ensures in
    let below = u.0.0 in
    let upto = l.0 in
    let e = c.decreases in
    let long = room l.1.kept c.requires.1 in (omega arith, (u.0.1, omega arith))

pub collect_list-facts_at-requires : goal.collect_list-facts_at-requires
collect_list-facts_at-requires t c =
    let l = c.loop-term.invariant in
    let u = parts_held l.1 refl c.in-Some.ensures in
    let below = u.0.0 in
    let upto = l.0 in
    let long = room c.collect_facts.ensures.kept (room l.1.kept c.requires.1) in omega arith

pub collect_list-loop-term-smaller : goal.collect_list-loop-term-smaller
collect_list-loop-term-smaller t c = (parts_held c.loop-term.invariant.1 refl c.in-Some.ensures).1.0

pub collect_list-loop-term-preserved : goal.collect_list-loop-term-preserved
collect_list-loop-term-preserved t c =
    let u = parts_held c.loop-term.invariant.1 refl c.in-Some.ensures in
    let below = u.1.0 in
    let upto = c.loop-term.invariant.0 in
    let g = c.collect_facts.ensures in (
      omega arith,
      along_step c.loop-term.invariant.1 refl c.in-Some.ensures g (c.join_facts-all.ensures ∙ ap (join (meant c.loop-term.all)) (read_right c.facts_at.ensures g.here)),
    )

pub collect_list-returns : goal.collect_list-returns
collect_list-returns t c =
    let along = c.loop-term.invariant.1 in
    along_end along refl (no_cell _ c.in_default.not-Some ∙ c.cell_at.ensures) (room along.kept c.requires.1) c.put_facts.ensures
