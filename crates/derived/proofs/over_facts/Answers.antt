-- `over_facts` has the facts of each kind with one part; the last arm has those of Formerly and Previous. Assumes nothing.
use mathlib.Core.Path.{◌≡◌, refl, sym, ap, ◌∙◌}
use mathlib.Core.Bool.{false}
use mathlib.Core.List.{List}
use Prim.Native.Nat.{ℕ}
use borrow.Enum.Refused.{opened}
use Rattle.paper.specs.declared.Node.{Node}
use Rattle.slots.proofs.SlotLaws.{slot_tabled}
use Rattle.trees.specs.Trees.{tree_of, binders_of}
use Rattle.known.specs.Known.{Known, searched, gathered, parts_of, nodes_of, over, way, own}
use Rattle.known.specs.Rows.{meant, node_of}
use Rattle.known.proofs.RowLaws.{read_right}
use Rattle.known.proofs.NodeLaws.{sound_is, first_row, first_had}
use Rattle.known.proofs.WayLaws.{names_tabled, of_over, other_over}
use Rattle.derived.proofs.over_facts.Goals as goal
use Rattle.derived.proofs.over_facts.Goals.{After-node_at}

module _ (c : After-node_at) where
  abbrev columns : List ℕ
  columns = c.args.columns.now

  abbrev body : Known
  body = meant c.facts_at-body.result

  -- the node, by its kind
  node_is : {m : Node} → c.node_at.result ≡ m → node_of columns c.args.i.0 ≡ m
  node_is is = sym c.node_at.ensures ∙ is

  -- its facts, from the row of its part
  comes : {m : Node} {f : Known → Known} → c.node_at.result ≡ m → way (tree_of columns) m ≡ over f → f body ≡ own (tree_of columns) (node_of columns c.args.i.0)
  comes {f = f} is w =
      ap f (read_right c.facts_at-body.ensures (first_row c.requires.2 c.requires.1).1) ∙ sym (of_over _ _ (ap (way (tree_of columns)) (node_is is) ∙ w) c.requires.1)

-- ---- the arms

pub bound-requires : goal.bound-requires
bound-requires c =
    slot_tabled c.in-Exists.slot (names_tabled c.requires.0 (node_is (goal.at.bound-requires c).After-node_at c.in-Exists.is))

pub summed-requires : goal.summed-requires
summed-requires c =
    let e = node_is (goal.at.summed-requires c).After-node_at c.in-Sum.is in
    (first_had (sound_is e c.requires.2) refl, slot_tabled c.in-Sum.slot (names_tabled c.requires.0 e))

pub returns-in-Not : goal.returns-in-Not
unfolding way
returns-in-Not c = c.loose.ensures ∙ comes (goal.at.returns-in-Not c).After-node_at c.in-Not.is refl

pub returns-in-Exists : goal.returns-in-Exists
unfolding way
returns-in-Exists c = c.bound.ensures ∙ comes (goal.at.returns-in-Exists c).After-node_at c.in-Exists.is refl

pub returns-in-Predicate : goal.returns-in-Predicate
unfolding way meant
returns-in-Predicate c = c.searched.ensures ∙ comes (goal.at.returns-in-Predicate c).After-node_at c.in-Predicate.is refl

pub returns-in-Array : goal.returns-in-Array
unfolding way
returns-in-Array c =
    c.searched-in-Array.ensures ∙ ap (searched (body (goal.at.returns-in-Array c).After-node_at)) c.empty-none.ensures
    ∙ comes (goal.at.returns-in-Array c).After-node_at c.in-Array.is refl

pub returns-in-Sum : goal.returns-in-Sum
unfolding way
returns-in-Sum c = c.summed.ensures ∙ comes (goal.at.returns-in-Sum c).After-node_at c.in-Sum.is refl

pub returns-in-Count : goal.returns-in-Count
unfolding way
returns-in-Count c =
    let s = goal.at.returns-in-Count c in
    c.gathered.ensures ∙ ap (λ y. gathered (body s.After-node_at) (binders_of c.args.columns.now c.in-Count.list.0) y false) c.has_sigil_binder-skipped.ensures
    ∙ comes s.After-node_at c.in-Count.is refl

pub returns-in_default : goal.returns-in_default
returns-in_default c =
    comes (goal.at.returns-in_default c).After-node_at refl
    (other_over _ _ (opened c.in_default.in_default-own.keys7) (ap (λ (m : Node). nodes_of (parts_of m)) c.node_at.ensures ∙ c.requires.1))

pub facts_at-body-requires : goal.facts_at-body-requires
facts_at-body-requires c = (first_row c.requires.2 c.requires.1).0

pub node_at-requires : goal.node_at-requires
node_at-requires c = c.requires.0

pub has_sigil_binder-skipped-requires : goal.has_sigil_binder-skipped-requires
has_sigil_binder-skipped-requires c =
    first_had (sound_is (node_is (goal.at.has_sigil_binder-skipped-requires c).After-node_at c.in-Count.is) c.requires.2) refl

pub gathered-requires : goal.gathered-requires
gathered-requires c = first_had (sound_is (node_is (goal.at.gathered-requires c).After-node_at c.in-Count.is) c.requires.2) refl
