-- `leaf_facts` has the facts of each kind without parts; the last arm has the kinds without a name and without a sigil. Assumes nothing.
use mathlib.Core.Path.{◌≡◌, refl, sym, ap, ap₂, ◌∙◌}
use mathlib.Core.Logic.{⊎_elim}
use mathlib.Core.Bool.{true, false}
use mathlib.Core.List.{List}
use Prim.Native.Nat.{ℕ}
use borrow.Enum.Refused.{opened}
use Rattle.paper.specs.declared.Node.{Node}
use Rattle.paper.specs.Sets.{Set}
use Rattle.slots.proofs.SlotLaws.{slot_tabled}
use Rattle.trees.specs.Trees.{tree_of}
use Rattle.known.specs.Known.{Known, naming, parts_of, alone, way, own}
use Rattle.known.specs.Rows.{node_of}
use Rattle.known.proofs.WayLaws.{names_tabled, of_alone, other_leaf}
use Rattle.derived.proofs.leaf_facts.Goals as goal

-- the facts of a node, by its kind
comes : (columns : List ℕ) (i : ℕ) {g m : Node} {k : Known} → g ≡ node_of columns i → g ≡ m → way (tree_of columns) m ≡ alone k
    → k ≡ own (tree_of columns) (node_of columns i)
comes columns i e is w = sym (of_alone _ _ (ap (way _) (sym e ∙ is) ∙ w))

pub slot_name-own-requires : goal.slot_name-own-requires
slot_name-own-requires c = slot_tabled c.in-Tp.slot (names_tabled c.requires.0 (sym c.node_at.ensures ∙ c.in-Tp.is))

pub single-own-requires : goal.single-own-requires
single-own-requires c = (names_tabled c.requires.0 (sym c.node_at.ensures ∙ c.in-Var.is)).0

pub returns-in-Tp : goal.returns-in-Tp
unfolding way
returns-in-Tp c =
    c.timed.ensures ∙ ap₂ (λ (n : Set) b. naming n b true) c.slot_name-own.ensures c.is_sigil-sigil.ensures ∙ comes _ _ c.node_at.ensures c.in-Tp.is refl

pub returns-in-Var : goal.returns-in-Var
unfolding way
returns-in-Var c = c.naming.ensures ∙ ap (λ (n : Set). naming n false false) c.single-own.ensures ∙ comes _ _ c.node_at.ensures c.in-Var.is refl

pub returns-in-Call : goal.returns-in-Call
unfolding way
returns-in-Call c =
    c.opaque.ensures
    ∙ ⊎_elim (λ w. comes _ _ c.node_at.ensures w.1 refl)
    (⊎_elim (λ w. comes _ _ c.node_at.ensures w.1 refl) (⊎_elim (λ w. comes _ _ c.node_at.ensures w.1 refl) (λ w. comes _ _ c.node_at.ensures w.1 refl))) c.in-Call.is

pub returns-in-AggregateCall : goal.returns-in-AggregateCall
unfolding way
returns-in-AggregateCall c = c.opaque_aggregate.ensures ∙ comes _ _ c.node_at.ensures c.in-AggregateCall.is refl

pub returns-in_default : goal.returns-in_default
returns-in_default c =
    c.nothing.ensures
    ∙ comes _ _ c.node_at.ensures refl (other_leaf _ _ (opened c.in_default.in_default-own.keys5) (c.requires.1 ∙ ap parts_of (sym c.node_at.ensures)))

pub node_at-requires : goal.node_at-requires
node_at-requires c = c.requires.0
