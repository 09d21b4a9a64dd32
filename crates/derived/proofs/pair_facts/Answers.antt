-- `pair_facts` has the facts of each kind with two parts; the last arm has those of a cell. Assumes nothing.
use mathlib.Core.Path.{◌≡◌, refl, sym, ap, ap₂, ◌∙◌}
use mathlib.Core.Bool.{Bool}
use mathlib.Core.List.{List}
use Prim.Native.Nat.{ℕ}
use lib.Dec.{eqb}
use lib.ListN.{get_or}
use borrow.Author.Tests.{eq-eqb, ne_eqb}
use borrow.Enum.Refused.{opened}
use Rattle.paper.specs.declared.NodeNo.{NodeNo}
use Rattle.paper.specs.declared.Node.{Node}
use Rattle.paper.specs.declared.Node.TheVariants as node
use Rattle.paper.specs.declared.Equality.{Equality}
use Rattle.paper.specs.Record.{pick}
use Rattle.paper.specs.Tree.{as_term}
use Rattle.paper.specs.FreeAndRestricted.{equality}
use Rattle.trees.specs.Trees.{tree_of}
use Rattle.vars.proofs.EqualityLaws.{tied_within}
use Rattle.known.specs.Known.{Known, compared, equated, parts_of, nodes_of, between, way, own}
use Rattle.known.specs.Rows.{meant, node_of}
use Rattle.known.proofs.RowLaws.{read_right}
use Rattle.known.proofs.NodeLaws.{both_had, first_row, second_row}
use Rattle.known.proofs.WayLaws.{of_pair, other_pair}
use Rattle.derived.proofs.pair_facts.Goals as goal
use Rattle.derived.proofs.pair_facts.Goals.{After-node_at}

module _ (c : After-node_at) where
  abbrev columns : List ℕ
  columns = c.args.columns.now

  abbrev left : Known
  left = meant c.facts_at-left.result

  abbrev right : Known
  right = meant c.facts_at-right.result

  -- its facts, from the rows of its parts
  comes : {m : Node} {f : Known → Known → Known} → c.node_at.result ≡ m → way (tree_of columns) m ≡ between f
      → f left right ≡ own (tree_of columns) (node_of columns c.args.i.0)
  comes {f = f} is w =
      ap₂ f (read_right c.facts_at-left.ensures (first_row c.requires.2 c.requires.1).1) (read_right c.facts_at-right.ensures (second_row c.requires.2 c.requires.1).1)
      ∙ sym (of_pair _ _ (ap (way (tree_of columns)) (sym c.node_at.ensures ∙ is) ∙ w) c.requires.1)

  -- a comparison, by whether it is an equality
  comparison : {op : ℕ} {l r : NodeNo} → c.node_at.result ≡ node.Comparison op l r → {b : Bool} → eqb op 0 ≡ b
      → let t = tree_of columns in
      pick b (equated (equality (as_term (t c.args.l.0)) (as_term (t c.args.r.0)))) compared left right ≡ own t (node_of columns c.args.i.0)
  unfolding way parts_of
  comparison {op} is d =
      let t = tree_of columns in
      let parts = sym (ap (λ (m : Node). nodes_of (parts_of m)) (sym c.node_at.ensures ∙ is)) ∙ c.requires.1 in
      ap (λ (b : Bool). pick b (equated (equality (as_term (t c.args.l.0)) (as_term (t c.args.r.0)))) compared left right) (sym d)
      ∙ ap (λ (p : List ℕ). pick (eqb op 0) (equated (equality (as_term (t (get_or p 0 0))) (as_term (t (get_or p 1 0))))) compared left right) (sym parts)
      ∙ comes is refl

-- ---- the arms

pub returns-in-And : goal.returns-in-And
unfolding way
returns-in-And c = c.and_facts.ensures ∙ comes (goal.at.returns-in-And c).After-node_at c.in-And.is refl

pub returns-in-Or : goal.returns-in-Or
unfolding way
returns-in-Or c = c.or_facts.ensures ∙ comes (goal.at.returns-in-Or c).After-node_at c.in-Or.is refl

pub returns-in-Since : goal.returns-in-Since
unfolding way
returns-in-Since c = c.since_facts.ensures ∙ comes (goal.at.returns-in-Since c).After-node_at c.in-Since.is refl

pub returns-then-op-eq0 : goal.returns-then-op-eq0
returns-then-op-eq0 c =
    let s = (goal.at.returns-then-op-eq0 c).After-node_at in
    c.equated.ensures ∙ ap (λ (z : Equality). equated z (left s) (right s)) c.eq_restricted_var-side.ensures ∙ comparison s c.in-Comparison.is (eq-eqb _ 0 c.if-op-eq0.true)

pub returns-else-op-eq0 : goal.returns-else-op-eq0
returns-else-op-eq0 c = c.compared.ensures ∙ comparison (goal.at.returns-else-op-eq0 c).After-node_at c.in-Comparison.is (ne_eqb _ 0 c.if-op-eq0.false)

pub returns-in-Refine : goal.returns-in-Refine
unfolding way
returns-in-Refine c = c.refined.ensures ∙ comes (goal.at.returns-in-Refine c).After-node_at c.in-Refine.is refl

pub returns-in-Arith : goal.returns-in-Arith
unfolding way
returns-in-Arith c = c.arith_facts.ensures ∙ comes (goal.at.returns-in-Arith c).After-node_at c.in-Arith.is refl

pub returns-in_default : goal.returns-in_default
returns-in_default c =
    c.join_facts.ensures
    ∙ comes (goal.at.returns-in_default c).After-node_at refl
    (other_pair _ _ (opened c.in_default.in_default-own.keys7) (ap (λ (m : Node). nodes_of (parts_of m)) c.node_at.ensures ∙ c.requires.1))

pub eq_restricted_var-side-requires : goal.eq_restricted_var-side-requires
eq_restricted_var-side-requires c =
    both_had c.requires.0 refl c.requires.1

pub equated-requires : goal.equated-requires
equated-requires c =
    let h = both_had c.requires.0 refl c.requires.1 in
    tied_within h.0 h.1 _ c.eq_restricted_var-side.ensures

pub facts_at-left-requires : goal.facts_at-left-requires
facts_at-left-requires c = (first_row c.requires.2 c.requires.1).0

pub facts_at-right-requires : goal.facts_at-right-requires
facts_at-right-requires c = (second_row c.requires.2 c.requires.1).0

pub node_at-requires : goal.node_at-requires
node_at-requires c = c.requires.0
