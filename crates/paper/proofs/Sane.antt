-- Every number that stands in an accepted record's tree is the number of a node, and every name one of the table:
--     sane_within    below any bounds that the record keeps to
--     sane_root      below 512, and below the length of the table
--     sane_any       below 512 and 128, whatever the record
-- Assumes nothing.
use mathlib.Core.Path.{sym, subst}
use Prim.Native.Nat.{ℕ, zero, suc, ◌<◌, ◌≤◌}
use native.Mathlib.Omega.{arith}
use lib.ListN.{length, get_or}
use Rattle.paper.specs.declared.NodeNo.{NodeNo}
use Rattle.paper.specs.declared.Slot.{Slot}
use Rattle.paper.specs.declared.Node.{Node}
use Rattle.paper.specs.declared.Node.TheVariants as node
use Rattle.paper.specs.Record.{Sort, condition, term, arguments, items, binders, node_no}
use Rattle.paper.specs.TurnedAway.{Contents}
use Rattle.paper.specs.Tree as tree
use Rattle.paper.specs.Tree.{Condition, Term, Arguments, Items, Binders, Tree, a_condition, a_term, an_end}
use Rattle.paper.specs.Tree.{as_condition, as_term, as_arguments, as_items, as_binders, planted, trees, tree_at, root_no, root}
use Rattle.paper.specs.Tree.Condition.{And, Or, Not, Past, Since, Exists, Comparison, Predicate, Refine, Tp, Opaque}
use Rattle.paper.specs.Tree.Term.{Var, Wildcard, Value, Sigil, Array, Arith, Sum, Count, AggregateCall}
use Rattle.paper.specs.Tree.Arguments.{no_argument, argument}
use Rattle.paper.specs.Tree.Items.{no_item, item}
use Rattle.paper.specs.Tree.Binders.{no_binder, binder}
use Rattle.paper.specs.Shape.{references, slot_names, names_in}
use Rattle.paper.proofs.Walks.{All, all_map}
use Rattle.paper.proofs.Forests.{tree_step, tree_same}
use Rattle.paper.proofs.WellFormed.{WellFormed}

-- ---- every node number is below N, and every name below M

module _ (N M : ℕ) where
  -- the slot's name, if it has one
  abbrev pub Tabled : Slot → Type 0
  Tabled s = All (λ x. x < M) (slot_names s)

  abbrev mutual
    pub Sane : Condition → Type 0
    Sane (And n l r) = (n.0 < N) × Sane l × Sane r
    Sane (Or n l r) = (n.0 < N) × Sane l × Sane r
    Sane (Not n b) = (n.0 < N) × Sane b
    Sane (Past n k b w) = (n.0 < N) × Sane b
    Sane (Since n l r w) = (n.0 < N) × Sane l × Sane r
    Sane (Exists n s y b) = (n.0 < N) × Tabled s × Sane b
    Sane (Comparison n o l r) = (n.0 < N) × SaneTerm l × SaneTerm r
    Sane (Predicate n a l) = (n.0 < N) × SaneArguments l
    Sane (Refine n b l) = (n.0 < N) × Sane b × SaneArguments l
    Sane (Tp n s) = (n.0 < N) × Tabled s
    Sane (Opaque n k y) = n.0 < N

    pub SaneTerm : Term → Type 0
    SaneTerm (Var n x) = (n.0 < N) × (x.0 < M)
    SaneTerm (Wildcard n) = n.0 < N
    SaneTerm (Value n k y) = n.0 < N
    SaneTerm (Sigil n k i) = n.0 < N
    SaneTerm (Array n l) = (n.0 < N) × SaneItems l
    SaneTerm (Arith n o l r) = (n.0 < N) × SaneTerm l × SaneTerm r
    SaneTerm (Sum n s l b) = (n.0 < N) × Tabled s × SaneBinders l × Sane b
    SaneTerm (Count n l b) = (n.0 < N) × SaneBinders l × Sane b
    SaneTerm (AggregateCall n y) = n.0 < N

    pub SaneArguments : Arguments → Type 0
    SaneArguments (no_argument n) = n.0 < N
    SaneArguments (argument n f t l) = (n.0 < N) × SaneTerm t × SaneArguments l

    pub SaneItems : Items → Type 0
    SaneItems (no_item n) = n.0 < N
    SaneItems (item n t l) = (n.0 < N) × SaneTerm t × SaneItems l

    pub SaneBinders : Binders → Type 0
    SaneBinders (no_binder n) = n.0 < N
    SaneBinders (binder n s y l) = (n.0 < N) × Tabled s × SaneBinders l

  -- a tree of any sort
  abbrev SaneTree : Tree → Type 0
  SaneTree (a_condition c) = Sane c
  SaneTree (a_term t) = SaneTerm t
  SaneTree (tree.arguments l) = SaneArguments l
  SaneTree (tree.items l) = SaneItems l
  SaneTree (tree.binders l) = SaneBinders l
  SaneTree (an_end n) = n.0 < N

  -- as it stands at a place of a sort
  abbrev SaneAs : Sort → Tree → Type 0
  SaneAs condition t = Sane (as_condition t)
  SaneAs term t = SaneTerm (as_term t)
  SaneAs arguments t = SaneArguments (as_arguments t)
  SaneAs items t = SaneItems (as_items t)
  SaneAs binders t = SaneBinders (as_binders t)

  -- what stands for a tree at a place that is not of its sort has the number 0 alone
  sane_as : 0 < N → (s : Sort) (t : Tree) → SaneTree t → SaneAs s t
  unfolding as_condition as_term as_arguments as_items as_binders
  sane_as z condition (a_condition c) h = h
  sane_as z condition (a_term t) h = (z, z)
  sane_as z condition (tree.arguments l) h = (z, z)
  sane_as z condition (tree.items l) h = (z, z)
  sane_as z condition (tree.binders l) h = (z, z)
  sane_as z condition (an_end n) h = (z, z)
  sane_as z term (a_condition c) h = z
  sane_as z term (a_term t) h = h
  sane_as z term (tree.arguments l) h = z
  sane_as z term (tree.items l) h = z
  sane_as z term (tree.binders l) h = z
  sane_as z term (an_end n) h = z
  sane_as z arguments (a_condition c) h = z
  sane_as z arguments (a_term t) h = z
  sane_as z arguments (tree.arguments l) h = h
  sane_as z arguments (tree.items l) h = z
  sane_as z arguments (tree.binders l) h = z
  sane_as z arguments (an_end n) h = h
  sane_as z items (a_condition c) h = z
  sane_as z items (a_term t) h = z
  sane_as z items (tree.arguments l) h = z
  sane_as z items (tree.items l) h = h
  sane_as z items (tree.binders l) h = z
  sane_as z items (an_end n) h = h
  sane_as z binders (a_condition c) h = z
  sane_as z binders (a_term t) h = z
  sane_as z binders (tree.arguments l) h = z
  sane_as z binders (tree.items l) h = z
  sane_as z binders (tree.binders l) h = h
  sane_as z binders (an_end n) h = h

  -- ---- a planted node

  planted_sane : (t : ℕ → Tree) (n : NodeNo) (m : Node) → n.0 < N → All (λ p. SaneAs p.0 (t p.1)) (references m) → All (λ x. x < M) (names_in m)
      → SaneTree (planted t n m)
  unfolding planted
  planted_sane t n (node.And l r) h a e = (h, a.0, a.1.0)
  planted_sane t n (node.Or l r) h a e = (h, a.0, a.1.0)
  planted_sane t n (node.Not b) h a e = (h, a.0)
  planted_sane t n (node.Formerly b w) h a e = (h, a.0)
  planted_sane t n (node.Previous b w) h a e = (h, a.0)
  planted_sane t n (node.Since l r w) h a e = (h, a.0, a.1.0)
  planted_sane t n (node.Exists s y b) h a e = (h, e, a.0)
  planted_sane t n (node.Comparison o l r) h a e = (h, a.0, a.1.0)
  planted_sane t n (node.Predicate y l) h a e = (h, a.0)
  planted_sane t n (node.Refine b l) h a e = (h, a.0, a.1.0)
  planted_sane t n (node.Tp s) h a e = (h, e)
  planted_sane t n (node.Call y) h a e = h
  planted_sane t n (node.SigilRef y) h a e = h
  planted_sane t n (node.Var x) h a e = (h, e.0)
  planted_sane t n node.Wildcard h a e = h
  planted_sane t n (node.Literal y) h a e = h
  planted_sane t n (node.ScopeField y) h a e = h
  planted_sane t n (node.ContextField y) h a e = h
  planted_sane t n (node.ParamRef k) h a e = h
  planted_sane t n (node.BinderRef k) h a e = h
  planted_sane t n (node.Array l) h a e = (h, a.0)
  planted_sane t n (node.Arith o l r) h a e = (h, a.0, a.1.0)
  planted_sane t n (node.Sum s l b) h a e = (h, e, a.0, a.1.0)
  planted_sane t n (node.Count l b) h a e = (h, a.0, a.1.0)
  planted_sane t n (node.AggregateCall y) h a e = h
  planted_sane t n node.ListEnd h a e = h
  planted_sane t n (node.ArgumentCell f x l) h a e = (h, a.0, a.1.0)
  planted_sane t n (node.ItemCell x l) h a e = (h, a.0, a.1.0)
  planted_sane t n (node.BinderCell s y l) h a e = (h, e, a.0)

  -- ---- all nodes

  module _ (c : Contents) (f : WellFormed c) (few_nodes : length c.nodes ≤ N) (few_names : length c.names ≤ M) where
    abbrev tree_of : ℕ → Tree
    tree_of i = tree_at c.nodes i

    zero_fits : 0 < N
    zero_fits = let z = f.some_node in omega arith

    -- node i's tree, where all before it are sane
    tree_sane : (i : ℕ) → i < length c.nodes → ((j : ℕ) → j < i → SaneTree (tree_of j)) → SaneTree (tree_of i)
    tree_sane i h before =
        subst SaneTree (sym (tree_step c.nodes i))
        (planted_sane (trees c.nodes i) (node_no i) (get_or c.nodes i node.ListEnd) (omega arith)
        (all_map
        (λ p (l : p.1 < i).
        subst (SaneAs p.0) (sym (tree_same c.nodes i p.1 l)) (sane_as zero_fits p.0 (tree_of p.1) (before p.1 l)))
        (references (get_or c.nodes i node.ListEnd)) (f.sound i h).below)
        (all_map (λ x (l : x < length c.names). let z : x < M = omega arith in z) (names_in (get_or c.nodes i node.ListEnd)) (f.sound i h).known))

    trees_sane : (n i : ℕ) → i < n → i < length c.nodes → SaneTree (tree_of i)
    trees_sane zero i l h = absurd (omega arith)
    trees_sane (suc n) i l h = tree_sane i h (λ j k. trees_sane n j (omega arith) (omega arith))

    pub sane_within : Sane (root c)
    unfolding root root_no
    sane_within =
        let z = f.some_node in
        sane_as zero_fits condition (tree_of (root_no c).0) (trees_sane (length c.nodes) (root_no c).0 (omega arith) (omega arith))

pub sane_root : (c : Contents) → WellFormed c → Sane 512 (length c.names) (root c)
sane_root c f = sane_within 512 (length c.names) c f f.few_nodes (omega arith)

pub sane_any : (c : Contents) → WellFormed c → Sane 512 128 (root c)
sane_any c f = sane_within 512 128 c f f.few_nodes f.few_names
