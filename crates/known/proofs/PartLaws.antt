-- The parts of a node and its references: what is known of the parts of a node that was read, and that nothing but binders is left out. Assumes nothing.
use mathlib.Core.Path.{◌≡◌, refl, sym, ap, ◌∙◌, subst}
use mathlib.Core.Bool.{true, false, ◌||◌, true≢false}
use mathlib.Core.List.{List}
use Prim.Native.Nat.{ℕ, ◌<◌}
use Rattle.paper.specs.declared.NodeNo.{NodeNo}
use Rattle.paper.specs.declared.Node.{Node}
use Rattle.paper.specs.declared.Node.TheVariants as node
use Rattle.paper.specs.Record.{Sort, arguments, items, binders}
use Rattle.paper.specs.Shape.{references}
use Rattle.paper.specs.Tree as tree
use Rattle.paper.specs.Tree.{Tree, planted}
use Rattle.paper.proofs.Walks.{All, all_map, all_at}
use Rattle.paper.proofs.Weights.{of_sort}
use Rattle.record.specs.Stored.{Has}
use Rattle.trees.specs.Trees.{tree_of, is_condition, is_term, is_row}
use Rattle.trees.proofs.Arms.{Child, Arm, arm}
use Rattle.known.specs.declared.Parts.{Parts}
use Rattle.known.specs.declared.Parts.TheVariants as parts
use Rattle.known.specs.Known.{parts_of, nodes_of}
use Rattle.known.specs.Rows.{has_row, node_of, Reaches, here, by}

row_arguments : (t : Tree) → of_sort arguments t ≡ true → is_row t ≡ true
unfolding of_sort is_row
row_arguments (tree.a_condition c) e = e
row_arguments (tree.a_term t) e = e
row_arguments (tree.arguments l) e = refl
row_arguments (tree.items l) e = refl
row_arguments (tree.binders l) e = e
row_arguments (tree.an_end n) e = refl

row_items : (t : Tree) → of_sort items t ≡ true → is_row t ≡ true
unfolding of_sort is_row
row_items (tree.a_condition c) e = e
row_items (tree.a_term t) e = e
row_items (tree.arguments l) e = refl
row_items (tree.items l) e = refl
row_items (tree.binders l) e = e
row_items (tree.an_end n) e = refl

-- ---- the parts of a node that was read

module _ (columns : List ℕ) (i : ℕ) where
  abbrev Under : NodeNo → Type 0
  Under k = (k.0 < i) × Has columns k.0

  abbrev pub Held : Parts → Type 0
  Held parts.Leaf = Unit {0}
  Held (parts.One b) = Under b
  Held (parts.Two l r) = Under l × Under r
  Held (parts.List l) = Under l × (is_row (tree_of columns l.0) ≡ true)
  Held (parts.Then b l) = Under b × Under l × (is_row (tree_of columns l.0) ≡ true)

module _ {columns : List ℕ} {i : ℕ} where
  below : {s : Sort} {k : NodeNo} → Child columns i s k.0 → Under columns i k
  below c = (c.falls, c.has)

  pub held : (m : Node) → Arm columns i m → Held columns i (parts_of m)
  unfolding parts_of
  held (node.And l r) a = (below a.children.0, below a.children.1.0)
  held (node.Or l r) a = (below a.children.0, below a.children.1.0)
  held (node.Not b) a = below a.children.0
  held (node.Formerly b w) a = below a.children.0
  held (node.Previous b w) a = below a.children.0
  held (node.Since l r w) a = (below a.children.0, below a.children.1.0)
  held (node.Exists s y b) a = below a.children.0
  held (node.Comparison o l r) a = (below a.children.0, below a.children.1.0)
  held (node.Predicate q l) a = (below a.children.0, row_arguments _ a.children.0.fits)
  held (node.Refine b l) a = (below a.children.0, below a.children.1.0, row_arguments _ a.children.1.0.fits)
  held (node.Tp s) a = tt
  held (node.Call y) a = tt
  held (node.SigilRef y) a = tt
  held (node.Var x) a = tt
  held node.Wildcard a = tt
  held (node.Literal y) a = tt
  held (node.ScopeField y) a = tt
  held (node.ContextField y) a = tt
  held (node.ParamRef k) a = tt
  held (node.BinderRef k) a = tt
  held (node.Array l) a = (below a.children.0, row_items _ a.children.0.fits)
  held (node.Arith o l r) a = (below a.children.0, below a.children.1.0)
  held (node.Sum s l b) a = below a.children.1.0
  held (node.Count l b) a = below a.children.1.0
  held (node.AggregateCall y) a = tt
  held node.ListEnd a = tt
  held (node.ArgumentCell g x l) a = (below a.children.0, below a.children.1.0, row_arguments _ a.children.1.0.fits)
  held (node.ItemCell x l) a = (below a.children.0, below a.children.1.0, row_items _ a.children.1.0.fits)
  held (node.BinderCell s y l) a = tt

-- ---- every reference is to a part, or to binders

pub covered : (P : ℕ → Type 0) (m : Node) → All P (nodes_of (parts_of m)) → All (λ q. q.0 ≡ binders → P q.1) (references m) → All (λ q. P q.1) (references m)
unfolding parts_of
covered P (node.And l r) p q = p
covered P (node.Or l r) p q = p
covered P (node.Not b) p q = p
covered P (node.Formerly b w) p q = p
covered P (node.Previous b w) p q = p
covered P (node.Since l r w) p q = p
covered P (node.Exists s y b) p q = p
covered P (node.Comparison o l r) p q = p
covered P (node.Predicate a l) p q = p
covered P (node.Refine b l) p q = p
covered P (node.Tp s) p q = tt
covered P (node.Call y) p q = tt
covered P (node.SigilRef y) p q = tt
covered P (node.Var x) p q = tt
covered P node.Wildcard p q = tt
covered P (node.Literal y) p q = tt
covered P (node.ScopeField y) p q = tt
covered P (node.ContextField y) p q = tt
covered P (node.ParamRef k) p q = tt
covered P (node.BinderRef k) p q = tt
covered P (node.Array l) p q = p
covered P (node.Arith o l r) p q = p
covered P (node.Sum s l b) p q = (q.0 refl, p)
covered P (node.Count l b) p q = (q.0 refl, p)
covered P (node.AggregateCall y) p q = tt
covered P node.ListEnd p q = tt
covered P (node.ArgumentCell g x l) p q = p
covered P (node.ItemCell x l) p q = p
covered P (node.BinderCell s y l) p q = (q.0 refl, tt)

binders_only : (t : ℕ → Tree) (n : NodeNo) (m : Node) → of_sort binders (planted t n m) ≡ true → All (λ q. q.0 ≡ binders) (references m)
unfolding planted of_sort
binders_only t n (node.And l r) e = absurd (true≢false (sym e))
binders_only t n (node.Or l r) e = absurd (true≢false (sym e))
binders_only t n (node.Not b) e = absurd (true≢false (sym e))
binders_only t n (node.Formerly b w) e = absurd (true≢false (sym e))
binders_only t n (node.Previous b w) e = absurd (true≢false (sym e))
binders_only t n (node.Since l r w) e = absurd (true≢false (sym e))
binders_only t n (node.Exists s y b) e = absurd (true≢false (sym e))
binders_only t n (node.Comparison o l r) e = absurd (true≢false (sym e))
binders_only t n (node.Predicate a l) e = absurd (true≢false (sym e))
binders_only t n (node.Refine b l) e = absurd (true≢false (sym e))
binders_only t n (node.Tp s) e = absurd (true≢false (sym e))
binders_only t n (node.Call y) e = absurd (true≢false (sym e))
binders_only t n (node.SigilRef y) e = absurd (true≢false (sym e))
binders_only t n (node.Var x) e = absurd (true≢false (sym e))
binders_only t n node.Wildcard e = absurd (true≢false (sym e))
binders_only t n (node.Literal y) e = absurd (true≢false (sym e))
binders_only t n (node.ScopeField y) e = absurd (true≢false (sym e))
binders_only t n (node.ContextField y) e = absurd (true≢false (sym e))
binders_only t n (node.ParamRef k) e = absurd (true≢false (sym e))
binders_only t n (node.BinderRef k) e = absurd (true≢false (sym e))
binders_only t n (node.Array l) e = absurd (true≢false (sym e))
binders_only t n (node.Arith o l r) e = absurd (true≢false (sym e))
binders_only t n (node.Sum s l b) e = absurd (true≢false (sym e))
binders_only t n (node.Count l b) e = absurd (true≢false (sym e))
binders_only t n (node.AggregateCall y) e = absurd (true≢false (sym e))
binders_only t n node.ListEnd e = tt
binders_only t n (node.ArgumentCell g x l) e = absurd (true≢false (sym e))
binders_only t n (node.ItemCell x l) e = absurd (true≢false (sym e))
binders_only t n (node.BinderCell s y l) e = (refl, tt)

no_row : (t : Tree) → of_sort binders t ≡ true → (is_condition t || is_term t) ≡ false
unfolding of_sort is_condition is_term
no_row (tree.a_condition c) e = absurd (true≢false (sym e))
no_row (tree.a_term t) e = absurd (true≢false (sym e))
no_row (tree.arguments l) e = refl
no_row (tree.items l) e = refl
no_row (tree.binders l) e = refl
no_row (tree.an_end n) e = refl

pub row_unread : (t : Tree) → is_row t ≡ true → (is_condition t || is_term t) ≡ true → ⊥
unfolding is_row is_condition is_term
row_unread (tree.a_condition c) e f = true≢false (sym e)
row_unread (tree.a_term t) e f = true≢false (sym e)
row_unread (tree.arguments l) e f = true≢false (sym f)
row_unread (tree.items l) e f = true≢false (sym f)
row_unread (tree.binders l) e f = true≢false (sym f)
row_unread (tree.an_end n) e f = true≢false (sym f)

module _ {columns : List ℕ} where
  pub known_arm : (i : ℕ) → Has columns i → Arm columns i (node_of columns i)
  known_arm i h = arm columns i (node_of columns i) (node_of columns i) h refl refl

  -- from binders nothing is reached that has a row
  unread : {i k : ℕ} → Has columns i → of_sort binders (tree_of columns i) ≡ true → Reaches columns i k → has_row columns k ≡ false
  unread h e here = no_row _ e
  unread {i} h e (by {j = j} (s, m) r) =
      let a = known_arm i h in
      let child = all_at (λ (q : Sort × ℕ). Child columns i q.0 q.1) (references (node_of columns i)) (s, j) a.children m in
      let only = binders_only (tree_of columns) _ (node_of columns i) (ap (of_sort binders) (sym a.tree) ∙ e) in
      let is = all_at (λ (q : Sort × ℕ). q.0 ≡ binders) (references (node_of columns i)) (s, j) only m in
      unread child.has (subst (λ (z : Sort). of_sort z (tree_of columns j) ≡ true) is child.fits) r

  -- what holds of a node and of all that is reached from its parts
  pub reached_in : {i : ℕ} (Q : ℕ → Type 0) (m : Node) → Has columns i → m ≡ node_of columns i
      → All (λ j. (k : ℕ) → Reaches columns j k → has_row columns k ≡ true → Q k) (nodes_of (parts_of m)) → (has_row columns i ≡ true → Q i)
      → (k : ℕ) → Reaches columns i k → has_row columns k ≡ true → Q k
  reached_in Q m h e p q k here t = q t
  reached_in {i} Q m h e p q k (by {j = j} (s, l) r) t =
      all_at (λ (z : Sort × ℕ). (k : ℕ) → Reaches columns z.1 k → has_row columns k ≡ true → Q k) (references (node_of columns i)) (s, j)
      (covered (λ j. (k : ℕ) → Reaches columns j k → has_row columns k ≡ true → Q k) (node_of columns i) (subst (λ (z : Node). All (λ j. (k : ℕ) → Reaches columns j k → has_row columns k ≡ true → Q k) (nodes_of (parts_of z))) e p)
      (all_map {D = λ (z : Sort × ℕ). z.0 ≡ binders → (k : ℕ) → Reaches columns z.1 k → has_row columns k ≡ true → Q k} (λ z (c : Child columns i z.0 z.1) is k r t. absurd (true≢false (sym t ∙ unread c.has (subst (λ (y : Sort). of_sort y (tree_of columns z.1) ≡ true) is c.fits) r)))
      (references (node_of columns i)) (known_arm i h).children))
      l k r t
