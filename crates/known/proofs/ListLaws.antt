-- A list, cell by cell: its facts are those of its terms, joined. Assumes nothing.
use mathlib.Core.Path.{◌≡◌, refl, sym, ap, ◌∙◌, subst}
use mathlib.Core.Logic.{◌⊎◌, ⊎_elim, inl, inr}
use mathlib.Core.Bool.{true, false, true≢false}
use mathlib.Core.List.{List}
use Prim.Native.Nat.{ℕ, ◌<◌}
use lib.ListN.{length}
use Rattle.std.specs.Prelude.{Option, None, Some}
use Rattle.paper.specs.declared.NodeNo.{NodeNo}
use Rattle.paper.specs.declared.Node.{Node}
use Rattle.paper.specs.declared.Node.TheVariants as node
use Rattle.paper.specs.Sets.{none, ◌∪◌}
use Rattle.paper.specs.Record.{node_no}
use Rattle.paper.specs.Shape.{references}
use Rattle.paper.specs.Tree.{Tree, planted}
use Rattle.paper.proofs.Walks.{All, all_map}
use Rattle.paper.proofs.Weights.{of_sort}
use Rattle.record.specs.Stored.{Has}
use Rattle.trees.specs.Trees.{tree_of, is_row}
use Rattle.trees.proofs.Arms.{Child}
use Rattle.trees.proofs.ByKind.{by_kind}
use Rattle.known.specs.declared.Parts.{Parts}
use Rattle.known.specs.declared.Parts.TheVariants as parts
use Rattle.known.specs.declared.Facts.{Facts}
use Rattle.known.specs.Known.{Known, nothing, both, join, known_of, parts_of, cell_of, nodes_of, way, from_parts, own}
use Rattle.known.specs.Rows.{meant, Right, has_row, node_of, Put, Kept, Reaches, Gathered}
use Rattle.known.proofs.KnownLaws.{planted_known, join_nothing, join_assoc}
use Rattle.known.proofs.PartLaws.{Held, held, known_arm, reached_in, row_unread}
use Rattle.known.proofs.RowLaws.{kept_same, kept_then, put_right}

-- what is known of a node at a list's place, by its parts: it is a cell or the end
abbrev Cell : (ℕ → Tree) → Known → Parts → Type 0
Cell t k parts.Leaf = k ≡ nothing
Cell t k (parts.One b) = ⊥
Cell t k (parts.Two l r) = ⊥
Cell t k (parts.List l) = ⊥
Cell t k (parts.Then x l) = k ≡ join (known_of (t x.0)) (known_of (t l.0))

cell : (t : ℕ → Tree) (n : NodeNo) (m : Node) → All (λ p. of_sort p.0 (t p.1) ≡ true) (references m) → is_row (planted t n m) ≡ true
    → Cell t (known_of (planted t n m)) (parts_of m)
unfolding planted is_row parts_of own way from_parts nothing
cell t n (node.And l r) f e = absurd (true≢false (sym e))
cell t n (node.Or l r) f e = absurd (true≢false (sym e))
cell t n (node.Not b) f e = absurd (true≢false (sym e))
cell t n (node.Formerly b w) f e = absurd (true≢false (sym e))
cell t n (node.Previous b w) f e = absurd (true≢false (sym e))
cell t n (node.Since l r w) f e = absurd (true≢false (sym e))
cell t n (node.Exists s y b) f e = absurd (true≢false (sym e))
cell t n (node.Comparison o l r) f e = absurd (true≢false (sym e))
cell t n (node.Predicate a l) f e = absurd (true≢false (sym e))
cell t n (node.Refine b l) f e = absurd (true≢false (sym e))
cell t n (node.Tp s) f e = absurd (true≢false (sym e))
cell t n (node.Call y) f e = absurd (true≢false (sym e))
cell t n (node.SigilRef y) f e = absurd (true≢false (sym e))
cell t n (node.Var x) f e = absurd (true≢false (sym e))
cell t n node.Wildcard f e = absurd (true≢false (sym e))
cell t n (node.Literal y) f e = absurd (true≢false (sym e))
cell t n (node.ScopeField y) f e = absurd (true≢false (sym e))
cell t n (node.ContextField y) f e = absurd (true≢false (sym e))
cell t n (node.ParamRef k) f e = absurd (true≢false (sym e))
cell t n (node.BinderRef k) f e = absurd (true≢false (sym e))
cell t n (node.Array l) f e = absurd (true≢false (sym e))
cell t n (node.Arith o l r) f e = absurd (true≢false (sym e))
cell t n (node.Sum s l b) f e = absurd (true≢false (sym e))
cell t n (node.Count l b) f e = absurd (true≢false (sym e))
cell t n (node.AggregateCall y) f e = absurd (true≢false (sym e))
cell t n node.ListEnd f e = planted_known t n node.ListEnd f
cell t n (node.ArgumentCell g x l) f e = planted_known t n (node.ArgumentCell g x l) f
cell t n (node.ItemCell x l) f e = planted_known t n (node.ItemCell x l) f
cell t n (node.BinderCell s y l) f e = absurd (true≢false (sym e))

-- at a list's place a cell's term and rest are its parts, and the end has none
abbrev pub cell_parts : Option (NodeNo × NodeNo) → Parts
cell_parts None = parts.Leaf
cell_parts (Some c) = parts.Then c.0 c.1

cell_same : (t : ℕ → Tree) (n : NodeNo) (m : Node) → is_row (planted t n m) ≡ true → cell_parts (cell_of m) ≡ parts_of m
unfolding planted is_row parts_of cell_of
cell_same t n =
    by_kind (λ m. is_row (planted t n m) ≡ true → cell_parts (cell_of m) ≡ parts_of m)
    (λ l r. no_row) (λ l r. no_row) (λ b. no_row) (λ b w. no_row) (λ b w. no_row) (λ l r w. no_row) (λ s y b. no_row) (λ o l r. no_row) (λ a l. no_row)
    (λ b l. no_row) (λ s e. refl) (λ y e. refl) (λ y e. refl) (λ x e. refl) (λ e. refl) (λ y e. refl) (λ y e. refl) (λ y e. refl) (λ k e. refl) (λ k e. refl)
    (λ l. no_row) (λ o l r. no_row) (λ s l b. no_row) (λ l b. no_row) (λ y e. refl) (λ e. refl) (λ f x l e. refl) (λ x l e. refl) (λ s y l e. refl)
  where
    no_row : {Q : Type 0} → false ≡ true → Q
    no_row e = absurd (true≢false (sym e))

pub cell_is : {columns : List ℕ} {at : ℕ} → Has columns at → is_row (tree_of columns at) ≡ true → cell_parts (cell_of (node_of columns at)) ≡ parts_of (node_of columns at)
cell_is {columns} {at} h r = cell_same (tree_of columns) (node_no at) (node_of columns at) (ap is_row (sym (known_arm at h).tree) ∙ r)

-- ---- going along a list

-- what stands before the cell at `at` is right, and `all` is what its terms have
pub record Along (columns : List ℕ) (before rows : List Facts) (all : Known) (list at : ℕ) : Type 0 where
  pub kept : Kept columns before rows
  pub has : Has columns at
  pub row : is_row (tree_of columns at) ≡ true
  pub joined : join all (known_of (tree_of columns at)) ≡ known_of (tree_of columns list)
  pub passed : (k : ℕ) → Reaches columns list k → has_row columns k ≡ true → Right columns rows k ⊎ Reaches columns at k

pub along_start : {columns : List ℕ} {rows : List Facts} {list : ℕ} {all : Known} → all ≡ nothing → Has columns list → is_row (tree_of columns list) ≡ true
    → Along columns rows rows all list list
unfolding join both nothing ◌∪◌ none
along_start {columns} {list = list} e h r =
    record { kept = kept_same; has = h; row = r; joined = ap (λ (z : Known). join z (known_of (tree_of columns list))) e; passed = λ k s t. inr s }

module _ {columns : List ℕ} {before rows : List Facts} {all : Known} {list at : ℕ} {m : Node} {o : Option (NodeNo × NodeNo)} (a : Along columns before rows all list at)
    (is : m ≡ node_of columns at) (cell_at : o ≡ cell_of m) where
  abbrev p : Parts
  p = cell_parts o

  of : p ≡ parts_of m
  of = ap cell_parts (cell_at ∙ ap cell_of is) ∙ cell_is a.has a.row ∙ ap parts_of (sym is)

  here : Cell (tree_of columns) (known_of (tree_of columns at)) p
  here =
      let arm = known_arm at a.has in
      subst (λ (z : Known). Cell (tree_of columns) z p) (sym (ap known_of arm.tree))
      (subst (Cell (tree_of columns) (known_of (planted (tree_of columns) (node_no at) (node_of columns at)))) (ap parts_of (sym is) ∙ sym of)
      (cell (tree_of columns) (node_no at) (node_of columns at) (all_map (λ q (c : Child columns at q.0 q.1). c.fits) (references (node_of columns at)) arm.children)
      (ap is_row (sym arm.tree) ∙ a.row)))

  pub parts_held : Held columns at p
  parts_held = subst (Held columns at) (ap parts_of (sym is) ∙ sym of) (held (node_of columns at) (known_arm at a.has))

  -- what is reached from the cell, by its parts
  onward : (Q : ℕ → Type 0) → All (λ j. (k : ℕ) → Reaches columns j k → has_row columns k ≡ true → Q k) (nodes_of p) → (k : ℕ) → Reaches columns at k → has_row columns k ≡ true → Q k
  onward Q b =
      reached_in Q m a.has is (subst (λ (z : Parts). All (λ j. (k : ℕ) → Reaches columns j k → has_row columns k ≡ true → Q k) (nodes_of z)) of b)
      (λ t. absurd (row_unread _ a.row t))

-- what is no cell is none
pub no_cell : {A : Type 0} (o : Option A) → ((a : A) → o ≡ Some a → ⊥) → None ≡ o
no_cell None h = refl
no_cell (Some a) h = absurd (h a refl)

-- the next cell
pub along_step : {columns : List ℕ} {before rows after : List Facts} {all more : Known} {list at : ℕ} {m : Node} {x rest : NodeNo}
    → Along columns before rows all list at → m ≡ node_of columns at → ◌≡◌ {A = Option (NodeNo × NodeNo)} (Some (x, rest)) (cell_of m) → Gathered columns rows after x.0
    → more ≡ join all (known_of (tree_of columns x.0)) → Along columns before after more list rest.0
along_step {columns} {after = after} {all} {list = list} {x = x} {rest} a is of g e =
    let u = parts_held a is of in
    record {
      kept = kept_then a.kept g.kept;
      has = u.1.1;
      row = u.2;
      joined =
          ap (λ (z : Known). join z (known_of (tree_of columns rest.0))) e ∙ join_assoc all (known_of (tree_of columns x.0)) (known_of (tree_of columns rest.0))
          ∙ ap (join all) (sym (here a is of)) ∙ a.joined;
      passed =
          λ k r t.
          ⊎_elim (λ (s : Right columns _ k). inl (g.kept.right k s))
          (λ s. onward a is of (λ j. Right columns after j ⊎ Reaches columns rest.0 j) (λ j r t. inl (g.below j r t), (λ j r t. inr r, tt)) k s t) (a.passed k r t);
    }

-- the end of the list
pub along_end : {columns : List ℕ} {before rows after : List Facts} {list at : ℕ} {m : Node} {f : Facts}
    → Along columns before rows (meant f) list at → m ≡ node_of columns at → ◌≡◌ {A = Option (NodeNo × NodeNo)} None (cell_of m)
    → list < length rows → Put rows list f after → Gathered columns before after list
along_end {columns} {rows = rows} {after} {list} {at} {f = f} a is of l put =
    let w = put_right put l (sym (join_nothing (meant f)) ∙ ap (join (meant f)) (sym (here a is of)) ∙ a.joined) in
    record {
      kept = kept_then a.kept w.0;
      here = w.1;
      below =
          λ k r t.
          w.0.right k
          (⊎_elim (λ (s : Right columns rows k). s)
          (λ s. onward a is of (Right columns rows) tt k s t) (a.passed k r t));
    }
