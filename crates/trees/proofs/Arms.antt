-- What is known of the node that `node_at` gives: its references lie below it and fit their places, its names are in the table, and its tree is made
-- from the trees of its references. Assumes nothing.
use mathlib.Core.Path.{◌≡◌, refl, sym, ap, ◌∙◌, subst}
use mathlib.Core.Bool.{true}
use mathlib.Core.List.{List}
use Prim.Native.Nat.{ℕ, ◌+◌, ◌-◌, ◌<◌}
use native.Mathlib.Omega.{arith}
use lib.ListN.{length, get_or}
use Rattle.paper.specs.declared.NodeNo.{NodeNo}
use Rattle.paper.specs.declared.Node.{Node}
use Rattle.paper.specs.declared.Node.TheVariants.{And, Or, Not, Formerly, Previous, Since, Exists, Comparison, Predicate, Refine, Tp, Call, SigilRef, Var, Wildcard, Literal, ScopeField, ContextField, ParamRef, BinderRef, Array, Arith, Sum, Count, AggregateCall, ListEnd, ArgumentCell, ItemCell, BinderCell}
use Rattle.paper.specs.Record.{Sort, condition, node_no}
use Rattle.paper.specs.Tree.{Tree, planted, trees}
use Rattle.paper.specs.Shape.{references, names_in}
use Rattle.paper.proofs.Walks.{All, all_map, all_both}
use Rattle.paper.proofs.Weights.{of_sort}
use Rattle.paper.proofs.Forests.{tree_step, tree_same}
use Rattle.paper.proofs.WellFormed.{WellFormed}
use Rattle.record.specs.Stored.{held, Has}
use Rattle.trees.specs.Trees.{tree_of, is_condition}
use Rattle.trees.proofs.Sorts.{a_body}

-- a node's tree depends on the trees of its references alone
planted_same : (t u : ℕ → Tree) (n : NodeNo) (m : Node) → All (λ p. t p.1 ≡ u p.1) (references m) → planted t n m ≡ planted u n m
unfolding planted
planted_same t u n (And l r) e = rw (e.0, e.1.0)
planted_same t u n (Or l r) e = rw (e.0, e.1.0)
planted_same t u n (Not b) e = rw e.0
planted_same t u n (Formerly b w) e = rw e.0
planted_same t u n (Previous b w) e = rw e.0
planted_same t u n (Since l r w) e = rw (e.0, e.1.0)
planted_same t u n (Exists s y b) e = rw e.0
planted_same t u n (Comparison o l r) e = rw (e.0, e.1.0)
planted_same t u n (Predicate a l) e = rw e.0
planted_same t u n (Refine b l) e = rw (e.0, e.1.0)
planted_same t u n (Tp s) e = refl
planted_same t u n (Call y) e = refl
planted_same t u n (SigilRef y) e = refl
planted_same t u n (Var x) e = refl
planted_same t u n Wildcard e = refl
planted_same t u n (Literal y) e = refl
planted_same t u n (ScopeField y) e = refl
planted_same t u n (ContextField y) e = refl
planted_same t u n (ParamRef k) e = refl
planted_same t u n (BinderRef k) e = refl
planted_same t u n (Array l) e = rw e.0
planted_same t u n (Arith o l r) e = rw (e.0, e.1.0)
planted_same t u n (Sum s l b) e = rw (e.0, e.1.0)
planted_same t u n (Count l b) e = rw (e.0, e.1.0)
planted_same t u n (AggregateCall y) e = refl
planted_same t u n ListEnd e = refl
planted_same t u n (ArgumentCell f x l) e = rw (e.0, e.1.0)
planted_same t u n (ItemCell x l) e = rw (e.0, e.1.0)
planted_same t u n (BinderCell s y l) e = rw e.0

-- what a walk knows of a node that node i refers to, at a place of a sort
pub record Child (columns : List ℕ) (i : ℕ) (s : Sort) (k : ℕ) : Type 0 where
  pub falls : k < i
  pub has : Has columns k
  pub fits : of_sort s (tree_of columns k) ≡ true

-- what it knows where node i is m
pub record Arm (columns : List ℕ) (i : ℕ) (m : Node) : Type 0 where
  pub children : All (λ q. Child columns i q.0 q.1) (references m)
  pub tabled : All (λ x. x < 128) (names_in m)
  pub tree : tree_of columns i ≡ planted (tree_of columns) (node_no i) m

module _ (columns : List ℕ) (i : ℕ) (g m : Node) (h : Has columns i) (e : g ≡ get_or (held columns) i ListEnd) (p : g ≡ m) where
  here : get_or (held columns) i ListEnd ≡ m
  here = sym e ∙ p

  abbrev f : WellFormed (record { names = h.0.names; nodes = held columns })
  f = h.0.formed

  below : All (λ q. q.1 < i) (references m)
  below = subst (λ (z : Node). All (λ q. q.1 < i) (references z)) here (f.sound i h.1).below

  fitting : All (λ q. of_sort q.0 (tree_of columns q.1) ≡ true) (references m)
  fitting = subst (λ (z : Node). All (λ q. of_sort q.0 (tree_of columns q.1) ≡ true) (references z)) here (f.sound i h.1).sorts

  pub arm : Arm columns i m
  arm =
      let few = f.few_names in
      let within = h.1 in
      record {
        children =
            all_both (λ q. q.1 < i) (λ q. of_sort q.0 (tree_of columns q.1) ≡ true) (λ q. Child columns i q.0 q.1)
            (λ q l z. record { falls = l; has = (h.0, let z : q.1 < length (held columns) = omega arith in z); fits = z }) (references m) below fitting;
        tabled =
            all_map (λ x (l : x < length h.0.names). let z : x < 128 = omega arith in z) (names_in m)
            (subst (λ (z : Node). All (λ x. x < length h.0.names) (names_in z)) here (f.sound i h.1).known);
        tree =
            tree_step (held columns) i ∙ ap (planted (trees (held columns) i) (node_no i)) here
            ∙ planted_same (trees (held columns) i) (tree_of columns) (node_no i) m
            (all_map (λ q (l : q.1 < i). tree_same (held columns) i q.1 l) (references m) below);
      }

-- what a call on a child asks for, where the caller's node is t
pub down : {columns : List ℕ} {i : ℕ} {s : Sort} {k t : ℕ} → Child columns i s k → i ≡ t → (k < t) × Has columns k
down c e = let f = c.falls in (omega arith, c.has)

-- the last node is a condition
pub last_body : {columns : List ℕ} {i : ℕ} → Has columns i → length (held columns) ≡ i + 1 → is_condition (tree_of columns i) ≡ true
last_body {columns} {i = i} h e =
    let f = h.0.formed in
    a_body (tree_of columns i) (ap (λ (k : ℕ). of_sort condition (tree_of columns k)) (let z : i ≡ length (held columns) - 1 = omega arith in z) ∙ f.rooted)
