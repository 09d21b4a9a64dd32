-- Nodes of several kinds that a walk meets in one arm, and what holds of the references of such a node. Assumes nothing.
use mathlib.Core.Path.{◌≡◌, sym, ap₂, ◌∙◌, subst}
use mathlib.Core.List.{List}
use Prim.Native.Nat.{ℕ}
use Rattle.paper.specs.declared.NodeNo.{NodeNo}
use Rattle.paper.specs.declared.Slot.{Slot}
use Rattle.paper.specs.declared.Node.{Node}
use Rattle.paper.specs.declared.Node.TheVariants as node
use Rattle.paper.specs.Record.{Sort, condition, term, arguments, items, binders}
use Rattle.trees.proofs.Arms.{Child, Arm}

-- an aggregate's binders and body
pub data Aggregate (l b : NodeNo) : Node → Type 0 where
  sum : {s : Slot} → Aggregate l b (node.Sum s l b)
  count : Aggregate l b (node.Count l b)

-- a term and what follows it, a term or more of a list
pub data Terms (l r : NodeNo) : Node → Type 0 where
  arith : {o : ℕ} → Terms l r (node.Arith o l r)
  argument : {f : ℕ} → Terms l r (node.ArgumentCell f l r)
  item : Terms l r (node.ItemCell l r)

-- a cell of arguments or of items, with the rest of the list
pub data Row (l r : NodeNo) : Node → Type 0 where
  argument : {f : ℕ} → Row l r (node.ArgumentCell f l r)
  item : Row l r (node.ItemCell l r)

pub row_terms : {l r : NodeNo} {m : Node} → Row l r m → Terms l r m
row_terms argument = Terms.argument
row_terms item = Terms.item

-- the sort of what follows a term
unfoldable pub rest_sort : {l r : NodeNo} {m : Node} → Terms l r m → Sort
rest_sort arith = term
rest_sort argument = arguments
rest_sort item = items

module _ {columns : List ℕ} {i : ℕ} where
  pub of_aggregate : {l b : NodeNo} {m : Node} → Aggregate l b m → Arm columns i m → Child columns i binders l.0 × Child columns i condition b.0
  of_aggregate sum a = (a.children.0, a.children.1.0)
  of_aggregate count a = (a.children.0, a.children.1.0)

  pub of_terms : {l r : NodeNo} {m : Node} (s : Terms l r m) → Arm columns i m → Child columns i term l.0 × Child columns i (rest_sort s) r.0
  unfolding rest_sort
  of_terms arith a = (a.children.0, a.children.1.0)
  of_terms argument a = (a.children.0, a.children.1.0)
  of_terms item a = (a.children.0, a.children.1.0)

-- ---- where the ways of an arm meet, its variables are equal to the fields of the node

pub met₂ : (F : NodeNo → NodeNo → Node → Type 0) (f : NodeNo → NodeNo → Node) → ((l r : NodeNo) → F l r (f l r)) → {g : Node} {x y l r : NodeNo} → g ≡ f x y → l ≡ x
    → r ≡ y → F l r g
met₂ F f s {l = l} {r = r} e p q = subst (F l r) (sym (e ∙ ap₂ f (sym p) (sym q))) (s l r)
