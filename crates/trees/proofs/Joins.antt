-- A walk that joins what it finds in the parts of a term: what it finds at a node, from what it finds at the nodes below. Each law is over the walk and the
-- operation that joins. Assumes nothing.
use mathlib.Core.Path.{◌≡◌, sym, ap, ap₂, ◌∙◌}
use mathlib.Core.Bool.{Bool, true, false, ◌||◌}
use mathlib.Core.List.{List}
use Prim.Native.Nat.{ℕ}
use Rattle.paper.specs.declared.NodeNo.{NodeNo}
use Rattle.paper.specs.declared.Node.{Node}
use Rattle.paper.specs.declared.Node.TheVariants as node
use Rattle.paper.specs.Tree.{Term, Arguments, Items, Tree, planted}
use Rattle.paper.specs.Tree.Term.{Array, Arith}
use Rattle.paper.specs.Tree.Arguments.{no_argument, argument}
use Rattle.paper.specs.Tree.Items.{no_item, item}
use Rattle.trees.specs.Trees.{tree_of, in_terms}
use Rattle.trees.proofs.Arms.{Arm}
use Rattle.trees.proofs.Sorts.{at_term, at_arguments, at_items}
use Rattle.trees.proofs.Shapes as shape
use Rattle.trees.proofs.Shapes.{Terms}

pub record JoinsTerms {A : Type 0} (f : Term → A) (g : Arguments → A) (h : Items → A) (v : A) (op : A → A → A) : Type 0 where
  pub array : (n : NodeNo) (l : Items) → f (Array n l) ≡ h l
  pub arith : (n : NodeNo) (o : ℕ) (l r : Term) → f (Arith n o l r) ≡ op (f l) (f r)
  pub argument : (n : NodeNo) (k : ℕ) (t : Term) (l : Arguments) → g (argument n k t l) ≡ op (f t) (g l)
  pub item : (n : NodeNo) (t : Term) (l : Items) → h (item n t l) ≡ op (f t) (h l)
  pub no_argument : (n : NodeNo) → g (no_argument n) ≡ v
  pub no_item : (n : NodeNo) → h (no_item n) ≡ v

module _ {A : Type 0} {f : Term → A} {g : Arguments → A} {h : Items → A} {v : A} {op : A → A → A} (j : JoinsTerms f g h v op) where
  abbrev within : Tree → A
  within t = in_terms f g h v t

  pub array_law : {columns : List ℕ} {i : ℕ} {l : NodeNo} → Arm columns i (node.Array l) → within (tree_of columns i) ≡ within (tree_of columns l.0)
  unfolding planted in_terms
  array_law a = ap within a.tree ∙ j.array _ _ ∙ sym (at_items f g h v j.no_item _ a.children.0.fits)

  pub terms_law : {columns : List ℕ} {i : ℕ} {l r : NodeNo} {m : Node} → Terms l r m → Arm columns i m
      → within (tree_of columns i) ≡ op (within (tree_of columns l.0)) (within (tree_of columns r.0))
  unfolding planted in_terms
  terms_law shape.arith a =
      ap within a.tree ∙ j.arith _ _ _ _
      ∙ ap₂ op (sym (at_term f g h v _ a.children.0.fits)) (sym (at_term f g h v _ a.children.1.0.fits))
  terms_law shape.argument a =
      ap within a.tree ∙ j.argument _ _ _ _
      ∙ ap₂ op (sym (at_term f g h v _ a.children.0.fits)) (sym (at_arguments f g h v j.no_argument _ a.children.1.0.fits))
  terms_law shape.item a =
      ap within a.tree ∙ j.item _ _ _
      ∙ ap₂ op (sym (at_term f g h v _ a.children.0.fits)) (sym (at_items f g h v j.no_item _ a.children.1.0.fits))

-- ---- `a || b` in code: b is looked at only where a is false

pub or_taken : {a x whole : Bool} (y : Bool) → a ≡ true → a ≡ x → whole ≡ (x || y) → a ≡ whole
or_taken y e p q = e ∙ sym (q ∙ ap (λ (z : Bool). z || y) (sym p ∙ e))

pub or_else : {a b x y whole : Bool} → a ≡ false → a ≡ x → b ≡ y → whole ≡ (x || y) → b ≡ whole
or_else {y = y} e p r q = r ∙ sym (q ∙ ap (λ (z : Bool). z || y) (sym p ∙ e))
