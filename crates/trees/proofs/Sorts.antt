-- What is said of the terms of a tree (`in_terms`) is what is said of it at a place of its sort, and what fits a place is a condition or a term. Assumes nothing.
use mathlib.Core.Path.{◌≡◌, refl, sym}
use mathlib.Core.Bool.{true, true≢false}
use Rattle.paper.specs.declared.NodeNo.{NodeNo}
use Rattle.paper.specs.Record.{condition, term, arguments, items}
use Rattle.paper.specs.Tree as tree
use Rattle.paper.specs.Tree.{Term, Arguments, Items, Tree, a_condition, an_end, as_term, as_arguments, as_items}
use Rattle.paper.specs.Tree.Arguments.{no_argument}
use Rattle.paper.specs.Tree.Items.{no_item}
use Rattle.paper.proofs.Weights.{of_sort}
use Rattle.trees.specs.Trees.{in_terms, is_condition, is_term}

module _ {A : Type 0} (f : Term → A) (g : Arguments → A) (h : Items → A) (v : A) where
  pub at_term : (t : Tree) → of_sort term t ≡ true → in_terms f g h v t ≡ f (as_term t)
  unfolding of_sort in_terms as_term
  at_term (a_condition c) e = absurd (true≢false (sym e))
  at_term (tree.a_term t) e = refl
  at_term (tree.arguments l) e = absurd (true≢false (sym e))
  at_term (tree.items l) e = absurd (true≢false (sym e))
  at_term (tree.binders l) e = absurd (true≢false (sym e))
  at_term (an_end n) e = absurd (true≢false (sym e))

  pub at_arguments : ((n : NodeNo) → g (no_argument n) ≡ v) → (t : Tree) → of_sort arguments t ≡ true → in_terms f g h v t ≡ g (as_arguments t)
  unfolding of_sort in_terms as_arguments
  at_arguments end (a_condition c) e = absurd (true≢false (sym e))
  at_arguments end (tree.a_term t) e = absurd (true≢false (sym e))
  at_arguments end (tree.arguments l) e = refl
  at_arguments end (tree.items l) e = absurd (true≢false (sym e))
  at_arguments end (tree.binders l) e = absurd (true≢false (sym e))
  at_arguments end (an_end n) e = sym (end n)

  pub at_items : ((n : NodeNo) → h (no_item n) ≡ v) → (t : Tree) → of_sort items t ≡ true → in_terms f g h v t ≡ h (as_items t)
  unfolding of_sort in_terms as_items
  at_items end (a_condition c) e = absurd (true≢false (sym e))
  at_items end (tree.a_term t) e = absurd (true≢false (sym e))
  at_items end (tree.arguments l) e = absurd (true≢false (sym e))
  at_items end (tree.items l) e = refl
  at_items end (tree.binders l) e = absurd (true≢false (sym e))
  at_items end (an_end n) e = sym (end n)

-- ---- a condition, or a term

pub a_body : (t : Tree) → of_sort condition t ≡ true → is_condition t ≡ true
unfolding of_sort is_condition
a_body (a_condition c) e = refl
a_body (tree.a_term t) e = e
a_body (tree.arguments l) e = e
a_body (tree.items l) e = e
a_body (tree.binders l) e = e
a_body (an_end n) e = e

pub a_term : (t : Tree) → of_sort term t ≡ true → is_term t ≡ true
unfolding of_sort is_term
a_term (a_condition c) e = e
a_term (tree.a_term t) e = refl
a_term (tree.arguments l) e = e
a_term (tree.items l) e = e
a_term (tree.binders l) e = e
a_term (an_end n) e = e
