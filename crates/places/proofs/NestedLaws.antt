-- What `reject_nested_agg` finds at a node. Assumes nothing.
use mathlib.Core.Path.{◌≡◌, refl, sym, ap, ap₂, ◌∙◌}
use mathlib.Core.List.{List, [], ◌∷◌, ◌++◌}
use Prim.Native.Nat.{ℕ}
use types.Run.{OneOf, miss}
use denote.Enum.Declared.{tag_of}
use Rattle.paper.specs.contracts.Node.{the_type}
use Rattle.paper.specs.declared.NodeNo.{NodeNo}
use Rattle.paper.specs.declared.Finding.{Finding}
use Rattle.paper.specs.declared.Node.{Node}
use Rattle.paper.specs.declared.Node.TheVariants as node
use Rattle.paper.specs.Record.{node_no}
use Rattle.paper.specs.Tree.{Tree, planted}
use Rattle.paper.specs.Tree.Arguments.{no_argument}
use Rattle.paper.specs.Tree.Items.{no_item}
use Rattle.paper.specs.Places.{itself, findings}
use Rattle.trees.specs.Trees.{tree_of, in_terms}
use Rattle.trees.proofs.Arms.{Arm}
use Rattle.trees.proofs.Sorts.{at_term, at_arguments, at_items}
use Rattle.trees.proofs.Shapes.{Row}
use Rattle.trees.proofs.Shapes.Row.{argument, item}
use Rattle.trees.proofs.ByKind.{kinds_in_terms, no_other, in_terms_cases}
use Rattle.places.specs.Nested.{nested, nested_arguments, nested_items, nested_in}

pub no_argument_nested : (n : NodeNo) → nested_arguments (no_argument n) ≡ []
unfolding nested
no_argument_nested n = refl

pub no_item_nested : (n : NodeNo) → nested_items (no_item n) ≡ []
unfolding nested
no_item_nested n = refl

module _ {columns : List ℕ} {i : ℕ} where
  pub in_nested : {m : Node} → Arm columns i m → nested_in (tree_of columns i) ≡ nested_in (planted (tree_of columns) (node_no i) m)
  in_nested a = ap nested_in a.tree

  pub nested_arith : {o : ℕ} {l r : NodeNo} → Arm columns i (node.Arith o l r) → nested_in (tree_of columns i) ≡ findings (itself 21 (node_no i))
  unfolding planted in_terms nested
  nested_arith a = in_nested a

  pub nested_array : {l : NodeNo} → Arm columns i (node.Array l) → nested_in (tree_of columns i) ≡ nested_in (tree_of columns l.0)
  unfolding planted in_terms nested
  nested_array a = in_nested a ∙ sym (at_items nested nested_arguments nested_items [] no_item_nested _ a.children.0.fits)

  pub nested_row : {l r : NodeNo} {m : Node} → Row l r m → Arm columns i m
      → nested_in (tree_of columns i) ≡ nested_in (tree_of columns l.0) ++ nested_in (tree_of columns r.0)
  unfolding planted in_terms nested
  nested_row argument a =
      in_nested a
      ∙ ap₂ {C = List Finding} ◌++◌ (sym (at_term nested nested_arguments nested_items [] _ a.children.0.fits))
      (sym (at_arguments nested nested_arguments nested_items [] no_argument_nested _ a.children.1.0.fits))
  nested_row item a =
      in_nested a
      ∙ ap₂ {C = List Finding} ◌++◌ (sym (at_term nested nested_arguments nested_items [] _ a.children.0.fits))
      (sym (at_items nested nested_arguments nested_items [] no_item_nested _ a.children.1.0.fits))

-- ---- the other kinds

-- Sum, Count and the call of an aggregate
abbrev aggregate_kinds : List ℕ
aggregate_kinds = 22 ∷ 23 ∷ 24 ∷ []

pub nested_aggregate : (t : ℕ → Tree) (n : NodeNo) (m : Node) → OneOf aggregate_kinds (tag_of the_type m) → nested_in (planted t n m) ≡ findings (itself 20 n)
unfolding nested
nested_aggregate t n =
    in_terms_cases nested nested_arguments nested_items [] t n (λ m z. OneOf aggregate_kinds (tag_of the_type m) → z ≡ findings (itself 20 n))
    (λ x h. absurd (miss aggregate_kinds 13 tt h)) (λ h. absurd (miss aggregate_kinds 14 tt h)) (λ y h. absurd (miss aggregate_kinds 15 tt h))
    (λ y h. absurd (miss aggregate_kinds 16 tt h)) (λ y h. absurd (miss aggregate_kinds 17 tt h)) (λ k h. absurd (miss aggregate_kinds 18 tt h))
    (λ k h. absurd (miss aggregate_kinds 19 tt h)) (λ l h. absurd (miss aggregate_kinds 20 tt h)) (λ o l r h. absurd (miss aggregate_kinds 21 tt h))
    (λ s l b h. refl) (λ l b h. refl) (λ y h. refl) (λ f x l h. absurd (miss aggregate_kinds 26 tt h)) (λ x l h. absurd (miss aggregate_kinds 27 tt h))
    (λ m e h. absurd (no_other aggregate_kinds kinds_in_terms _ refl h e))

-- what is neither an aggregate nor arithmetic, nor has terms
abbrev no_nested_kinds : List ℕ
no_nested_kinds = 0 ∷ 1 ∷ 2 ∷ 3 ∷ 4 ∷ 5 ∷ 6 ∷ 7 ∷ 8 ∷ 9 ∷ 10 ∷ 11 ∷ 12 ∷ 13 ∷ 14 ∷ 15 ∷ 16 ∷ 17 ∷ 18 ∷ 19 ∷ 25 ∷ 28 ∷ []

pub no_nested : (t : ℕ → Tree) (n : NodeNo) (m : Node) → OneOf no_nested_kinds (tag_of the_type m) → nested_in (planted t n m) ≡ []
unfolding nested
no_nested t n =
    in_terms_cases nested nested_arguments nested_items [] t n (λ m z. OneOf no_nested_kinds (tag_of the_type m) → z ≡ [])
    (λ x h. refl) (λ h. refl) (λ y h. refl) (λ y h. refl) (λ y h. refl) (λ k h. refl) (λ k h. refl)
    (λ l h. absurd (miss no_nested_kinds 20 tt h)) (λ o l r h. absurd (miss no_nested_kinds 21 tt h)) (λ s l b h. absurd (miss no_nested_kinds 22 tt h))
    (λ l b h. absurd (miss no_nested_kinds 23 tt h)) (λ y h. absurd (miss no_nested_kinds 24 tt h)) (λ f x l h. absurd (miss no_nested_kinds 26 tt h))
    (λ x l h. absurd (miss no_nested_kinds 27 tt h)) (λ m e h. refl)
