-- What `check_itself` finds at a node, and what `scope_first` says of it. Assumes nothing.
use mathlib.Core.Path.{◌≡◌, refl, sym, ap, ◌∙◌, subst}
use mathlib.Core.List.{List, [], ◌∷◌, ◌++◌, append-nil}
use Prim.Native.Nat.{ℕ}
use types.Run.{OneOf, miss}
use denote.Enum.Declared.{tag_of}
use Rattle.paper.specs.declared.NodeNo.{NodeNo}
use Rattle.paper.specs.declared.Finding.{Finding}
use Rattle.paper.specs.declared.Slot.{Slot}
use Rattle.paper.specs.declared.Node.{Node}
use Rattle.paper.specs.declared.Node.TheVariants as node
use Rattle.paper.specs.Record.{pick, node_no}
use Rattle.paper.specs.Sets.{Set, none, ◌∪◌, ◌∩◌, ◌∖◌}
use Rattle.paper.specs.Tree.{Tree, as_condition, planted}
use Rattle.paper.specs.FreeAndRestricted.{named, restricted, holds_sigil}
use Rattle.paper.specs.Places.{for_names, gather, findings}
use Rattle.paper.specs.Scoping.{scope_below, scope_broken}
use Rattle.trees.specs.Trees.{tree_of, condition_of}
use Rattle.trees.proofs.Arms.{Arm}
use Rattle.trees.proofs.Sorts.{at_arguments}
use Rattle.trees.proofs.ByKind.{condition_cases}
use Rattle.views.specs.contracts.Itself.{the_type}
use Rattle.views.specs.declared.Itself.{Itself}
use Rattle.views.specs.declared.Itself.TheVariants.{Other}
use Rattle.views.specs.Seen.{seen_itself}
use Rattle.places.specs.Nested.{nested, nested_arguments, nested_items, nested_in}
use Rattle.places.specs.Itself.{in_arguments, at_itself, scope_first}
use Rattle.places.proofs.NestedLaws.{no_argument_nested}

-- neither an exists nor a predicate nor a tp
abbrev silent : List ℕ
silent = 0 ∷ []

none_here : (words : Set) (t : ℕ → Tree) (n : NodeNo) (m : Node) → OneOf silent (tag_of the_type (seen_itself m)) → at_itself words (as_condition (planted t n m)) ≡ []
unfolding at_itself in_arguments scope_broken gather seen_itself
none_here words t n =
    condition_cases t n (λ m z. OneOf silent (tag_of the_type (seen_itself m)) → at_itself words z ≡ [])
    (λ l r h. refl) (λ l r h. refl) (λ b h. refl) (λ b w h. refl) (λ b w h. refl) (λ l r w h. refl) (λ s y b h. absurd (miss silent 1 tt h)) (λ o l r h. refl)
    (λ a l h. absurd (miss silent 2 tt h)) (λ b l h. refl) (λ s h. absurd (miss silent 3 tt h)) (λ y h. refl) (λ y h. refl)
    (λ m e h. no_argument_nested _)

module _ (words : Set) {columns : List ℕ} {i : ℕ} where
  in_itself : {m : Node} → Arm columns i m → at_itself words (condition_of columns i) ≡ at_itself words (as_condition (planted (tree_of columns) (node_no i) m))
  in_itself a = ap (λ (t : Tree). at_itself words (as_condition t)) a.tree

  pub itself_exists : {s : Slot} {y : ℕ} {b : NodeNo} → Arm columns i (node.Exists s y b)
      → at_itself words (condition_of columns i)
      ≡ findings (for_names 22 (node_no i) (named s ∩ words))
      ++ findings (for_names 23 (node_no i) (pick (holds_sigil (condition_of columns b.0)) none (named s ∖ restricted (condition_of columns b.0))))
  unfolding planted as_condition at_itself in_arguments scope_broken gather
  itself_exists {s = s} a = in_itself a ∙ append-nil _ ∙ ap (λ (z : List Finding). findings (for_names 22 (node_no i) (named s ∩ words)) ++ z) (append-nil _)

  pub itself_predicate : {q : ℕ} {l : NodeNo} → Arm columns i (node.Predicate q l) → at_itself words (condition_of columns i) ≡ nested_in (tree_of columns l.0)
  unfolding planted as_condition at_itself in_arguments scope_broken gather
  itself_predicate a = in_itself a ∙ sym (at_arguments nested nested_arguments nested_items [] no_argument_nested _ a.children.0.fits)

  pub itself_tp : {s : Slot} → Arm columns i (node.Tp s) → at_itself words (condition_of columns i) ≡ findings (for_names 22 (node_no i) (named s ∩ words))
  unfolding planted as_condition at_itself in_arguments scope_broken gather
  itself_tp a = in_itself a ∙ append-nil _ ∙ append-nil _

  pub itself_none : {m : Node} → Other ≡ seen_itself m → Arm columns i m → at_itself words (condition_of columns i) ≡ []
  itself_none e a = in_itself a ∙ none_here words _ _ _ (ap (tag_of the_type) (sym e))

-- ---- what is in scope below

-- all but an exists
abbrev unbound : List ℕ
unbound = 0 ∷ 2 ∷ 3 ∷ []

same_scope : (scope : Set) (t : ℕ → Tree) (n : NodeNo) (m : Node) → OneOf unbound (tag_of the_type (seen_itself m)) → scope_first (as_condition (planted t n m)) scope ≡ scope
unfolding scope_first scope_below seen_itself
same_scope scope t n =
    condition_cases t n (λ m z. OneOf unbound (tag_of the_type (seen_itself m)) → scope_first z scope ≡ scope)
    (λ l r h. refl) (λ l r h. refl) (λ b h. refl) (λ b w h. refl) (λ b w h. refl) (λ l r w h. refl) (λ s y b h. absurd (miss unbound 1 tt h))
    (λ o l r h. refl) (λ a l h. refl) (λ b l h. refl) (λ s h. refl) (λ y h. refl) (λ y h. refl) (λ m e h. refl)

module _ (scope : Set) {columns : List ℕ} {i : ℕ} where
  in_scope : {m : Node} → Arm columns i m → scope_first (condition_of columns i) scope ≡ scope_first (as_condition (planted (tree_of columns) (node_no i) m)) scope
  in_scope a = ap (λ (t : Tree). scope_first (as_condition t) scope) a.tree

  pub first_exists : {inner : Set} {s : Slot} {y : ℕ} {b : NodeNo} → Arm columns i (node.Exists s y b) → inner ≡ scope ∪ named s
      → inner ≡ scope_first (condition_of columns i) scope
  unfolding planted as_condition scope_first scope_below
  first_exists a f = f ∙ sym (in_scope a)

  pub first_same : {m : Node} {s : Itself} → s ≡ seen_itself m → Arm columns i m → OneOf unbound (tag_of the_type s) → scope ≡ scope_first (condition_of columns i) scope
  first_same e a h = sym (in_scope a ∙ same_scope scope _ _ _ (subst (λ (s : Itself). OneOf unbound (tag_of the_type s)) e h))
