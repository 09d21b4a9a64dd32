-- What `condition_has_arith` and `term_has_arith` find at a node. Assumes nothing.
use mathlib.Core.Path.{◌≡◌, refl, sym, ap, ◌∙◌, subst}
use mathlib.Core.Bool.{Bool, true, false, ◌||◌}
use mathlib.Core.List.{List, [], ◌∷◌}
use Prim.Native.Nat.{ℕ}
use types.Run.{OneOf, miss}
use denote.Enum.Declared.{tag_of}
use Rattle.paper.specs.declared.NodeNo.{NodeNo}
use Rattle.paper.specs.declared.Node.{Node}
use Rattle.paper.specs.declared.Node.TheVariants as node
use Rattle.paper.specs.Record.{node_no}
use Rattle.paper.specs.Tree.{Tree, as_condition, as_term, planted}
use Rattle.paper.specs.Demands.{has_arith, operand_arith}
use Rattle.trees.specs.Trees.{tree_of, condition_of, term_of}
use Rattle.trees.proofs.Arms.{Arm}
use Rattle.trees.proofs.Shapes.{Aggregate, sum, count}
use Rattle.trees.proofs.ByKind.{term_cases}
use Rattle.views.specs.declared.Below.{Below}
use Rattle.views.specs.declared.Below.TheVariants.{Nothing, Condition, Conditions, Operands}
use Rattle.views.specs.declared.Operand.{Operand}
use Rattle.views.specs.Entered.{entered_below}
use Rattle.views.specs.Seen.{seen_operand}
use Rattle.views.specs.contracts.Operand.{the_type}
use Rattle.views.proofs.EnteredLaws.{entered_cases}

-- where the walk goes on below a condition: whether it finds arithmetic there
abbrev pub goes_on : List ℕ → Below → Bool
goes_on columns Nothing = false
goes_on columns (Condition b) = has_arith (condition_of columns b.0)
goes_on columns (Conditions l r) = has_arith (condition_of columns l.0) || has_arith (condition_of columns r.0)
goes_on columns (Operands l r) = operand_arith (term_of columns l.0) || operand_arith (term_of columns r.0)

by_kind : (columns : List ℕ) (n : NodeNo) (m : Node) → has_arith (as_condition (planted (tree_of columns) n m)) ≡ goes_on columns (entered_below m)
unfolding has_arith
by_kind columns n =
    entered_cases (tree_of columns) n (λ s c. has_arith c ≡ goes_on columns s)
    (λ l r. refl) (λ l r. refl) (λ b. refl) (λ k b w. refl) (λ l r w. refl) (λ s y b. refl) (λ o l r. refl) (λ a l. refl) (λ b l. refl) (λ s. refl) (λ k y. refl)
    refl

module _ {columns : List ℕ} {i : ℕ} where
  pub arith_entered : {m : Node} {s : Below} → Arm columns i m → s ≡ entered_below m → has_arith (condition_of columns i) ≡ goes_on columns s
  arith_entered a e = ap (λ (t : Tree). has_arith (as_condition t)) a.tree ∙ by_kind columns _ _ ∙ ap (goes_on columns) (sym e)

  in_operand : {m : Node} → Arm columns i m → operand_arith (term_of columns i) ≡ operand_arith (as_term (planted (tree_of columns) (node_no i) m))
  in_operand a = ap (λ (t : Tree). operand_arith (as_term t)) a.tree

  pub arith_here : {o : ℕ} {l r : NodeNo} → Arm columns i (node.Arith o l r) → operand_arith (term_of columns i) ≡ true
  unfolding planted as_term has_arith
  arith_here a = in_operand a

  pub arith_aggregate : {l b : NodeNo} {m : Node} → Aggregate l b m → Arm columns i m → operand_arith (term_of columns i) ≡ has_arith (condition_of columns b.0)
  unfolding planted as_term has_arith
  arith_aggregate sum a = in_operand a
  arith_aggregate count a = in_operand a

-- ---- the other kinds

-- neither arithmetic nor an aggregate with a body
abbrev no_arith_kinds : List ℕ
no_arith_kinds = 0 ∷ 1 ∷ []

no_arith : (t : ℕ → Tree) (n : NodeNo) (m : Node) → OneOf no_arith_kinds (tag_of the_type (seen_operand m)) → operand_arith (as_term (planted t n m)) ≡ false
unfolding has_arith seen_operand
no_arith t n =
    term_cases t n (λ m z. OneOf no_arith_kinds (tag_of the_type (seen_operand m)) → operand_arith z ≡ false)
    (λ x h. refl) (λ h. refl) (λ y h. refl) (λ y h. refl) (λ y h. refl) (λ k h. refl) (λ k h. refl) (λ l h. refl)
    (λ o l r h. absurd (miss no_arith_kinds 2 tt h)) (λ s l b h. absurd (miss no_arith_kinds 3 tt h))
    (λ l b h. absurd (miss no_arith_kinds 3 tt h)) (λ y h. refl) (λ m e h. refl)

pub arith_none : {columns : List ℕ} {i : ℕ} {m : Node} {s : Operand} → s ≡ seen_operand m → Arm columns i m → OneOf no_arith_kinds (tag_of the_type s)
    → operand_arith (term_of columns i) ≡ false
arith_none e a h = in_operand a ∙ no_arith _ _ _ (subst (λ (s : Operand). OneOf no_arith_kinds (tag_of the_type s)) e h)
