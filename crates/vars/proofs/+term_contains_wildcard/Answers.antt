-- `term_contains_wildcard` finds a wildcard where the definitions do.
use Rattle.std.proofs.Common.{refl, sym, ap, ◌∙◌, ◌≡◌, ◌⊎◌, ℕ}
use mathlib.Core.Logic.{⊎_elim}
use borrow.Enum.Refused.{opened}
use Rattle.paper.specs.declared.NodeNo.{NodeNo}
use Rattle.paper.specs.declared.Node.{Node}
use Rattle.paper.specs.declared.Node.TheVariants as node
use Rattle.trees.proofs.Arms.{arm}
use Rattle.trees.proofs.Shapes.{Terms, arith, argument, item, met₂}
use Rattle.trees.proofs.Joins.{terms_law, array_law, or_taken, or_else}
use Rattle.trees.specs.Terms.{wildcard_in}
use Rattle.vars.proofs.EqualityLaws.{wildcard_terms, wildcard_here, no_wildcard}
use Rattle.vars.proofs.+term_contains_wildcard.Goals as goal

-- which of the three the node is
terms : {m : Node} {l r : NodeNo} → ((o : ℕ) × (m ≡ node.Arith o l r)) ⊎ (((f : ℕ) × (m ≡ node.ArgumentCell f l r)) ⊎ (m ≡ node.ItemCell l r)) → Terms l r m
terms =
    ⊎_elim (λ w. met₂ Terms (node.Arith w.0) (λ l r. arith) w.1 refl refl)
    (⊎_elim (λ w. met₂ Terms (node.ArgumentCell w.0) (λ l r. argument) w.1 refl refl)
    (λ w. met₂ Terms node.ItemCell (λ l r. item) w refl refl))

pub returns-in-Wildcard : goal.returns-in-Wildcard
returns-in-Wildcard t c = sym (wildcard_here (arm _ _ _ _ c.requires c.node_at-node.ensures c.in-Wildcard.is))

pub returns-in-Array : goal.returns-in-Array
returns-in-Array t c = c.term_contains_wildcard.ensures ∙ sym (array_law wildcard_terms (arm _ _ _ _ c.requires c.node_at-node.ensures c.in-Array.is))

pub returns-in_default : goal.returns-in_default
returns-in_default t c =
    sym (ap wildcard_in (arm _ _ _ _ c.requires c.node_at-node.ensures refl).tree ∙ no_wildcard _ _ _ (opened c.in_default.in_default-own.keys6))

pub returns-then-term_contains_wildcard : goal.returns-then-term_contains_wildcard
returns-then-term_contains_wildcard t c =
    or_taken _ c.if-term_contains_wildcard.true c.term_contains_wildcard-in-Arith.ensures
    (terms_law wildcard_terms (terms c.in-Arith.is) (arm _ _ _ _ c.requires c.node_at-node.ensures refl))

pub returns-else-term_contains_wildcard : goal.returns-else-term_contains_wildcard
returns-else-term_contains_wildcard t c =
    or_else c.if-term_contains_wildcard.false c.term_contains_wildcard-in-Arith.ensures c.term_contains_wildcard-else-term_contains_wildcard.ensures
    (terms_law wildcard_terms (terms c.in-Arith.is) (arm _ _ _ _ c.requires c.node_at-node.ensures refl))
