-- Where a record has no such node, and what a node answers that is asked what it ties. Assumes nothing.
use mathlib.Core.Path.{◌≡◌, refl, sym, ap, ◌∙◌, subst}
use mathlib.Core.Bool.{Bool}
use mathlib.Core.List.{List, [], ◌∷◌}
use Prim.Native.Nat.{ℕ, ◌≤◌}
use Rattle.std.specs.Prelude.{Some, None, Ok, Err}
use native.Mathlib.Omega.{arith}
use lib.ListN.{length, get_or, get_or-eq_default}
use borrow.Author.Tests.{eq-eqb, ne_eqb}
use types.Run.{OneOf, miss}
use denote.Enum.Declared.{tag_of}
use Rattle.paper.specs.declared.NodeNo.{NodeNo}
use Rattle.paper.specs.declared.Node.{Node}
use Rattle.paper.specs.declared.Node.TheVariants as node
use Rattle.paper.specs.declared.Equality.{Equality as Tie}
use Rattle.paper.specs.declared.Refusal.{Refusal}
use Rattle.paper.specs.TurnedAway.{Outcome, counts, verdict, read}
use Rattle.paper.specs.Record.{pick, node_no}
use Rattle.paper.specs.Tree.{Tree, as_condition, planted, trees, tree_at}
use Rattle.paper.specs.FreeAndRestricted.{equality}
use Rattle.paper.proofs.Forests.{tree_step}
use Rattle.record.specs.Stored.{contents_of, contents}
use Rattle.record.proofs.Verdicts.{refused_is, counts_are}
use Rattle.trees.specs.Trees.{tree_of, condition_of, term_of}
use Rattle.trees.proofs.Arms.{Arm}
use Rattle.trees.proofs.ByKind.{condition_cases}
use Rattle.views.specs.declared.Owing.{Owing}
use Rattle.views.specs.Seen.{seen_owing}
use Rattle.views.specs.contracts.Owing.{the_type as owing_type}
use Rattle.lookup.specs.Found.{asked}

-- ---- no such node

pub none_read : (bytes : List ℕ) (i : ℕ) {f : Refusal} → verdict (read bytes) ≡ Err f → length (contents bytes).nodes ≤ i
unfolding contents_of
none_read bytes i e = let none = ap (λ (r : Outcome). length (contents_of r).nodes) (refused_is bytes e) in omega arith

pub past_the_last : (bytes : List ℕ) (i : ℕ) {n k : ℕ} → verdict (read bytes) ≡ Ok (counts n k) → k ≤ i → length (contents bytes).nodes ≤ i
past_the_last bytes i e h = let count = (counts_are bytes e).nodes_are in omega arith

module _ (nodes : List Node) (i : ℕ) (h : length nodes ≤ i) where
  pub no_node : node.ListEnd ≡ get_or nodes i node.ListEnd
  no_node = sym (get_or-eq_default nodes node.ListEnd {n = i} h)

  pub no_equality : None ≡ asked (as_condition (tree_at nodes i))
  unfolding planted as_condition asked
  no_equality = sym (ap (λ (t : Tree). asked (as_condition t)) (tree_step nodes i ∙ ap (planted (trees nodes i) (node_no i)) (sym no_node)))

-- ---- what a node answers

-- all but a comparison
abbrev other_kinds : List ℕ
other_kinds = 0 ∷ 1 ∷ 2 ∷ 3 ∷ 4 ∷ 6 ∷ []

unasked : (t : ℕ → Tree) (n : NodeNo) (m : Node) → OneOf other_kinds (tag_of owing_type (seen_owing m)) → asked (as_condition (planted t n m)) ≡ None
unfolding asked seen_owing
unasked t n =
    condition_cases t n (λ m z. OneOf other_kinds (tag_of owing_type (seen_owing m)) → asked z ≡ None)
    (λ l r h. refl) (λ l r h. refl) (λ b h. refl) (λ b w h. refl) (λ b w h. refl) (λ l r w h. refl) (λ s y b h. refl)
    (λ o l r h. absurd (miss other_kinds 5 tt h)) (λ a l h. refl) (λ b l h. refl) (λ s h. refl) (λ y h. refl) (λ y h. refl) (λ m e h. refl)

module _ {columns : List ℕ} {i : ℕ} where
  in_asked : {m : Node} → Arm columns i m → asked (condition_of columns i) ≡ asked (as_condition (planted (tree_of columns) (node_no i) m))
  in_asked a = ap (λ (t : Tree). asked (as_condition t)) a.tree

  pub asked_other : {m : Node} {s : Owing} → s ≡ seen_owing m → Arm columns i m → OneOf other_kinds (tag_of owing_type s) → None ≡ asked (condition_of columns i)
  asked_other e a h = sym (in_asked a ∙ unasked _ _ _ (subst (λ (s : Owing). OneOf other_kinds (tag_of owing_type s)) e h))

  module _ {o : ℕ} {l r : NodeNo} (a : Arm columns i (node.Comparison o l r)) where
    pub asked_equality : o ≡ 0 → {e : Tie} → e ≡ equality (term_of columns l.0) (term_of columns r.0) → Some e ≡ asked (condition_of columns i)
    unfolding planted as_condition asked
    asked_equality h e = ap Some e ∙ sym (in_asked a ∙ ap (λ (b : Bool). pick b (Some (equality (term_of columns l.0) (term_of columns r.0))) None) (eq-eqb o 0 h))

    pub asked_compared : (o ≡ 0 → ⊥) → None ≡ asked (condition_of columns i)
    unfolding planted as_condition asked
    asked_compared h = sym (in_asked a ∙ ap (λ (b : Bool). pick b (Some (equality (term_of columns l.0) (term_of columns r.0))) None) (ne_eqb o 0 h))
