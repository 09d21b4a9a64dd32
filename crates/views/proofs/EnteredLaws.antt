-- What lies where a walk goes on below a condition. Assumes nothing.
use mathlib.Core.Path.{◌≡◌, sym, subst}
use mathlib.Core.List.{List}
use Prim.Native.Nat.{ℕ}
use Rattle.paper.specs.declared.NodeNo.{NodeNo}
use Rattle.paper.specs.declared.Slot.{Slot}
use Rattle.paper.specs.declared.Node.{Node}
use Rattle.paper.specs.Record.{condition, term, node_no}
use Rattle.paper.specs.Tree.{Tree, as_condition, as_term, as_arguments, planted}
use Rattle.paper.specs.Tree.{Condition as cond}
use Rattle.paper.specs.Tree.Arguments.{no_argument}
use Rattle.trees.proofs.Arms.{Arm, Child}
use Rattle.trees.proofs.ByKind.{by_kind}
use Rattle.views.specs.declared.Below.{Below}
use Rattle.views.specs.declared.Below.TheVariants.{Nothing, Condition, Conditions, Operands}
use Rattle.views.specs.Entered.{entered_below}

-- a condition with where a walk goes on below it: what is shown for each holds of every planted node
module _ (t : ℕ → Tree) (n : NodeNo) (P : Below → cond → Type 0)
    (and : (l r : NodeNo) → P (Conditions l r) (cond.And n (as_condition (t l.0)) (as_condition (t r.0))))
    (or : (l r : NodeNo) → P (Conditions l r) (cond.Or n (as_condition (t l.0)) (as_condition (t r.0))))
    (not : (b : NodeNo) → P (Condition b) (cond.Not n (as_condition (t b.0))))
    (past : (k : ℕ) (b : NodeNo) (w : ℕ) → P (Condition b) (cond.Past n k (as_condition (t b.0)) w))
    (since : (l r : NodeNo) (w : ℕ) → P (Conditions l r) (cond.Since n (as_condition (t l.0)) (as_condition (t r.0)) w))
    (exists : (s : Slot) (y : ℕ) (b : NodeNo) → P (Condition b) (cond.Exists n s y (as_condition (t b.0))))
    (comparison : (o : ℕ) (l r : NodeNo) → P (Operands l r) (cond.Comparison n o (as_term (t l.0)) (as_term (t r.0))))
    (predicate : (a : ℕ) (l : NodeNo) → P Nothing (cond.Predicate n a (as_arguments (t l.0))))
    (refine : (b l : NodeNo) → P (Condition b) (cond.Refine n (as_condition (t b.0)) (as_arguments (t l.0))))
    (tp : (s : Slot) → P Nothing (cond.Tp n s))
    (opaque : (k y : ℕ) → P Nothing (cond.Opaque n k y))
    (other : P Nothing (cond.Predicate (node_no 0) 0 (no_argument (node_no 0)))) where
  pub entered_cases : (m : Node) → P (entered_below m) (as_condition (planted t n m))
  unfolding planted as_condition entered_below
  entered_cases =
      by_kind (λ m. P (entered_below m) (as_condition (planted t n m)))
      and or not (past 0x13) (past 0x14) since exists comparison predicate refine tp (opaque 0x1B) (opaque 0x1C) (λ x. other) other (λ y. other) (λ y. other)
      (λ y. other) (λ k. other) (λ k. other) (λ l. other) (λ o l r. other) (λ s l b. other) (λ l b. other) (λ y. other) other (λ f x l. other) (λ x l. other)
      (λ s y l. other)

module _ (columns : List ℕ) (i : ℕ) where
  -- what a walk knows of where it goes on
  abbrev pub Entered : Below → Type 0
  Entered Nothing = Unit
  Entered (Condition b) = Child columns i condition b.0
  Entered (Conditions l r) = Child columns i condition l.0 × Child columns i condition r.0
  Entered (Operands l r) = Child columns i term l.0 × Child columns i term r.0

  children : (m : Node) → Arm columns i m → Entered (entered_below m)
  unfolding entered_below
  children =
      by_kind (λ m. Arm columns i m → Entered (entered_below m))
      (λ l r a. (a.children.0, a.children.1.0)) (λ l r a. (a.children.0, a.children.1.0)) (λ b a. a.children.0) (λ b w a. a.children.0)
      (λ b w a. a.children.0) (λ l r w a. (a.children.0, a.children.1.0)) (λ s y b a. a.children.0)
      (λ o l r a. (a.children.0, a.children.1.0)) (λ q l a. tt) (λ b l a. a.children.0) (λ s a. tt) (λ y a. tt) (λ y a. tt) (λ x a. tt) (λ a. tt)
      (λ y a. tt) (λ y a. tt) (λ y a. tt) (λ k a. tt) (λ k a. tt) (λ l a. tt) (λ o l r a. tt) (λ s l b a. tt) (λ l b a. tt) (λ y a. tt) (λ a. tt)
      (λ f x l a. tt) (λ x l a. tt) (λ s y l a. tt)

pub entered : {columns : List ℕ} {i : ℕ} {m : Node} {s : Below} → s ≡ entered_below m → Arm columns i m → Entered columns i s
entered e a = subst (Entered _ _) (sym e) (children _ _ _ a)
