-- What a walk knows of a node by what it sees of it. Assumes nothing.
use mathlib.Core.Path.{◌≡◌, refl, sym, subst}
use mathlib.Core.List.{List}
use Prim.Native.Nat.{ℕ}
use lib.ListN.{get_or}
use Rattle.paper.specs.declared.NodeNo.{NodeNo}
use Rattle.paper.specs.declared.Node.{Node}
use Rattle.paper.specs.declared.Node.TheVariants as node
use Rattle.record.specs.Stored.{held, Has}
use Rattle.trees.proofs.Arms.{Arm, arm}
use Rattle.trees.proofs.Shapes.{Aggregate, sum, count}
use Rattle.trees.proofs.ByKind.{by_kind}
use Rattle.views.specs.declared.Operand.{Operand}
use Rattle.views.specs.declared.Operand.TheVariants as operand
use Rattle.views.specs.declared.Itself.{Itself}
use Rattle.views.specs.declared.Itself.TheVariants as itself
use Rattle.views.specs.declared.Owing.{Owing}
use Rattle.views.specs.declared.Owing.TheVariants as owing
use Rattle.views.specs.Seen.{seen_operand, seen_itself, seen_owing}

-- the node itself, which no walk holds
pub held_arm : {columns : List ℕ} {i : ℕ} → Has columns i → Arm columns i (get_or (held columns) i node.ListEnd)
held_arm h = arm _ _ _ _ h refl refl

module _ (columns : List ℕ) (i : ℕ) where
  abbrev pub OperandArm : Operand → Type 0
  OperandArm operand.Plain = Unit {0}
  OperandArm (operand.Array l) = Arm columns i (node.Array l)
  OperandArm (operand.Arith l r) = (o : ℕ) × Arm columns i (node.Arith o l r)
  OperandArm (operand.Aggregate l b) = (m : Node) × Aggregate l b m × Arm columns i m

  operand_arm : (m : Node) → Arm columns i m → OperandArm (seen_operand m)
  unfolding seen_operand
  operand_arm =
      by_kind (λ m. Arm columns i m → OperandArm (seen_operand m))
      (λ l r a. tt) (λ l r a. tt) (λ b a. tt) (λ b w a. tt) (λ b w a. tt) (λ l r w a. tt) (λ s y b a. tt) (λ o l r a. tt) (λ q l a. tt) (λ b l a. tt)
      (λ s a. tt) (λ y a. tt) (λ y a. tt) (λ x a. tt) (λ a. tt) (λ y a. tt) (λ y a. tt) (λ y a. tt) (λ k a. tt) (λ k a. tt) (λ l a. a) (λ o l r a. (o, a))
      (λ s l b a. (node.Sum s l b, sum, a)) (λ l b a. (node.Count l b, count, a)) (λ y a. tt) (λ a. tt) (λ f x l a. tt) (λ x l a. tt) (λ s y l a. tt)

  abbrev pub ItselfArm : Itself → Type 0
  ItselfArm itself.Other = Unit {0}
  ItselfArm (itself.Exists s b) = (y : ℕ) × Arm columns i (node.Exists s y b)
  ItselfArm (itself.Predicate l) = (q : ℕ) × Arm columns i (node.Predicate q l)
  ItselfArm (itself.Tp s) = Arm columns i (node.Tp s)

  itself_arm : (m : Node) → Arm columns i m → ItselfArm (seen_itself m)
  unfolding seen_itself
  itself_arm =
      by_kind (λ m. Arm columns i m → ItselfArm (seen_itself m))
      (λ l r a. tt) (λ l r a. tt) (λ b a. tt) (λ b w a. tt) (λ b w a. tt) (λ l r w a. tt) (λ s y b a. (y, a)) (λ o l r a. tt) (λ q l a. (q, a))
      (λ b l a. tt) (λ s a. a) (λ y a. tt) (λ y a. tt) (λ x a. tt) (λ a. tt) (λ y a. tt) (λ y a. tt) (λ y a. tt) (λ k a. tt) (λ k a. tt) (λ l a. tt)
      (λ o l r a. tt) (λ s l b a. tt) (λ l b a. tt) (λ y a. tt) (λ a. tt) (λ f x l a. tt) (λ x l a. tt) (λ s y l a. tt)

  abbrev pub OwingArm : Owing → Type 0
  OwingArm owing.Other = Unit {0}
  OwingArm (owing.And l) = (r : NodeNo) × Arm columns i (node.And l r)
  OwingArm (owing.Not b) = Arm columns i (node.Not b)
  OwingArm (owing.Since l r) = (w : ℕ) × Arm columns i (node.Since l r w)
  OwingArm (owing.Exists s) = (y : ℕ) × (b : NodeNo) × Arm columns i (node.Exists s y b)
  OwingArm (owing.Comparison o l r) = Arm columns i (node.Comparison o l r)
  OwingArm owing.Refine = (b : NodeNo) × (l : NodeNo) × Arm columns i (node.Refine b l)

  owing_arm : (m : Node) → Arm columns i m → OwingArm (seen_owing m)
  unfolding seen_owing
  owing_arm =
      by_kind (λ m. Arm columns i m → OwingArm (seen_owing m))
      (λ l r a. (r, a)) (λ l r a. tt) (λ b a. a) (λ b w a. tt) (λ b w a. tt) (λ l r w a. (w, a)) (λ s y b a. (y, b, a)) (λ o l r a. a) (λ q l a. tt)
      (λ b l a. (b, l, a)) (λ s a. tt) (λ y a. tt) (λ y a. tt) (λ x a. tt) (λ a. tt) (λ y a. tt) (λ y a. tt) (λ y a. tt) (λ k a. tt) (λ k a. tt) (λ l a. tt)
      (λ o l r a. tt) (λ s l b a. tt) (λ l b a. tt) (λ y a. tt) (λ a. tt) (λ f x l a. tt) (λ x l a. tt) (λ s y l a. tt)

module _ {columns : List ℕ} {i : ℕ} {m : Node} where
  pub operand_told : {s : Operand} → s ≡ seen_operand m → Arm columns i m → OperandArm columns i s
  operand_told e a = subst (OperandArm columns i) (sym e) (operand_arm columns i m a)

  pub itself_told : {s : Itself} → s ≡ seen_itself m → Arm columns i m → ItselfArm columns i s
  itself_told e a = subst (ItselfArm columns i) (sym e) (itself_arm columns i m a)

  pub owing_told : {s : Owing} → s ≡ seen_owing m → Arm columns i m → OwingArm columns i s
  owing_told e a = subst (OwingArm columns i) (sym e) (owing_arm columns i m a)
