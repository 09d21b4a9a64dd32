-- The tree of a record (document 01, 'The record'): conditions, terms and lists, each with its node number and every field of its record.
-- Node k's tree is made from node k and the trees before it, since every reference is below its own node. Assumes nothing: these are definitions.
use Rattle.std.specs.Prelude.{ℕ, zero, suc, ◌+◌, ◌-◌, true, false, List, eqb, length, get_or}
use Rattle.paper.specs.declared.NodeNo.{NodeNo}
use Rattle.paper.specs.declared.NameNo.{NameNo}
use Rattle.paper.specs.declared.Slot.{Slot}
use Rattle.paper.specs.declared.Node.{Node}
use Rattle.paper.specs.declared.Node.TheVariants as node
use Rattle.paper.specs.Record.{node_no}
use Rattle.paper.specs.TurnedAway.{Contents}

-- what no rule tells apart is one shape that carries its kind: Past is Formerly or Previous with its window, Opaque is Call or SigilRef,
-- Value is Literal, ScopeField or ContextField, and Sigil is ParamRef or BinderRef
mutual
  pub data Condition : Type 0 where
    And Or : NodeNo → Condition → Condition → Condition
    Not : NodeNo → Condition → Condition
    Past : NodeNo → ℕ → Condition → ℕ → Condition
    Since : NodeNo → Condition → Condition → ℕ → Condition
    Exists : NodeNo → Slot → ℕ → Condition → Condition
    Comparison : NodeNo → ℕ → Term → Term → Condition
    Predicate : NodeNo → ℕ → Arguments → Condition
    Refine : NodeNo → Condition → Arguments → Condition
    Tp : NodeNo → Slot → Condition
    Opaque : NodeNo → ℕ → ℕ → Condition

  pub data Term : Type 0 where
    Var : NodeNo → NameNo → Term
    Wildcard : NodeNo → Term
    Value Sigil : NodeNo → ℕ → ℕ → Term
    Array : NodeNo → Items → Term
    Arith : NodeNo → ℕ → Term → Term → Term
    Sum : NodeNo → Slot → Binders → Condition → Term
    Count : NodeNo → Binders → Condition → Term
    AggregateCall : NodeNo → ℕ → Term

  pub data Arguments : Type 0 where
    no_argument : NodeNo → Arguments
    argument : NodeNo → ℕ → Term → Arguments → Arguments

  pub data Items : Type 0 where
    no_item : NodeNo → Items
    item : NodeNo → Term → Items → Items

  pub data Binders : Type 0 where
    no_binder : NodeNo → Binders
    binder : NodeNo → Slot → ℕ → Binders → Binders

-- what a node stands for; a list end ends any list
pub data Tree : Type 0 where
  a_condition : Condition → Tree
  a_term : Term → Tree
  arguments : Arguments → Tree
  items : Items → Tree
  binders : Binders → Tree
  an_end : NodeNo → Tree

-- ---- a tree at a place of its sort. The reader refuses any other (9), so what stands for one here is never met: it has no name and no child

abbrev no_node : NodeNo
no_node = node_no 0

unfoldable pub as_condition : Tree → Condition
as_condition (a_condition c) = c
as_condition (a_term t) = Predicate no_node 0 (no_argument no_node)
as_condition (arguments l) = Predicate no_node 0 (no_argument no_node)
as_condition (items l) = Predicate no_node 0 (no_argument no_node)
as_condition (binders l) = Predicate no_node 0 (no_argument no_node)
as_condition (an_end n) = Predicate no_node 0 (no_argument no_node)

unfoldable pub as_term : Tree → Term
as_term (a_condition c) = Value no_node 0 0
as_term (a_term t) = t
as_term (arguments l) = Value no_node 0 0
as_term (items l) = Value no_node 0 0
as_term (binders l) = Value no_node 0 0
as_term (an_end n) = Value no_node 0 0

unfoldable pub as_arguments : Tree → Arguments
as_arguments (a_condition c) = no_argument no_node
as_arguments (a_term t) = no_argument no_node
as_arguments (arguments l) = l
as_arguments (items l) = no_argument no_node
as_arguments (binders l) = no_argument no_node
as_arguments (an_end n) = no_argument n

unfoldable pub as_items : Tree → Items
as_items (a_condition c) = no_item no_node
as_items (a_term t) = no_item no_node
as_items (arguments l) = no_item no_node
as_items (items l) = l
as_items (binders l) = no_item no_node
as_items (an_end n) = no_item n

unfoldable pub as_binders : Tree → Binders
as_binders (a_condition c) = no_binder no_node
as_binders (a_term t) = no_binder no_node
as_binders (arguments l) = no_binder no_node
as_binders (items l) = no_binder no_node
as_binders (binders l) = l
as_binders (an_end n) = no_binder n

-- ---- from nodes to trees

-- node n's tree, where `t` gives the trees before it
module _ (t : ℕ → Tree) (n : NodeNo) where
  abbrev cond : NodeNo → Condition
  cond k = as_condition (t k.0)

  abbrev term : NodeNo → Term
  term k = as_term (t k.0)

  unfoldable pub planted : Node → Tree
  planted (node.And l r) = a_condition (And n (cond l) (cond r))
  planted (node.Or l r) = a_condition (Or n (cond l) (cond r))
  planted (node.Not b) = a_condition (Not n (cond b))
  planted (node.Formerly b w) = a_condition (Past n 0x13 (cond b) w)
  planted (node.Previous b w) = a_condition (Past n 0x14 (cond b) w)
  planted (node.Since l r w) = a_condition (Since n (cond l) (cond r) w)
  planted (node.Exists s y b) = a_condition (Exists n s y (cond b))
  planted (node.Comparison o l r) = a_condition (Comparison n o (term l) (term r))
  planted (node.Predicate a l) = a_condition (Predicate n a (as_arguments (t l.0)))
  planted (node.Refine b l) = a_condition (Refine n (cond b) (as_arguments (t l.0)))
  planted (node.Tp s) = a_condition (Tp n s)
  planted (node.Call y) = a_condition (Opaque n 0x1B y)
  planted (node.SigilRef y) = a_condition (Opaque n 0x1C y)
  planted (node.Var x) = a_term (Var n x)
  planted node.Wildcard = a_term (Wildcard n)
  planted (node.Literal y) = a_term (Value n 0x22 y)
  planted (node.ScopeField y) = a_term (Value n 0x23 y)
  planted (node.ContextField y) = a_term (Value n 0x24 y)
  planted (node.ParamRef k) = a_term (Sigil n 0x25 k)
  planted (node.BinderRef k) = a_term (Sigil n 0x26 k)
  planted (node.Array l) = a_term (Array n (as_items (t l.0)))
  planted (node.Arith o l r) = a_term (Arith n o (term l) (term r))
  planted (node.Sum s l b) = a_term (Sum n s (as_binders (t l.0)) (cond b))
  planted (node.Count l b) = a_term (Count n (as_binders (t l.0)) (cond b))
  planted (node.AggregateCall y) = a_term (AggregateCall n y)
  planted node.ListEnd = an_end n
  planted (node.ArgumentCell f x l) = arguments (argument n f (term x) (as_arguments (t l.0)))
  planted (node.ItemCell x l) = items (item n (term x) (as_items (t l.0)))
  planted (node.BinderCell s y l) = binders (binder n s y (as_binders (t l.0)))

-- the trees of the first n nodes
unfoldable pub trees : List Node → ℕ → ℕ → Tree
trees nodes zero k = an_end no_node
trees nodes (suc n) k =
    elim (eqb k n) [ true ↦ planted (trees nodes n) (node_no n) (get_or nodes n node.ListEnd) | false ↦ trees nodes n k ]

unfoldable pub tree_at : List Node → ℕ → Tree
tree_at nodes k = trees nodes (suc k) k

-- "Nodes count from 0; the last is the root"
unfoldable pub root_no : Contents → NodeNo
root_no c = node_no (length c.nodes - 1)

unfoldable pub root : Contents → Condition
root c = as_condition (tree_at c.nodes (root_no c).0)

-- ---- how many nodes a tree has

unfoldable mutual
  pub size : Condition → ℕ
  size (And n l r) = 1 + (size l + size r)
  size (Or n l r) = 1 + (size l + size r)
  size (Not n b) = 1 + size b
  size (Past n k b w) = 1 + size b
  size (Since n l r w) = 1 + (size l + size r)
  size (Exists n s y b) = 1 + size b
  size (Comparison n o l r) = 1 + (term_size l + term_size r)
  size (Predicate n a l) = 1 + arguments_size l
  size (Refine n b l) = 1 + (size b + arguments_size l)
  size (Tp n s) = 1
  size (Opaque n k y) = 1

  pub term_size : Term → ℕ
  term_size (Var n x) = 1
  term_size (Wildcard n) = 1
  term_size (Value n k y) = 1
  term_size (Sigil n k i) = 1
  term_size (Array n l) = 1 + items_size l
  term_size (Arith n o l r) = 1 + (term_size l + term_size r)
  term_size (Sum n s l b) = 1 + (binders_size l + size b)
  term_size (Count n l b) = 1 + (binders_size l + size b)
  term_size (AggregateCall n y) = 1

  pub arguments_size : Arguments → ℕ
  arguments_size (no_argument n) = 1
  arguments_size (argument n f t l) = 1 + (term_size t + arguments_size l)

  pub items_size : Items → ℕ
  items_size (no_item n) = 1
  items_size (item n t l) = 1 + (term_size t + items_size l)

  pub binders_size : Binders → ℕ
  binders_size (no_binder n) = 1
  binders_size (binder n s y l) = 1 + binders_size l
