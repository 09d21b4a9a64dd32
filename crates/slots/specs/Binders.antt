-- A list of binders from a node on: the slot of a cell and the rest of the list, by its node; and the slots of all its cells. Assumes nothing: these are definitions.
use Rattle.std.specs.Prelude.{Option, None, Some, List, [], ◌∷◌}
use Rattle.paper.specs.declared.NodeNo.{NodeNo}
use Rattle.paper.specs.declared.Slot.{Slot}
use Rattle.paper.specs.declared.Node.{Node}
use Rattle.paper.specs.declared.Node.TheVariants as node
use Rattle.paper.specs.Tree.{Binders}
use Rattle.paper.specs.Tree.Binders.{no_binder, binder}

unfoldable pub binder_of : Node → Option (Slot × NodeNo)
binder_of (node.And l r) = None
binder_of (node.Or l r) = None
binder_of (node.Not b) = None
binder_of (node.Formerly b w) = None
binder_of (node.Previous b w) = None
binder_of (node.Since l r w) = None
binder_of (node.Exists s y b) = None
binder_of (node.Comparison o l r) = None
binder_of (node.Predicate a l) = None
binder_of (node.Refine b l) = None
binder_of (node.Tp s) = None
binder_of (node.Call y) = None
binder_of (node.SigilRef y) = None
binder_of (node.Var x) = None
binder_of node.Wildcard = None
binder_of (node.Literal y) = None
binder_of (node.ScopeField y) = None
binder_of (node.ContextField y) = None
binder_of (node.ParamRef k) = None
binder_of (node.BinderRef k) = None
binder_of (node.Array l) = None
binder_of (node.Arith o l r) = None
binder_of (node.Sum s l b) = None
binder_of (node.Count l b) = None
binder_of (node.AggregateCall y) = None
binder_of node.ListEnd = None
binder_of (node.ArgumentCell f x l) = None
binder_of (node.ItemCell x l) = None
binder_of (node.BinderCell s y l) = Some (s, l)

unfoldable pub slots_of : Binders → List Slot
slots_of (no_binder n) = []
slots_of (binder n s y l) = s ∷ slots_of l
