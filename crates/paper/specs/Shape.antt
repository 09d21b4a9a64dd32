-- What a node refers to, and what a well-formed row of nodes is (document 01, 'The record': "Every reference is below its own node and fits the place.
-- Each node but the root is referred to once."). Assumes nothing: these are definitions.
use Rattle.std.specs.Prelude.{ℕ, List, [], ◌∷◌}
use Rattle.paper.specs.declared.Slot.{Slot}
use Rattle.paper.specs.declared.Slot.TheVariants as slot
use Rattle.paper.specs.declared.Node.{Node}
use Rattle.paper.specs.declared.Node.TheVariants.{And, Or, Not, Formerly, Previous, Since, Exists, Comparison, Predicate, Refine, Tp, Call, SigilRef, Var, Wildcard, Literal, ScopeField, ContextField, ParamRef, BinderRef, Array, Arith, Sum, Count, AggregateCall, ListEnd, ArgumentCell, ItemCell, BinderCell}
use Rattle.paper.specs.Record.{Sort, condition, term, arguments, items, binders}

-- the places of a node that hold other nodes: the sort of each, and the node's number
abbrev pub references : Node → List (Sort × ℕ)
references (And l r) = (condition, l.0) ∷ (condition, r.0) ∷ []
references (Or l r) = (condition, l.0) ∷ (condition, r.0) ∷ []
references (Not b) = (condition, b.0) ∷ []
references (Formerly b w) = (condition, b.0) ∷ []
references (Previous b w) = (condition, b.0) ∷ []
references (Since l r w) = (condition, l.0) ∷ (condition, r.0) ∷ []
references (Exists s y b) = (condition, b.0) ∷ []
references (Comparison o l r) = (term, l.0) ∷ (term, r.0) ∷ []
references (Predicate a l) = (arguments, l.0) ∷ []
references (Refine b l) = (condition, b.0) ∷ (arguments, l.0) ∷ []
references (Tp s) = []
references (Call y) = []
references (SigilRef y) = []
references (Var x) = []
references Wildcard = []
references (Literal y) = []
references (ScopeField y) = []
references (ContextField y) = []
references (ParamRef k) = []
references (BinderRef k) = []
references (Array l) = (items, l.0) ∷ []
references (Arith o l r) = (term, l.0) ∷ (term, r.0) ∷ []
references (Sum s l b) = (binders, l.0) ∷ (condition, b.0) ∷ []
references (Count l b) = (binders, l.0) ∷ (condition, b.0) ∷ []
references (AggregateCall y) = []
references ListEnd = []
references (ArgumentCell f x l) = (term, x.0) ∷ (arguments, l.0) ∷ []
references (ItemCell x l) = (term, x.0) ∷ (items, l.0) ∷ []
references (BinderCell s y l) = (binders, l.0) ∷ []

abbrev pub slot_names : Slot → List ℕ
slot_names (slot.Name x) = x.0 ∷ []
slot_names (slot.Param k) = []
slot_names (slot.Binder k) = []

-- the names that stand in a node itself
abbrev pub names_in : Node → List ℕ
names_in (And l r) = []
names_in (Or l r) = []
names_in (Not b) = []
names_in (Formerly b w) = []
names_in (Previous b w) = []
names_in (Since l r w) = []
names_in (Exists s y b) = slot_names s
names_in (Comparison o l r) = []
names_in (Predicate a l) = []
names_in (Refine b l) = []
names_in (Tp s) = slot_names s
names_in (Call y) = []
names_in (SigilRef y) = []
names_in (Var x) = x.0 ∷ []
names_in Wildcard = []
names_in (Literal y) = []
names_in (ScopeField y) = []
names_in (ContextField y) = []
names_in (ParamRef k) = []
names_in (BinderRef k) = []
names_in (Array l) = []
names_in (Arith o l r) = []
names_in (Sum s l b) = slot_names s
names_in (Count l b) = []
names_in (AggregateCall y) = []
names_in ListEnd = []
names_in (ArgumentCell f x l) = []
names_in (ItemCell x l) = []
names_in (BinderCell s y l) = slot_names s
