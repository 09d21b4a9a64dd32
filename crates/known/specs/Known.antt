-- What is known of a node: facts of its tree, in the paper's words and in those of `Needs`, and how those of a node follow from those of its parts. Assumes nothing:
-- these are definitions.
use Rattle.std.specs.Prelude.{ℕ, Option, None, Some, [], ◌∷◌, Bool, true, false, not, ◌||◌, ◌&&◌}
use mathlib.Core.List as L
use Rattle.paper.specs.declared.NodeNo.{NodeNo}
use Rattle.paper.specs.declared.Node.{Node}
use Rattle.paper.specs.declared.Node.TheVariants as node
use Rattle.paper.specs.declared.Slot.{Slot}
use Rattle.paper.specs.declared.Equality.{Equality}
use Rattle.paper.specs.Record.{pick}
use Rattle.paper.specs.Sets.{Set, none, only, ◌∪◌, ◌∖◌, outside}
use Rattle.paper.specs.Tree.{Condition, Term, Arguments, Items, Binders, Tree, a_condition, a_term, arguments, items, binders, an_end, as_term, as_binders}
use Rattle.paper.specs.Tree.Arguments.{no_argument, argument}
use Rattle.paper.specs.Tree.Items.{no_item, item}
use Rattle.paper.specs.FreeAndRestricted.{named, is_sigil, binder_names, free, term_free, bare, about, equality, tied_name, is_equality, restricted, holds_sigil, term_sigil}
use Rattle.paper.specs.Scoping.{binder_sigil}
use Rattle.known.specs.Needs.{slot_in, binder_in, has_some, owes, need, term_need, hard, term_hard, computed, reckoned, broken, term_broken, binds, term_binds, unclosed, term_unclosed}
use Rattle.known.specs.declared.Parts.{Parts}
use Rattle.known.specs.declared.Parts.TheVariants.{Leaf, One, Two, List, Then}

-- of a condition the names that it restricts; of terms the variables that they are. What can be found below is that of a condition, and of a term where it is an operand.
pub record Known : Type 0 where
  pub free : Set
  pub restricted : Set
  pub need : Set
  pub sigil : Bool
  pub hard : Bool
  pub broken : Bool
  pub binds : Bool
  pub unclosed : Bool
  pub computed : Bool

-- ---- how facts are put together

unfoldable pub nothing : Known
nothing =
    record { free = none; restricted = none; need = none; sigil = false; hard = false; broken = false; binds = false; unclosed = false; computed = false }

unfoldable pub opaque : Bool → Known
opaque computed =
    record { free = none; restricted = none; need = none; sigil = true; hard = false; broken = false; binds = false; unclosed = false; computed = computed }

-- names that are free and restricted
unfoldable pub naming : Set → Bool → Bool → Known
naming own sigil binds =
    record { free = own; restricted = own; need = none; sigil = sigil; hard = false; broken = false; binds = binds; unclosed = false; computed = false }

-- both, restricting and needing these names
unfoldable pub both : Known → Known → Set → Set → Known
both a b given needs =
    record {
      free = a.free ∪ b.free;
      restricted = given;
      need = needs;
      sigil = a.sigil || b.sigil;
      hard = a.hard || b.hard;
      broken = a.broken || b.broken;
      binds = a.binds || b.binds;
      unclosed = a.unclosed || b.unclosed;
      computed = a.computed || b.computed;
    }

-- the terms of a list, one after the other
unfoldable pub join : Known → Known → Known
join a b = both a b (a.restricted ∪ b.restricted) (a.need ∪ b.need)

-- what is searched and not entered, restricting these names
unfoldable pub searched : Known → Set → Known
searched a given =
    record { free = a.free; restricted = given; need = none; sigil = a.sigil; hard = false; broken = a.computed; binds = false; unclosed = false; computed = a.computed }

-- what restricts nothing, and owes all that is free
unfoldable pub loose : Known → Known
loose a =
    record { free = a.free; restricted = none; need = a.need ∪ a.free; sigil = a.sigil; hard = a.hard; broken = a.broken; binds = a.binds; unclosed = a.unclosed; computed = a.computed }

-- a condition with fields, which are neither entered nor searched
unfoldable pub refined : Known → Known → Known
refined a b =
    record {
      free = a.free ∪ b.free;
      restricted = a.restricted ∪ b.restricted;
      need = a.need;
      sigil = a.sigil || b.sigil;
      hard = a.hard;
      broken = a.broken;
      binds = a.binds;
      unclosed = a.unclosed;
      computed = a.computed;
    }

-- under an exists
unfoldable pub bound : Known → Slot → Known
bound a s =
    record {
      free = a.free ∖ named s;
      restricted = a.restricted ∖ named s;
      need = a.need ∖ named s;
      sigil = a.sigil;
      hard = a.hard || slot_in s a.need;
      broken = a.broken || (not a.sigil && slot_in s (outside a.restricted));
      binds = true;
      unclosed = a.unclosed;
      computed = a.computed;
    }

-- an aggregate over a body: whether it is skipped, and whether it sums a name that no binder has
unfoldable pub gathered : Known → Binders → Bool → Bool → Known
gathered a l skipped unsummed =
    record {
      free = a.free ∖ binder_names l;
      restricted = none;
      need = a.need ∖ binder_names l;
      sigil = a.sigil;
      hard = a.hard || binder_in l a.need;
      broken = not skipped && (a.broken || (unsummed || binder_in l (outside a.restricted)));
      binds = not skipped;
      unclosed = not skipped && (a.unclosed || has_some (a.free ∖ binder_names l));
      computed = true;
    }

-- ---- of a tree

unfoldable pub condition_known : Condition → Known
condition_known c =
    record {
      free = free c;
      restricted = restricted c;
      need = need c;
      sigil = holds_sigil c;
      hard = hard c;
      broken = broken c;
      binds = binds c;
      unclosed = unclosed c;
      computed = reckoned c;
    }

unfoldable pub term_known : Term → Known
term_known t =
    record {
      free = term_free t;
      restricted = about (bare t);
      need = term_need t;
      sigil = term_sigil t;
      hard = term_hard t;
      broken = term_broken t;
      binds = term_binds t;
      unclosed = term_unclosed t;
      computed = computed t;
    }

unfoldable pub arguments_known : Arguments → Known
arguments_known (no_argument n) = nothing
arguments_known (argument n f t l) = join (term_known t) (arguments_known l)

unfoldable pub items_known : Items → Known
items_known (no_item n) = nothing
items_known (item n t l) = join (term_known t) (items_known l)

-- of binders nothing is asked
unfoldable pub known_of : Tree → Known
known_of (a_condition c) = condition_known c
known_of (a_term t) = term_known t
known_of (arguments l) = arguments_known l
known_of (items l) = items_known l
known_of (binders l) = nothing
known_of (an_end n) = nothing

-- ---- of a node, from its parts

unfoldable pub parts_of : Node → Parts
parts_of (node.And l r) = Two l r
parts_of (node.Or l r) = Two l r
parts_of (node.Not b) = One b
parts_of (node.Formerly b w) = One b
parts_of (node.Previous b w) = One b
parts_of (node.Since l r w) = Two l r
parts_of (node.Exists s y b) = One b
parts_of (node.Comparison o l r) = Two l r
parts_of (node.Predicate a l) = List l
parts_of (node.Refine b l) = Then b l
parts_of (node.Tp s) = Leaf
parts_of (node.Call y) = Leaf
parts_of (node.SigilRef y) = Leaf
parts_of (node.Var x) = Leaf
parts_of node.Wildcard = Leaf
parts_of (node.Literal y) = Leaf
parts_of (node.ScopeField y) = Leaf
parts_of (node.ContextField y) = Leaf
parts_of (node.ParamRef k) = Leaf
parts_of (node.BinderRef k) = Leaf
parts_of (node.Array l) = List l
parts_of (node.Arith o l r) = Two l r
parts_of (node.Sum s l b) = One b
parts_of (node.Count l b) = One b
parts_of (node.AggregateCall y) = Leaf
parts_of node.ListEnd = Leaf
parts_of (node.ArgumentCell f x l) = Then x l
parts_of (node.ItemCell x l) = Then x l
parts_of (node.BinderCell s y l) = Leaf

-- the term and the rest of a list's cell, if there is one: at a place of a list these are all its parts
unfoldable pub cell_of : Node → Option (NodeNo × NodeNo)
cell_of (node.And l r) = None
cell_of (node.Or l r) = None
cell_of (node.Not b) = None
cell_of (node.Formerly b w) = None
cell_of (node.Previous b w) = None
cell_of (node.Since l r w) = None
cell_of (node.Exists s y b) = None
cell_of (node.Comparison o l r) = None
cell_of (node.Predicate a l) = None
cell_of (node.Refine b l) = None
cell_of (node.Tp s) = None
cell_of (node.Call y) = None
cell_of (node.SigilRef y) = None
cell_of (node.Var x) = None
cell_of node.Wildcard = None
cell_of (node.Literal y) = None
cell_of (node.ScopeField y) = None
cell_of (node.ContextField y) = None
cell_of (node.ParamRef k) = None
cell_of (node.BinderRef k) = None
cell_of (node.Array l) = None
cell_of (node.Arith o l r) = None
cell_of (node.Sum s l b) = None
cell_of (node.Count l b) = None
cell_of (node.AggregateCall y) = None
cell_of node.ListEnd = None
cell_of (node.ArgumentCell f x l) = Some (x, l)
cell_of (node.ItemCell x l) = Some (x, l)
cell_of (node.BinderCell s y l) = None

abbrev pub nodes_of : Parts → L.List ℕ
nodes_of Leaf = []
nodes_of (One b) = b.0 ∷ []
nodes_of (Two l r) = l.0 ∷ r.0 ∷ []
nodes_of (List l) = l.0 ∷ []
nodes_of (Then b l) = b.0 ∷ l.0 ∷ []

-- on the right of And what the left restricts is tied, and on the left of Since what the right does
unfoldable pub and_known : Known → Known → Known
and_known a b = both a b (a.restricted ∪ b.restricted) (a.need ∪ (b.need ∖ a.restricted))

unfoldable pub since_known : Known → Known → Known
since_known a b = both a b b.restricted (b.need ∪ ((a.need ∪ a.free) ∖ b.restricted))

unfoldable pub or_known : Known → Known → Known
or_known a b = both a b none (a.need ∪ b.need)

-- arithmetic
unfoldable pub arith_known : Known → Known → Known
arith_known a b =
    record {
      free = a.free ∪ b.free;
      restricted = none;
      need = a.need ∪ b.need;
      sigil = a.sigil || b.sigil;
      hard = a.hard || b.hard;
      broken = a.broken || b.broken;
      binds = a.binds || b.binds;
      unclosed = a.unclosed || b.unclosed;
      computed = true;
    }

-- a comparison that is no equality restricts nothing and owes all its free names
unfoldable pub compared : Known → Known → Known
compared a b = both a b none ((a.free ∪ b.free) ∪ (a.need ∪ b.need))

unfoldable pub equated : Equality → Known → Known → Known
equated side a b = both a b (tied_name side) (owes side a.free b.free ∪ (a.need ∪ b.need))

-- how the facts of a node come from those of its parts
pub data Way : Type 0 where
  alone : Known → Way
  over : (Known → Known) → Way
  between : (Known → Known → Known) → Way

-- where `t` gives the trees of the parts
module _ (t : ℕ → Tree) where
  abbrev part : NodeNo → Known
  part k = known_of (t k.0)

  abbrev term : NodeNo → Term
  term k = as_term (t k.0)

  abbrev list : NodeNo → Binders
  list k = as_binders (t k.0)

  unfoldable pub way : Node → Way
  way (node.And l r) = between and_known
  way (node.Or l r) = between or_known
  way (node.Not b) = over loose
  way (node.Formerly b w) = over (λ a. a)
  way (node.Previous b w) = over (λ a. a)
  way (node.Since l r w) = between since_known
  way (node.Exists s y b) = over (λ a. bound a s)
  way (node.Comparison o l r) = between (pick (is_equality o) (equated (equality (term l) (term r))) compared)
  way (node.Predicate a l) = over (λ a. searched a a.restricted)
  way (node.Refine b l) = between refined
  way (node.Tp s) = alone (naming (named s) (is_sigil s) true)
  way (node.Call y) = alone (opaque false)
  way (node.SigilRef y) = alone (opaque false)
  way (node.Var x) = alone (naming (only x.0) false false)
  way node.Wildcard = alone nothing
  way (node.Literal y) = alone nothing
  way (node.ScopeField y) = alone nothing
  way (node.ContextField y) = alone nothing
  way (node.ParamRef k) = alone (opaque false)
  way (node.BinderRef k) = alone (opaque false)
  way (node.Array l) = over (λ a. searched a none)
  way (node.Arith o l r) = between arith_known
  way (node.Sum s l b) = over (λ a. gathered a (list l) (is_sigil s || binder_sigil (list l)) (slot_in s (outside (binder_names (list l)))))
  way (node.Count l b) = over (λ a. gathered a (list l) (binder_sigil (list l)) false)
  way (node.AggregateCall y) = alone (opaque true)
  way node.ListEnd = alone nothing
  way (node.ArgumentCell f x l) = between join
  way (node.ItemCell x l) = between join
  way (node.BinderCell s y l) = alone nothing

  unfoldable pub from_parts : Way → Parts → Known
  from_parts (alone k) p = k
  from_parts (over f) Leaf = nothing
  from_parts (over f) (One b) = f (part b)
  from_parts (over f) (Two l r) = nothing
  from_parts (over f) (List l) = f (part l)
  from_parts (over f) (Then b l) = nothing
  from_parts (between f) Leaf = nothing
  from_parts (between f) (One b) = nothing
  from_parts (between f) (Two l r) = f (part l) (part r)
  from_parts (between f) (List l) = nothing
  from_parts (between f) (Then b l) = f (part b) (part l)

  unfoldable pub own : Node → Known
  own m = from_parts (way m) (parts_of m)
