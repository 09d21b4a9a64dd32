-- Document 01, 'Scoping: 20 to 27': where the walk goes, which names are in scope there, and which rules are broken. Assumes nothing: these are definitions.
use Rattle.std.specs.Prelude.{ℕ, Bool, true, false, ◌||◌, List, [], ◌∷◌, ◌++◌, get_or, eqb}
use Rattle.paper.specs.declared.NodeNo.{NodeNo}
use Rattle.paper.specs.declared.Finding.{Finding}
use Rattle.paper.specs.declared.Slot.{Slot}
use Rattle.paper.specs.declared.Slot.TheVariants as slot
use Rattle.paper.specs.Record.{pick, ascii, zeros}
use Rattle.paper.specs.Sets.{Set, none, ◌∪◌, ◌∩◌, ◌∖◌, outside}
use Rattle.paper.specs.TurnedAway.{Contents}
use Rattle.paper.specs.Tree.{Condition, Term, Arguments, Items, Binders, root}
use Rattle.paper.specs.Tree.Condition.{And, Or, Not, Past, Since, Exists, Comparison, Predicate, Refine, Tp, Opaque}
use Rattle.paper.specs.Tree.Term.{Var, Wildcard, Value, Sigil, Array, Arith, Sum, Count, AggregateCall}
use Rattle.paper.specs.Tree.Arguments.{no_argument, argument}
use Rattle.paper.specs.Tree.Items.{no_item, item}
use Rattle.paper.specs.Tree.Binders.{no_binder, binder}
use Rattle.paper.specs.FreeAndRestricted.{named, is_sigil, binder_names, free, restricted, holds_sigil}
use Rattle.paper.specs.Places.{
  Spot,
  condition,
  operand,
  searched,
  searched_arguments,
  searched_items,
  Place,
  asked_at,
  Cell,
  Broken,
  itself,
  for_names,
  at_cells,
  Entry,
  Unmet,
  found,
}

-- ---- reserved names

-- whether a name of the table, zero padded, is this word
unfoldable pub is_word : List ℕ → List ℕ → Bool
is_word [] n = zeros n
is_word (x ∷ word) [] = false
is_word (x ∷ word) (y ∷ n) = elim (eqb x y) [ true ↦ is_word word n | false ↦ false ]

-- "principal, action, resource or context"
unfoldable pub is_reserved : List ℕ → Bool
is_reserved n = is_word (ascii "principal") n || (is_word (ascii "action") n || (is_word (ascii "resource") n || is_word (ascii "context") n))

-- which names of the table are reserved
unfoldable pub reserved : List (List ℕ) → Set
reserved names x = is_reserved (get_or names x [])

-- ---- aggregates

unfoldable pub binder_sigil : Binders → Bool
binder_sigil (no_binder n) = false
binder_sigil (binder n s y l) = is_sigil s || binder_sigil l

-- the named cells of a binder list, in order
unfoldable pub cell_of : NodeNo → Slot → List Cell
cell_of n (slot.Name x) = record { node = n; name = x } ∷ []
cell_of n (slot.Param k) = []
cell_of n (slot.Binder k) = []

unfoldable pub cells : Binders → List Cell
cells (no_binder n) = []
cells (binder n s y l) = cell_of n s ++ cells l

-- ---- where the walk goes, and the names in scope

-- "In scope: the caller's seed and the named binders above". "The walk enters every condition child. At a comparison it enters operands
-- through arithmetic to aggregates; any other operand, and each predicate argument, is searched through arrays." "Refinement fields are
-- not searched." An aggregate with a sigil "is skipped, body included".
abbrev below_condition : Condition → Set → List Place
below_condition (And n l r) scope = asked_at (condition l) scope ∷ asked_at (condition r) scope ∷ []
below_condition (Or n l r) scope = asked_at (condition l) scope ∷ asked_at (condition r) scope ∷ []
below_condition (Not n b) scope = asked_at (condition b) scope ∷ []
below_condition (Past n k b w) scope = asked_at (condition b) scope ∷ []
below_condition (Since n l r w) scope = asked_at (condition l) scope ∷ asked_at (condition r) scope ∷ []
below_condition (Exists n s y b) scope = asked_at (condition b) (scope ∪ named s) ∷ []
below_condition (Comparison n o l r) scope = asked_at (operand l) scope ∷ asked_at (operand r) scope ∷ []
below_condition (Predicate n a l) scope = asked_at (searched_arguments l) scope ∷ []
below_condition (Refine n b l) scope = asked_at (condition b) scope ∷ []
below_condition (Tp n s) scope = []
below_condition (Opaque n k y) scope = []

abbrev below_aggregate : Bool → Binders → Condition → Set → List Place
below_aggregate sigil l b scope = pick (sigil || binder_sigil l) [] (asked_at (condition b) (scope ∪ binder_names l) ∷ [])

abbrev below_operand : Term → Set → List Place
below_operand (Var n x) scope = []
below_operand (Wildcard n) scope = []
below_operand (Value n k y) scope = []
below_operand (Sigil n k i) scope = []
below_operand (Array n l) scope = asked_at (searched_items l) scope ∷ []
below_operand (Arith n o l r) scope = asked_at (operand l) scope ∷ asked_at (operand r) scope ∷ []
below_operand (Sum n s l b) scope = below_aggregate (is_sigil s) l b scope
below_operand (Count n l b) scope = below_aggregate false l b scope
below_operand (AggregateCall n y) scope = []

-- "an aggregate there is 20, arithmetic 21, and neither is entered"
abbrev below_searched : Term → Set → List Place
below_searched (Var n x) scope = []
below_searched (Wildcard n) scope = []
below_searched (Value n k y) scope = []
below_searched (Sigil n k i) scope = []
below_searched (Array n l) scope = asked_at (searched_items l) scope ∷ []
below_searched (Arith n o l r) scope = []
below_searched (Sum n s l b) scope = []
below_searched (Count n l b) scope = []
below_searched (AggregateCall n y) scope = []

abbrev below_arguments : Arguments → Set → List Place
below_arguments (no_argument n) scope = []
below_arguments (argument n f t l) scope = asked_at (searched t) scope ∷ asked_at (searched_arguments l) scope ∷ []

abbrev below_items : Items → Set → List Place
below_items (no_item n) scope = []
below_items (item n t l) scope = asked_at (searched t) scope ∷ asked_at (searched_items l) scope ∷ []

abbrev below_spot : Spot → Set → List Place
below_spot (condition c) scope = below_condition c scope
below_spot (operand t) scope = below_operand t scope
below_spot (searched t) scope = below_searched t scope
below_spot (searched_arguments l) scope = below_arguments l scope
below_spot (searched_items l) scope = below_items l scope

unfoldable pub scope_below : Place → List Place
scope_below p = below_spot p.spot p.names

-- ---- which rules are broken at a place

module _ (words : Set) where
  -- "22: a named exists, binder-cell or tp slot is principal, action, resource or context"
  -- "23: a named exists binder is not restricted in its body. Skipped if the body holds a sigil."
  abbrev condition_broken : Condition → List Broken
  condition_broken (And n l r) = []
  condition_broken (Or n l r) = []
  condition_broken (Not n b) = []
  condition_broken (Past n k b w) = []
  condition_broken (Since n l r w) = []
  condition_broken (Exists n s y b) =
      for_names 22 n (named s ∩ words) ∷ for_names 23 n (pick (holds_sigil b) none (named s ∖ restricted b)) ∷ []
  condition_broken (Comparison n o l r) = []
  condition_broken (Predicate n a l) = []
  condition_broken (Refine n b l) = []
  condition_broken (Tp n s) = for_names 22 n (named s ∩ words) ∷ []
  condition_broken (Opaque n k y) = []

  -- "24: summed name not among its binders; 25: a free name of the body neither in scope nor a binder; 26: a binder not free in the body;
  -- 27: a binder not restricted in it." "22, 26, 27 of an aggregate stand at the binder cell; all others at the node itself."
  abbrev pub aggregate_rules : NodeNo → Set → Binders → Condition → Set → List Broken
  aggregate_rules n summed l b scope =
      at_cells 22 words (cells l)
      ∷ for_names 24 n (summed ∖ binder_names l)
      ∷ for_names 25 n (free b ∖ (scope ∪ binder_names l))
      ∷ at_cells 26 (outside (free b)) (cells l)
      ∷ at_cells 27 (outside (restricted b)) (cells l)
      ∷ []

  -- "An aggregate whose summed slot or any binder is a sigil is skipped"
  abbrev aggregate_broken : Bool → NodeNo → Set → Binders → Condition → Set → List Broken
  aggregate_broken sigil n summed l b scope = pick (sigil || binder_sigil l) [] (aggregate_rules n summed l b scope)

  abbrev operand_broken : Term → Set → List Broken
  operand_broken (Var n x) scope = []
  operand_broken (Wildcard n) scope = []
  operand_broken (Value n k y) scope = []
  operand_broken (Sigil n k i) scope = []
  operand_broken (Array n l) scope = []
  operand_broken (Arith n o l r) scope = []
  operand_broken (Sum n s l b) scope = aggregate_broken (is_sigil s) n (named s) l b scope
  operand_broken (Count n l b) scope = aggregate_broken false n none l b scope
  operand_broken (AggregateCall n y) scope = []

  abbrev searched_broken : Term → List Broken
  searched_broken (Var n x) = []
  searched_broken (Wildcard n) = []
  searched_broken (Value n k y) = []
  searched_broken (Sigil n k i) = []
  searched_broken (Array n l) = []
  searched_broken (Arith n o l r) = itself 21 n ∷ []
  searched_broken (Sum n s l b) = itself 20 n ∷ []
  searched_broken (Count n l b) = itself 20 n ∷ []
  searched_broken (AggregateCall n y) = itself 20 n ∷ []

  abbrev spot_broken : Spot → Set → List Broken
  spot_broken (condition c) scope = condition_broken c
  spot_broken (operand t) scope = operand_broken t scope
  spot_broken (searched t) scope = searched_broken t
  spot_broken (searched_arguments l) scope = []
  spot_broken (searched_items l) scope = []

  unfoldable pub scope_broken : Place → List Broken
  scope_broken p = spot_broken p.spot p.names

-- ---- what is unmet, and this part of the list

-- an entry of 20 to 27 is unmet at the end of a path from the root, where the caller's seed is in scope
abbrev pub ScopingUnmet : Contents → Set → List ℕ → Entry → Type 0
ScopingUnmet c seed path e = Unmet scope_below (scope_broken (reserved c.names)) (asked_at (condition (root c)) seed) path e

unfoldable pub scoping_part : Contents → Set → List Finding
scoping_part c seed = found scope_below (scope_broken (reserved c.names)) (asked_at (condition (root c)) seed)
