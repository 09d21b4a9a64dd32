-- From a place of a sane tree every walk goes on to places of a sane tree, and what is broken there stands at nodes and names of the record. Assumes nothing.
use mathlib.Core.Bool.{Bool, true, false, ◌||◌}
use mathlib.Core.List.{List, [], ◌∷◌}
use Prim.Native.Nat.{ℕ, ◌<◌}
use native.Mathlib.Omega.{arith}
use Rattle.paper.specs.declared.NodeNo.{NodeNo}
use Rattle.paper.specs.declared.Slot.TheVariants as slot
use Rattle.paper.specs.Record.{pick}
use Rattle.paper.specs.Sets.{Set, none}
use Rattle.paper.specs.Tree.{Binders}
use Rattle.paper.specs.Tree.Condition.{And, Or, Not, Past, Since, Exists, Comparison, Predicate, Refine, Tp, Opaque}
use Rattle.paper.specs.Tree.Term.{Var, Wildcard, Value, Sigil, Array, Arith, Sum, Count, AggregateCall}
use Rattle.paper.specs.Tree.Arguments.{no_argument, argument}
use Rattle.paper.specs.Tree.Items.{no_item, item}
use Rattle.paper.specs.Tree.Binders.{no_binder, binder}
use Rattle.paper.specs.FreeAndRestricted.{is_sigil}
use Rattle.paper.specs.Places.{Spot, condition, operand, searched, searched_arguments, searched_items, Place, Cell, Broken, itself, for_names, at_cells}
use Rattle.paper.specs.Scoping.{binder_sigil, cell_of, cells, scope_below, scope_broken}
use Rattle.paper.specs.Demands.{demand_below, demand_broken}
use Rattle.paper.proofs.Equalities.{broken_cases}
use Rattle.paper.proofs.Walks.{All}
use Rattle.paper.proofs.Exact.{at}
use Rattle.paper.proofs.Sane.{Sane, SaneTerm, SaneArguments, SaneItems, SaneBinders}

module _ (N M : ℕ) where
  abbrev SaneSpot : Spot → Type 0
  SaneSpot (condition c) = Sane N M c
  SaneSpot (operand t) = SaneTerm N M t
  SaneSpot (searched t) = SaneTerm N M t
  SaneSpot (searched_arguments l) = SaneArguments N M l
  SaneSpot (searched_items l) = SaneItems N M l

  abbrev pub SanePlace : Place → Type 0
  SanePlace p = SaneSpot p.spot

  abbrev pub SaneCell : Cell → Type 0
  SaneCell c = (c.node.0 < N) × (c.name.0 < M)

  -- its rule is one byte, and it stands at nodes of the record
  abbrev pub SaneBroken : Broken → Type 0
  SaneBroken (itself r n) = (r < 256) × (n.0 < N)
  SaneBroken (for_names r n s) = (r < 256) × (n.0 < N)
  SaneBroken (at_cells r s cs) = (r < 256) × All SaneCell cs

  -- what is broken at a place, and what lies below it
  abbrev BothSane : List Broken → List Place → Type 0
  BothSane broken below = All SaneBroken broken × All SanePlace below

  cells_sane : (l : Binders) → SaneBinders N M l → All SaneCell (cells l)
  unfolding cells cell_of
  cells_sane (no_binder n) h = tt
  cells_sane (binder n (slot.Name x) y l) h = ((h.0, h.1.0), cells_sane l h.2)
  cells_sane (binder n (slot.Param k) y l) h = cells_sane l h.2
  cells_sane (binder n (slot.Binder k) y l) h = cells_sane l h.2

  -- the rules of an aggregate, for whatever names
  aggregate_sane : (skipped : Bool) (n : NodeNo) (l : Binders) (a b c d e : Set) (below : List Place) → n.0 < N → SaneBinders N M l → All SanePlace below
      → BothSane
      (pick skipped [] (at_cells 22 a (cells l) ∷ for_names 24 n b ∷ for_names 25 n c ∷ at_cells 26 d (cells l) ∷ at_cells 27 e (cells l) ∷ []))
      (pick skipped [] below)
  aggregate_sane true n l a b c d e below h k under = (tt, tt)
  aggregate_sane false n l a b c d e below h k under =
      let cs = cells_sane l k in
      (((omega arith, cs), ((omega arith, h), ((omega arith, h), ((omega arith, cs), ((omega arith, cs), tt))))), under)

  -- ---- scoping

  scope_sane : (words : Set) (s : Spot) (n : Set) (a : Bool) → SaneSpot s → BothSane (scope_broken words (at s n a)) (scope_below (at s n a))
  unfolding scope_broken scope_below
  scope_sane words (condition (And n l r)) s a h = (tt, (h.1, (h.2, tt)))
  scope_sane words (condition (Or n l r)) s a h = (tt, (h.1, (h.2, tt)))
  scope_sane words (condition (Not n b)) s a h = (tt, (h.1, tt))
  scope_sane words (condition (Past n k b w)) s a h = (tt, (h.1, tt))
  scope_sane words (condition (Since n l r w)) s a h = (tt, (h.1, (h.2, tt)))
  scope_sane words (condition (Exists n v y b)) s a h = (((omega arith, h.0), ((omega arith, h.0), tt)), (h.2, tt))
  scope_sane words (condition (Comparison n o l r)) s a h = (tt, (h.1, (h.2, tt)))
  scope_sane words (condition (Predicate n y l)) s a h = (tt, (h.1, tt))
  scope_sane words (condition (Refine n b l)) s a h = (tt, (h.1, tt))
  scope_sane words (condition (Tp n v)) s a h = (((omega arith, h.0), tt), tt)
  scope_sane words (condition (Opaque n k y)) s a h = (tt, tt)
  scope_sane words (operand (Var n x)) s a h = (tt, tt)
  scope_sane words (operand (Wildcard n)) s a h = (tt, tt)
  scope_sane words (operand (Value n k y)) s a h = (tt, tt)
  scope_sane words (operand (Sigil n k i)) s a h = (tt, tt)
  scope_sane words (operand (Array n l)) s a h = (tt, (h.1, tt))
  scope_sane words (operand (Arith n o l r)) s a h = (tt, (h.1, (h.2, tt)))
  scope_sane words (operand (Sum n v l b)) s a h = aggregate_sane (is_sigil v || binder_sigil l) n l _ _ _ _ _ _ h.0 h.2 (h.3, tt)
  scope_sane words (operand (Count n l b)) s a h = aggregate_sane (false || binder_sigil l) n l _ _ _ _ _ _ h.0 h.1 (h.2, tt)
  scope_sane words (operand (AggregateCall n y)) s a h = (tt, tt)
  scope_sane words (searched (Var n x)) s a h = (tt, tt)
  scope_sane words (searched (Wildcard n)) s a h = (tt, tt)
  scope_sane words (searched (Value n k y)) s a h = (tt, tt)
  scope_sane words (searched (Sigil n k i)) s a h = (tt, tt)
  scope_sane words (searched (Array n l)) s a h = (tt, (h.1, tt))
  scope_sane words (searched (Arith n o l r)) s a h = (((omega arith, h.0), tt), tt)
  scope_sane words (searched (Sum n v l b)) s a h = (((omega arith, h.0), tt), tt)
  scope_sane words (searched (Count n l b)) s a h = (((omega arith, h.0), tt), tt)
  scope_sane words (searched (AggregateCall n y)) s a h = (((omega arith, h), tt), tt)
  scope_sane words (searched_arguments (no_argument n)) s a h = (tt, tt)
  scope_sane words (searched_arguments (argument n f t l)) s a h = (tt, (h.1, (h.2, tt)))
  scope_sane words (searched_items (no_item n)) s a h = (tt, tt)
  scope_sane words (searched_items (item n t l)) s a h = (tt, (h.1, (h.2, tt)))

  -- ---- demands

  asked_sane : (s : Spot) (n : Set) → SaneSpot s → BothSane (demand_broken (at s n true)) (demand_below (at s n true))
  unfolding demand_broken demand_below
  asked_sane (condition (And n l r)) s h = (tt, (h.1, (h.2, tt)))
  asked_sane (condition (Or n l r)) s h = (tt, (h.1, (h.2, tt)))
  asked_sane (condition (Not n b)) s h = (((omega arith, h.0), tt), (h.1, tt))
  asked_sane (condition (Past n k b w)) s h = (tt, (h.1, tt))
  asked_sane (condition (Since n l r w)) s h = (((omega arith, h.0), tt), (h.1, (h.2, tt)))
  asked_sane (condition (Exists n v y b)) s h = (tt, (h.2, tt))
  asked_sane (condition (Comparison n o l r)) s h = ((broken_cases SaneBroken n o l r s (omega arith, h.0) (omega arith, h.0) (omega arith, h.0), tt), (h.1, (h.2, tt)))
  asked_sane (condition (Predicate n y l)) s h = (tt, tt)
  asked_sane (condition (Refine n b l)) s h = (tt, (h.1, tt))
  asked_sane (condition (Tp n v)) s h = (tt, tt)
  asked_sane (condition (Opaque n k y)) s h = (tt, tt)
  asked_sane (operand (Var n x)) s h = (tt, tt)
  asked_sane (operand (Wildcard n)) s h = (tt, tt)
  asked_sane (operand (Value n k y)) s h = (tt, tt)
  asked_sane (operand (Sigil n k i)) s h = (tt, tt)
  asked_sane (operand (Array n l)) s h = (tt, tt)
  asked_sane (operand (Arith n o l r)) s h = (tt, (h.1, (h.2, tt)))
  asked_sane (operand (Sum n v l b)) s h = (tt, (h.3, tt))
  asked_sane (operand (Count n l b)) s h = (tt, (h.2, tt))
  asked_sane (operand (AggregateCall n y)) s h = (tt, tt)
  asked_sane (searched t) s h = (tt, tt)
  asked_sane (searched_arguments l) s h = (tt, tt)
  asked_sane (searched_items l) s h = (tt, tt)

  demand_sane : (s : Spot) (n : Set) (a : Bool) → SaneSpot s → BothSane (demand_broken (at s n a)) (demand_below (at s n a))
  unfolding demand_broken demand_below
  demand_sane s n true h = asked_sane s n h
  demand_sane s n false h = (tt, (asked_sane s n h).1)

  pub scope_broken_sane : (words : Set) (p : Place) → SanePlace p → All SaneBroken (scope_broken words p)
  scope_broken_sane words p h = (scope_sane words p.spot p.names p.asked h).0

  pub scope_below_sane : (p : Place) → SanePlace p → All SanePlace (scope_below p)
  scope_below_sane p h = (scope_sane none p.spot p.names p.asked h).1

  pub demand_broken_sane : (p : Place) → SanePlace p → All SaneBroken (demand_broken p)
  demand_broken_sane p h = (demand_sane p.spot p.names p.asked h).0

  pub demand_below_sane : (p : Place) → SanePlace p → All SanePlace (demand_below p)
  demand_below_sane p h = (demand_sane p.spot p.names p.asked h).1
