-- How much the parts of a record's list come to, by any count that adds up over a list: no more than the record's nodes weigh together, where a node weighs what
-- can be found at it. The list is counted by its length (Lengths.antt), and by how often one number stands in it (Once.antt). Assumes nothing.
use mathlib.Core.Path.{◌≡◌, subst}
use mathlib.Core.Bool.{Bool, true, false, ◌||◌}
use mathlib.Core.List.{List, [], ◌∷◌, ◌++◌}
use Prim.Native.Nat.{ℕ, ◌+◌, ◌<◌, ◌≤◌}
use native.Mathlib.Omega.{arith}
use lib.ListN.{length}
use Rattle.paper.specs.declared.NodeNo.{NodeNo}
use Rattle.paper.specs.declared.Slot.TheVariants as slot
use Rattle.paper.specs.declared.Finding.{Finding}
use Rattle.paper.specs.Record.{pick}
use Rattle.paper.specs.Sets.{Set, none}
use Rattle.paper.specs.TurnedAway.{Contents}
use Rattle.paper.specs.Tree.{Condition, Term, Binders, root}
use Rattle.paper.specs.Tree.Condition.{And, Or, Not, Past, Since, Exists, Comparison, Predicate, Refine, Tp, Opaque}
use Rattle.paper.specs.Tree.Term.{Var, Wildcard, Value, Sigil, Array, Arith, Sum, Count, AggregateCall}
use Rattle.paper.specs.Tree.Arguments.{no_argument, argument}
use Rattle.paper.specs.Tree.Items.{no_item, item}
use Rattle.paper.specs.Tree.Binders.{no_binder, binder}
use Rattle.paper.specs.FreeAndRestricted.{is_sigil, holds_sigil}
use Rattle.paper.specs.Places.{Spot, condition, operand, searched, searched_arguments, searched_items, Place, asked_at}
use Rattle.paper.specs.Places.{Cell, Broken, itself, for_names, at_cells, gather, at_cell, findings, found}
use Rattle.paper.specs.Scoping.{reserved, binder_sigil, cell_of, cells, scope_below, scope_broken, scoping_part}
use Rattle.paper.specs.Demands.{comparison_broken, demand_below, demand_broken, demands_part}
use Rattle.paper.proofs.Equalities.{broken_cases}
use Rattle.paper.proofs.Walks.{picked, All, all_map, extent, found_by}
use Rattle.paper.proofs.Exact.{at, extent_pos, scope_shrinks, demand_shrinks}
use Rattle.paper.proofs.Weights.{weigh, weigh_term, weigh_arguments, weigh_items, weigh_binders}
use Rattle.paper.proofs.Forests.{sum}
use Rattle.paper.proofs.WellFormed.{WellFormed}
use Rattle.paper.proofs.Sane.{sane_any}
use Rattle.paper.proofs.SanePlaces.{SanePlace, SaneCell, SaneBroken, scope_broken_sane, scope_below_sane, demand_broken_sane, demand_below_sane}

abbrev weigh_spot : Spot → (ℕ → ℕ) → ℕ
weigh_spot (condition c) w = weigh c w
weigh_spot (operand t) w = weigh_term t w
weigh_spot (searched t) w = weigh_term t w
weigh_spot (searched_arguments l) w = weigh_arguments l w
weigh_spot (searched_items l) w = weigh_items l w

-- a count of findings, with the most that a rule can come to at a node and at a binder cell
pub record Tally : Type 0 where
  pub of : List Finding → ℕ
  pub of_none : of [] ≡ 0
  pub of_both : (a b : List Finding) → of (a ++ b) ≡ of a + of b
  pub most : ℕ → ℕ → ℕ
  pub most_at_cell : ℕ → ℕ → ℕ
  pub itself_most : (rule : ℕ) (n : NodeNo) → of (findings (itself rule n)) ≤ most rule n.0
  pub names_most : (rule : ℕ) (n : NodeNo) (s : Set) → of (findings (for_names rule n s)) ≤ most rule n.0
  pub cell_most : (rule : ℕ) (s : Set) (c : Cell) → c.name.0 < 128 → of (at_cell rule s c) ≤ most_at_cell rule c.node.0

abbrev add_up : {A : Type 0} → (A → ℕ) → List A → ℕ
add_up f [] = 0
add_up f (a ∷ l) = f a + add_up f l

module _ (t : Tally) where
  gather_tally : {A : Type 0} (f : A → List Finding) (bound : A → ℕ) (l : List A) → All (λ a. t.of (f a) ≤ bound a) l → t.of (gather f l) ≤ add_up bound l
  unfolding gather
  gather_tally f bound [] h = omega (arith, t.of_none)
  gather_tally f bound (a ∷ l) h = omega (arith, t.of_both (f a) (gather f l), h.0, gather_tally f bound l h.1)

  abbrev cells_most : ℕ → List Cell → ℕ
  cells_most rule cs = add_up (λ c. t.most_at_cell rule c.node.0) cs

  abbrev broken_most : Broken → ℕ
  broken_most (itself rule n) = t.most rule n.0
  broken_most (for_names rule n s) = t.most rule n.0
  broken_most (at_cells rule s cs) = cells_most rule cs

  broken_tally : (b : Broken) → SaneBroken 512 128 b → t.of (findings b) ≤ broken_most b
  unfolding findings
  broken_tally (itself rule n) h = t.itself_most rule n
  broken_tally (for_names rule n s) h = t.names_most rule n s
  broken_tally (at_cells rule s cs) h =
      gather_tally (at_cell rule s) (λ c. t.most_at_cell rule c.node.0) cs (all_map (λ c (k : SaneCell 512 128 c). t.cell_most rule s c k.1) cs h.1)

  -- ---- a walk

  module _ (w : ℕ → ℕ) where
    abbrev load : Place → ℕ
    load p = weigh_spot p.spot w

    -- what can be found at a place leaves room for what weighs below it
    abbrev Room : List Broken → List Place → ℕ → Type 0
    Room broken below weight = add_up broken_most broken + add_up load below ≤ weight

    found_tally : (below : Place → List Place) (broken : Place → List Broken) → ((p : Place) → All (λ q. extent q < extent p) (below p))
        → ((p : Place) → SanePlace 512 128 p → All (SanePlace 512 128) (below p)) → ((p : Place) → SanePlace 512 128 p → All (SaneBroken 512 128) (broken p))
        → ((p : Place) → Room (broken p) (below p) (load p)) → (p : Place) → SanePlace 512 128 p → t.of (found below broken p) ≤ load p
    found_tally below broken shrinks goes_down sane room =
        found_by below broken extent_pos shrinks (SanePlace 512 128) goes_down (λ p l. t.of l ≤ load p)
        (λ p h a.
        omega (
          arith,
          t.of_both (gather findings (broken p)) (gather (found below broken) (below p)),
          gather_tally findings broken_most (broken p) (all_map broken_tally (broken p) (sane p h)),
          gather_tally (found below broken) load (below p) a,
          room p,
        ))

    -- ---- scoping

    -- a node weighs what can be found at it, whatever stands there: a term that is searched, exists or tp, an aggregate, a binder cell
    abbrev pub ScopeCovers : Type 0
    ScopeCovers =
        (k : ℕ)
        → (t.most 20 k ≤ w k) × (t.most 21 k ≤ w k) × (t.most 22 k + t.most 23 k ≤ w k) × (t.most 24 k + t.most 25 k ≤ w k)
        × (t.most_at_cell 22 k + t.most_at_cell 26 k + t.most_at_cell 27 k ≤ w k)

    module _ (covers : ScopeCovers) where
      binders_room : (l : Binders) → cells_most 22 (cells l) + cells_most 26 (cells l) + cells_most 27 (cells l) ≤ weigh_binders l w
      unfolding cells cell_of weigh
      binders_room (no_binder n) = omega arith
      binders_room (binder n (slot.Name x) y l) = omega (arith, (covers n.0).4, binders_room l)
      binders_room (binder n (slot.Param k) y l) = omega (arith, binders_room l)
      binders_room (binder n (slot.Binder k) y l) = omega (arith, binders_room l)

      aggregate_room : (skipped : Bool) (words summed unbound unfree loose scope : Set) (n : NodeNo) (l : Binders) (b : Condition)
          → Room
          (pick skipped []
          (at_cells 22 words (cells l) ∷ for_names 24 n summed ∷ for_names 25 n unbound ∷ at_cells 26 unfree (cells l) ∷ at_cells 27 loose (cells l) ∷ []))
          (pick skipped [] (asked_at (condition b) scope ∷ [])) (w n.0 + (weigh_binders l w + weigh b w))
      aggregate_room true words summed unbound unfree loose scope n l b = omega arith
      aggregate_room false words summed unbound unfree loose scope n l b = omega (arith, (covers n.0).3, binders_room l)

      scope_room : (words : Set) (s : Spot) (names : Set) (asked : Bool) → Room (scope_broken words (at s names asked)) (scope_below (at s names asked)) (weigh_spot s w)
      unfolding scope_below scope_broken weigh
      scope_room words (condition (And n l r)) s a = omega arith
      scope_room words (condition (Or n l r)) s a = omega arith
      scope_room words (condition (Not n b)) s a = omega arith
      scope_room words (condition (Past n k b x)) s a = omega arith
      scope_room words (condition (Since n l r x)) s a = omega arith
      scope_room words (condition (Exists n v y b)) s a = omega (arith, (covers n.0).2)
      scope_room words (condition (Comparison n o l r)) s a = omega arith
      scope_room words (condition (Predicate n y l)) s a = omega arith
      scope_room words (condition (Refine n b l)) s a = omega arith
      scope_room words (condition (Tp n v)) s a = omega (arith, (covers n.0).2)
      scope_room words (condition (Opaque n k y)) s a = omega arith
      scope_room words (operand (Var n x)) s a = omega arith
      scope_room words (operand (Wildcard n)) s a = omega arith
      scope_room words (operand (Value n k y)) s a = omega arith
      scope_room words (operand (Sigil n k i)) s a = omega arith
      scope_room words (operand (Array n l)) s a = omega arith
      scope_room words (operand (Arith n o l r)) s a = omega arith
      scope_room words (operand (Sum n v l b)) s a = aggregate_room (is_sigil v || binder_sigil l) words _ _ _ _ _ n l b
      scope_room words (operand (Count n l b)) s a = aggregate_room (false || binder_sigil l) words _ _ _ _ _ n l b
      scope_room words (operand (AggregateCall n y)) s a = omega arith
      scope_room words (searched (Var n x)) s a = omega arith
      scope_room words (searched (Wildcard n)) s a = omega arith
      scope_room words (searched (Value n k y)) s a = omega arith
      scope_room words (searched (Sigil n k i)) s a = omega arith
      scope_room words (searched (Array n l)) s a = omega arith
      scope_room words (searched (Arith n o l r)) s a = omega (arith, (covers n.0).1)
      scope_room words (searched (Sum n v l b)) s a = omega (arith, (covers n.0).0)
      scope_room words (searched (Count n l b)) s a = omega (arith, (covers n.0).0)
      scope_room words (searched (AggregateCall n y)) s a = omega (arith, (covers n.0).0)
      scope_room words (searched_arguments (no_argument n)) s a = omega arith
      scope_room words (searched_arguments (argument n f x l)) s a = omega arith
      scope_room words (searched_items (no_item n)) s a = omega arith
      scope_room words (searched_items (item n x l)) s a = omega arith

      pub scoping_tally : (c : Contents) → WellFormed c → (seed : Set) → t.of (scoping_part c seed) ≤ sum w (length c.nodes)
      unfolding scoping_part
      scoping_tally c f seed =
          let words = reserved c.names in
          let start = asked_at (condition (root c)) seed in
          subst (λ (most : ℕ). t.of (found scope_below (scope_broken words) start) ≤ most) (f.whole w)
          (found_tally scope_below (scope_broken words) scope_shrinks (scope_below_sane 512 128) (scope_broken_sane 512 128 words)
          (λ p. scope_room words p.spot p.names p.asked) start (sane_any c f))

    -- ---- demands

    abbrev pub DemandCovers : Type 0
    DemandCovers = (k : ℕ) → (t.most 30 k ≤ w k) × (t.most 31 k ≤ w k) × (t.most 32 k ≤ w k)

    module _ (covers : DemandCovers) where
      comparison_room : (n : NodeNo) (o : ℕ) (l r : Term) (ties : Set) → broken_most (comparison_broken n o l r ties) ≤ w n.0
      comparison_room n o l r ties = broken_cases (λ b. broken_most b ≤ w n.0) n o l r ties (covers n.0).0 (covers n.0).0 (covers n.0).1

      asked_room : (s : Spot) (ties : Set) → Room (demand_broken (asked_at s ties)) (demand_below (asked_at s ties)) (weigh_spot s w)
      unfolding demand_below demand_broken weigh
      asked_room (condition (And n l r)) s = omega arith
      asked_room (condition (Or n l r)) s = omega arith
      asked_room (condition (Not n b)) s = omega (arith, (covers n.0).1)
      asked_room (condition (Past n k b x)) s = omega arith
      asked_room (condition (Since n l r x)) s = omega (arith, (covers n.0).2)
      asked_room (condition (Exists n v y b)) s = omega arith
      asked_room (condition (Comparison n o l r)) s = omega (arith, comparison_room n o l r s)
      asked_room (condition (Predicate n y l)) s = omega arith
      asked_room (condition (Refine n b l)) s = omega arith
      asked_room (condition (Tp n v)) s = omega arith
      asked_room (condition (Opaque n k y)) s = omega arith
      asked_room (operand (Var n x)) s = omega arith
      asked_room (operand (Wildcard n)) s = omega arith
      asked_room (operand (Value n k y)) s = omega arith
      asked_room (operand (Sigil n k i)) s = omega arith
      asked_room (operand (Array n l)) s = omega arith
      asked_room (operand (Arith n o l r)) s = omega arith
      asked_room (operand (Sum n v l b)) s = omega arith
      asked_room (operand (Count n l b)) s = omega arith
      asked_room (operand (AggregateCall n y)) s = omega arith
      asked_room (searched x) s = omega arith
      asked_room (searched_arguments l) s = omega arith
      asked_room (searched_items l) s = omega arith

      -- what is not asked breaks nothing
      demand_room : (s : Spot) (ties : Set) (asked : Bool) → Room (demand_broken (at s ties asked)) (demand_below (at s ties asked)) (weigh_spot s w)
      unfolding demand_below demand_broken
      demand_room s ties true = asked_room s ties
      demand_room s ties false = omega (arith, asked_room s ties)

      pub demands_tally : (c : Contents) → WellFormed c → t.of (demands_part c) ≤ sum w (length c.nodes)
      unfolding demands_part
      demands_tally c f =
          let start = asked_at (condition (root c)) none in
          let asked = found demand_below demand_broken start in
          picked (λ (l : List Finding). t.of l ≤ sum w (length c.nodes)) (holds_sigil (root c)) [] asked (omega (arith, t.of_none))
          (subst (λ (most : ℕ). t.of asked ≤ most) (f.whole w)
          (found_tally demand_below demand_broken demand_shrinks (demand_below_sane 512 128) (demand_broken_sane 512 128)
          (λ p. demand_room p.spot p.names p.asked) start (sane_any c f)))
