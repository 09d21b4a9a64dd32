-- How long an accepted record's list can be, by how many nodes and names the record has:
--     list_bounded    3 entries for each node, one of each name for each node, and one of each name for 28
-- The two walks are counted together, since no node has entries of both. An aggregate, a comparison, Not and Since have each free name once at most, an aggregate
-- one entry more, and every other node, also a binder cell, has 3 at most. Assumes nothing.
use mathlib.Core.Path.{◌≡◌, refl, ap, ap₂, ◌∙◌}
use mathlib.Core.Bool.{Bool, true, false, ◌&&◌, ◌||◌, cond}
use mathlib.Core.List.{List, [], ◌∷◌, ◌++◌}
use Prim.Native.Nat.{ℕ, zero, suc, ◌+◌, ◌-◌, ◌*◌, ◌<◌, ◌≤◌}
use native.Mathlib.Omega.{arith}
use native.Mathlib.Nat.{mul_comm, mul-add}
use lib.ListN.{length, length-append, length-map}
use borrow.Author.Tests.{eqb-true, ltb-true}
use Rattle.paper.specs.declared.NodeNo.{NodeNo}
use Rattle.paper.specs.declared.Slot.{Slot}
use Rattle.paper.specs.declared.Slot.TheVariants as slot
use Rattle.paper.specs.declared.Finding.{Finding}
use Rattle.paper.specs.Record.{pick}
use Rattle.paper.specs.Sets.{Set, none, only, ◌∪◌, ◌∩◌, ◌∖◌, below, outside, members}
use Rattle.paper.specs.TurnedAway.{Contents}
use Rattle.paper.specs.Tree.{Condition, Term, Arguments, Items, Binders, root_no, root}
use Rattle.paper.specs.Tree.Condition.{And, Or, Not, Past, Since, Exists, Comparison, Predicate, Refine, Tp, Opaque}
use Rattle.paper.specs.Tree.Term.{Var, Wildcard, Value, Sigil, Array, Arith, Sum, Count, AggregateCall}
use Rattle.paper.specs.Tree.Arguments.{no_argument, argument}
use Rattle.paper.specs.Tree.Items.{no_item, item}
use Rattle.paper.specs.Tree.Binders.{no_binder, binder}
use Rattle.paper.specs.FreeAndRestricted.{named, is_sigil, binder_names, free, term_free, restricted, holds_sigil}
use Rattle.paper.specs.Places.{Spot, condition, operand, searched, searched_arguments, searched_items, Place, asked_at}
use Rattle.paper.specs.Places.{Cell, Broken, for_names, at_cells, gather, at_cell, findings, found}
use Rattle.paper.specs.Scoping.{reserved, binder_sigil, cell_of, cells, scope_below, scope_broken, aggregate_rules, scoping_part}
use Rattle.paper.specs.Demands.{closedness_broken, closedness_part, comparison_broken, demand_below, demand_broken, demands_part}
use Rattle.paper.specs.TheList.{the_list}
use Rattle.paper.proofs.Equalities.{broken_cases}
use Rattle.paper.proofs.RestrictedFree.{Within, none_within, both_within, minus_within}
use Rattle.paper.proofs.Walks.{picked, All, extent, found_at}
use Rattle.paper.proofs.Exact.{at, extent_pos, scope_shrinks, demand_shrinks}
use Rattle.paper.proofs.Weights.{weigh, weigh_term, weigh_arguments, weigh_items, weigh_binders}
use Rattle.paper.proofs.Forests.{sum_same}
use Rattle.paper.proofs.WellFormed.{WellFormed}
use Rattle.paper.proofs.Sane.{Sane, SaneTerm, sane_root}
use Rattle.paper.proofs.Seed.{free_within, term_within}

-- ---- few names

-- a set whose numbers are m in a row, from `from` on, has no more than m members
few_members : (a : Set) (from m : ℕ) → ((k : ℕ) → a k ≡ true → (from ≤ k) × (k < from + m)) → (n : ℕ)
    → (length (members a n) ≤ m) × (length (members a n) ≤ n - from)
unfolding members
few_members a from m f zero = (omega arith, omega arith)
few_members a from m f (suc n) = go (a n) refl (few_members a from m f n)
  where
    go : (t : Bool) → a n ≡ t → (length (members a n) ≤ m) × (length (members a n) ≤ n - from)
        → (length (members a n ++ cond t (n ∷ []) []) ≤ m) × (length (members a n ++ cond t (n ∷ []) []) ≤ suc n - from)
    go true e h = let l = length-append (members a n) (n ∷ []) in let r = f n e in (omega arith, omega arith)
    go false e h = let l = length-append (members a n) [] in (omega arith, omega arith)

-- how many entries a broken rule gives
entries : Broken → ℕ
entries b = length (findings b)

-- for names of the table: no more than the table has
tabled_most : (N rule : ℕ) (n : NodeNo) (a : Set) → Within a (below N) → entries (for_names rule n a) ≤ N
unfolding entries findings below
tabled_most N rule n a f = rw (length-map (members a 128) _) (few_members a 0 N (λ k e. let l = ltb-true k N (f k e) in (omega arith, omega arith)) 128).0

-- nor more with some of them left out
less_most : (N rule : ℕ) (n : NodeNo) (a b : Set) → Within a (below N) → entries (for_names rule n (a ∖ b)) ≤ N
less_most N rule n a b f = tabled_most N rule n (a ∖ b) (minus_within a (below N) b f)

-- for the name of a slot: one
slot_most : (rule : ℕ) (n : NodeNo) (s : Slot) (a : Set) → Within a (named s) → entries (for_names rule n a) ≤ 1
unfolding entries findings named only
slot_most rule n (slot.Name x) a f =
    rw (length-map (members a 128) _) (few_members a x.0 1 (λ k e. let d : k ≡ x.0 = eqb-true k x.0 (f k e) in (omega arith, omega arith)) 128).0
slot_most rule n (slot.Param i) a f = tabled_most 1 rule n a (λ k e. none_within (below 1) k (f k e))
slot_most rule n (slot.Binder i) a f = tabled_most 1 rule n a (λ k e. none_within (below 1) k (f k e))

meet_within : (a b : Set) → Within (a ∩ b) a
unfolding ◌∩◌
meet_within a b k e = go (a k) e
  where
    go : (x : Bool) → (x && b k) ≡ true → x ≡ true
    go true d = refl
    go false d = d

-- for binder cells: one each
cells_most : (rule : ℕ) (a : Set) (cs : List Cell) → entries (at_cells rule a cs) ≤ length cs
unfolding entries findings gather at_cell
cells_most rule a [] = omega arith
cells_most rule a (c ∷ cs) =
    let one : length (at_cell rule a c) ≤ 1 = picked (λ (l : List Finding). length l ≤ 1) (a c.name.0) _ [] (omega arith) (omega arith) in
    omega (arith, length-append (at_cell rule a c) (gather (at_cell rule a) cs), cells_most rule a cs)

-- ---- a step of a walk

abbrev add_up : {A : Type 0} → (A → ℕ) → List A → ℕ
add_up f [] = 0
add_up f (a ∷ l) = f a + add_up f l

gather_length : {A : Type 0} (f : A → List Finding) (l : List A) → length (gather f l) ≡ add_up (λ a. length (f a)) l
unfolding gather
gather_length f [] = refl
gather_length f (a ∷ l) = length-append (f a) (gather f l) ∙ ap (λ (n : ℕ). length (f a) + n) (gather_length f l)

-- how many entries a walk finds from a place on
module _ (under : Place → List Place) (broken : Place → List Broken) where
  unfoldable count : Place → ℕ
  count p = length (found under broken p)

  count_step : ((p : Place) → All (λ q. extent q < extent p) (under p)) → (p : Place) → count p ≡ add_up entries (broken p) + add_up count (under p)
  unfolding count entries
  count_step shrinks p =
      ap length (found_at under broken extent_pos shrinks p) ∙ length-append (gather findings (broken p)) (gather (found under broken) (under p))
      ∙ ap₂ ◌+◌ (gather_length findings (broken p)) (gather_length (found under broken) (under p))

-- of demands, where what is not asked breaks nothing
abbrev owed : Place → ℕ
owed p = count demand_below demand_broken p

owed_step : (s : Spot) (ties : Set) (asked : Bool)
    → owed (at s ties asked) ≤ add_up entries (demand_broken (asked_at s ties)) + add_up owed (demand_below (asked_at s ties))
unfolding demand_below demand_broken
owed_step s ties true = omega (arith, count_step demand_below demand_broken demand_shrinks (at s ties true))
owed_step s ties false = omega (arith, count_step demand_below demand_broken demand_shrinks (at s ties false))

module _ (N : ℕ) (words : Set) where
  abbrev scoped : Place → ℕ
  scoped p = count scope_below (scope_broken words) p

  -- room for each node
  abbrev room : ℕ → ℕ
  room k = 3 + N

  -- ---- what is only searched, which demands do not reach

  searched_by : (s : Spot) (weight : ℕ)
      → ((scope : Set) → add_up entries (scope_broken words (asked_at s scope)) + add_up scoped (scope_below (asked_at s scope)) ≤ weight) → (scope : Set)
      → scoped (asked_at s scope) ≤ weight
  searched_by s weight f scope = omega (arith, count_step scope_below (scope_broken words) scope_shrinks (asked_at s scope), f scope)

  mutual
    unfolding scope_below scope_broken weigh entries findings

    searched_fits : (t : Term) (scope : Set) → scoped (asked_at (searched t) scope) ≤ weigh_term t room
    searched_fits (Var n x) = searched_by _ _ (λ s. omega arith)
    searched_fits (Wildcard n) = searched_by _ _ (λ s. omega arith)
    searched_fits (Value n k y) = searched_by _ _ (λ s. omega arith)
    searched_fits (Sigil n k i) = searched_by _ _ (λ s. omega arith)
    searched_fits (Array n l) = searched_by _ _ (λ s. omega (arith, items_fit l s))
    searched_fits (Arith n o l r) = searched_by _ _ (λ s. omega arith)
    searched_fits (Sum n v l b) = searched_by _ _ (λ s. omega arith)
    searched_fits (Count n l b) = searched_by _ _ (λ s. omega arith)
    searched_fits (AggregateCall n y) = searched_by _ _ (λ s. omega arith)

    items_fit : (l : Items) (scope : Set) → scoped (asked_at (searched_items l) scope) ≤ weigh_items l room
    items_fit (no_item n) = searched_by _ _ (λ s. omega arith)
    items_fit (item n t l) = searched_by _ _ (λ s. omega (arith, searched_fits t s, items_fit l s))

  arguments_fit : (l : Arguments) (scope : Set) → scoped (asked_at (searched_arguments l) scope) ≤ weigh_arguments l room
  unfolding scope_below scope_broken weigh
  arguments_fit (no_argument n) = searched_by _ _ (λ s. omega arith)
  arguments_fit (argument n f t l) = searched_by _ _ (λ s. omega (arith, searched_fits t s, arguments_fit l s))

  -- ---- both walks

  both_by : (s : Spot) (weight : ℕ)
      → ((scope ties : Set)
      → (add_up entries (scope_broken words (asked_at s scope)) + add_up scoped (scope_below (asked_at s scope)))
      + (add_up entries (demand_broken (asked_at s ties)) + add_up owed (demand_below (asked_at s ties)))
      ≤ weight)
      → (scope ties : Set) (asked : Bool) → scoped (asked_at s scope) + owed (at s ties asked) ≤ weight
  both_by s weight f scope ties asked =
      omega (arith, count_step scope_below (scope_broken words) scope_shrinks (asked_at s scope), owed_step s ties asked, f scope ties)

  binders_fit : (l : Binders) → 3 * length (cells l) ≤ weigh_binders l room
  unfolding cells cell_of weigh
  binders_fit (no_binder n) = omega arith
  binders_fit (binder n (slot.Name x) y l) = omega (arith, binders_fit l)
  binders_fit (binder n (slot.Param k) y l) = omega (arith, binders_fit l)
  binders_fit (binder n (slot.Binder k) y l) = omega (arith, binders_fit l)

  -- what is broken at an aggregate, if it is not skipped, and what scoping finds below it
  aggregate_fits : (skipped : Bool) (n : NodeNo) (summed : Set) (l : Binders) (b : Condition) (scope inner : Set) → Sane 512 N b
      → entries (for_names 24 n (summed ∖ binder_names l)) ≤ 1
      → add_up entries (pick skipped [] (aggregate_rules words n summed l b scope)) + add_up scoped (pick skipped [] (asked_at (condition b) inner ∷ []))
      ≤ 3 + N + weigh_binders l room + scoped (asked_at (condition b) inner)
  aggregate_fits true n summed l b scope inner h one = omega arith
  aggregate_fits false n summed l b scope inner h one =
      omega (
        arith,
        binders_fit l,
        cells_most 22 words (cells l),
        less_most N 25 n (free b) (scope ∪ binder_names l) (free_within 512 N b h),
        cells_most 26 (outside (free b)) (cells l),
        cells_most 27 (outside (restricted b)) (cells l),
      )

  comparison_fits : (n : NodeNo) (o : ℕ) (l r : Term) (ties : Set) → SaneTerm 512 N l → SaneTerm 512 N r → entries (comparison_broken n o l r ties) ≤ N
  comparison_fits n o l r ties g h =
      broken_cases (λ b. entries b ≤ N) n o l r ties (less_most N 30 n (term_free r) ties (term_within 512 N r h)) (less_most N 30 n (term_free l) ties (term_within 512 N l g))
      (less_most N 31 n (term_free l ∪ term_free r) ties (both_within (term_free l) (term_free r) _ (term_within 512 N l g) (term_within 512 N r h)))

  mutual
    unfolding scope_below scope_broken demand_below demand_broken weigh

    both_fit : (k : Condition) → Sane 512 N k → (scope ties : Set) (asked : Bool)
        → scoped (asked_at (condition k) scope) + owed (at (condition k) ties asked) ≤ weigh k room
    both_fit (And n l r) h = both_by _ _ (λ s t. omega (arith, both_fit l h.1 s t true, both_fit r h.2 s (t ∪ restricted l) true))
    both_fit (Or n l r) h = both_by _ _ (λ s t. omega (arith, both_fit l h.1 s t true, both_fit r h.2 s t true))
    both_fit (Not n b) h = both_by _ _ (λ s t. omega (arith, less_most N 31 n (free b) t (free_within 512 N b h.1), both_fit b h.1 s t false))
    both_fit (Past n k b w) h = both_by _ _ (λ s t. omega (arith, both_fit b h.1 s t true))
    both_fit (Since n l r w) h =
        both_by _ _
        (λ s t.
        omega (
          arith,
          less_most N 32 n (free l) (t ∪ restricted r) (free_within 512 N l h.1),
          both_fit l h.1 s (t ∪ restricted r) true,
          both_fit r h.2 s t true,
        ))
    both_fit (Exists n v y b) h =
        both_by _ _
        (λ s t.
        omega (
          arith,
          slot_most 22 n v (named v ∩ words) (meet_within (named v) words),
          slot_most 23 n v (pick (holds_sigil b) none (named v ∖ restricted b))
              (picked (λ (a : Set). Within a (named v)) (holds_sigil b) none (named v ∖ restricted b) (none_within (named v))
              (minus_within (named v) (named v) (restricted b) (λ k e. e))),
          both_fit b h.2 (s ∪ named v) (t ∖ named v) true,
        ))
    both_fit (Comparison n o l r) h =
        both_by _ _
        (λ s t. omega (arith, comparison_fits n o l r t h.1 h.2, operand_fits l h.1 s t true, operand_fits r h.2 s t true))
    both_fit (Predicate n a l) h = both_by _ _ (λ s t. omega (arith, arguments_fit l s))
    both_fit (Refine n b l) h = both_by _ _ (λ s t. omega (arith, both_fit b h.1 s t false))
    both_fit (Tp n v) h = both_by _ _ (λ s t. omega (arith, slot_most 22 n v (named v ∩ words) (meet_within (named v) words)))
    both_fit (Opaque n k y) h = both_by _ _ (λ s t. omega arith)

    operand_fits : (x : Term) → SaneTerm 512 N x → (scope ties : Set) (asked : Bool)
        → scoped (asked_at (operand x) scope) + owed (at (operand x) ties asked) ≤ weigh_term x room
    operand_fits (Var n x) h = both_by _ _ (λ s t. omega arith)
    operand_fits (Wildcard n) h = both_by _ _ (λ s t. omega arith)
    operand_fits (Value n k y) h = both_by _ _ (λ s t. omega arith)
    operand_fits (Sigil n k i) h = both_by _ _ (λ s t. omega arith)
    operand_fits (Array n l) h = both_by _ _ (λ s t. omega (arith, items_fit l s))
    operand_fits (Arith n o l r) h = both_by _ _ (λ s t. omega (arith, operand_fits l h.1 s t true, operand_fits r h.2 s t true))
    operand_fits (Sum n v l b) h =
        both_by _ _
        (λ s t.
        omega (
          arith,
          aggregate_fits (is_sigil v || binder_sigil l) n (named v) l b s (s ∪ binder_names l) h.3
              (slot_most 24 n v (named v ∖ binder_names l) (minus_within (named v) (named v) (binder_names l) (λ k e. e))),
          both_fit b h.3 (s ∪ binder_names l) (t ∖ binder_names l) true,
        ))
    operand_fits (Count n l b) h =
        both_by _ _
        (λ s t.
        omega (
          arith,
          aggregate_fits (false || binder_sigil l) n none l b s (s ∪ binder_names l) h.2
              (less_most 1 24 n none (binder_names l) (none_within (below 1))),
          both_fit b h.2 (s ∪ binder_names l) (t ∖ binder_names l) true,
        ))
    operand_fits (AggregateCall n y) h = both_by _ _ (λ s t. omega arith)

-- ---- the list

pub closedness_most : (c : Contents) → WellFormed c → length (closedness_part c) ≤ length c.names
unfolding closedness_part closedness_broken entries
closedness_most c f = tabled_most (length c.names) 28 (root_no c) (free (root c)) (free_within 512 (length c.names) (root c) (sane_root c f))

-- scoping, with any seed, and demands together
pub parts_fit : (c : Contents) → WellFormed c → (seed : Set)
    → length (scoping_part c seed) + length (demands_part c) ≤ length c.nodes * (3 + length c.names)
unfolding scoping_part demands_part count
parts_fit c f seed =
    let N = length c.names in
    let words = reserved c.names in
    let asked = found demand_below demand_broken (asked_at (condition (root c)) none) in
    let fewer : length (pick (holds_sigil (root c)) [] asked) ≤ length asked =
    picked (λ (l : List Finding). length l ≤ length asked) (holds_sigil (root c)) [] asked (omega arith) (omega arith) in
    omega (arith, both_fit N words (root c) (sane_root c f) seed none true, f.whole (λ k. 3 + N), sum_same (3 + N) (length c.nodes))

pub list_bounded : (c : Contents) → WellFormed c → length (the_list c) ≤ 3 * length c.nodes + length c.names * (length c.nodes + 1)
unfolding the_list
list_bounded c f =
    let N = length c.names in
    let n = length c.nodes in
    omega (
      arith,
      length-append (scoping_part c none) (closedness_part c ++ demands_part c),
      length-append (closedness_part c) (demands_part c),
      parts_fit c f none,
      closedness_most c f,
      mul-add n 3 N,
      mul-add N n 1,
      mul_comm n N,
    )
