-- Each part of the list holds exactly what is unmet by the path definition, each once, in document order, and no other list does. Assumes nothing.
use mathlib.Core.Path.{◌≡◌, refl, sym, ap, ◌∙◌}
use mathlib.Core.Bool.{Bool, true, false, ◌||◌, true≢false}
use mathlib.Core.List.Memᴰ
use mathlib.Core.List.{List, [], ◌∷◌, map, map-map}
use mathlib.Core.Logic.{inr}
use Prim.Native.Nat.{ℕ, suc, ◌<◌, ◌≤◌}
use native.Mathlib.Omega.{arith}
use Rattle.paper.specs.Record.{pick}
use Rattle.paper.specs.Sets.{Set, none}
use Rattle.paper.specs.TurnedAway.{Contents}
use Rattle.paper.specs.Tree.{Condition, Term, Arguments, Items, root, size, term_size, arguments_size, items_size}
use Rattle.paper.specs.Tree.Condition.{And, Or, Not, Past, Since, Exists, Comparison, Predicate, Refine, Tp, Opaque}
use Rattle.paper.specs.Tree.Term.{Var, Wildcard, Value, Sigil, Array, Arith, Sum, Count, AggregateCall}
use Rattle.paper.specs.Tree.Arguments.{no_argument, argument}
use Rattle.paper.specs.Tree.Items.{no_item, item}
use Rattle.paper.specs.FreeAndRestricted.{is_sigil, holds_sigil}
use Rattle.paper.specs.Places.{Spot, condition, operand, searched, searched_arguments, searched_items, Place, asked_at}
use Rattle.paper.specs.Places.{Broken, Unmet, Located, Earlier, Precedes, Exactly, spot_size, found}
use Rattle.paper.specs.Scoping.{reserved, binder_sigil, scope_below, scope_broken, ScopingUnmet, scoping_part}
use Rattle.paper.specs.Demands.{closedness_broken, ClosednessUnmet, closedness_part, demand_below, demand_broken, DemandUnmet, demands_part}
use Rattle.paper.proofs.Equalities.{broken_cases}
use Rattle.paper.proofs.Ascending.{asc_map}
use Rattle.paper.proofs.Entries.{entries, entries_get, entries_put, entries_asc, entries_findings, ByRule, rule_of}
use Rattle.paper.proofs.Walks.{here, picked, All, all_map, all_unless, all_at, extent, found_exactly}

-- ---- every place is of some size, and what lies below it is smaller

size_pos : (c : Condition) → 0 < size c
unfolding size
size_pos (And n l r) = omega arith
size_pos (Or n l r) = omega arith
size_pos (Not n b) = omega arith
size_pos (Past n k b w) = omega arith
size_pos (Since n l r w) = omega arith
size_pos (Exists n s y b) = omega arith
size_pos (Comparison n o l r) = omega arith
size_pos (Predicate n a l) = omega arith
size_pos (Refine n b l) = omega arith
size_pos (Tp n s) = omega arith
size_pos (Opaque n k y) = omega arith

term_pos : (t : Term) → 0 < term_size t
unfolding size
term_pos (Var n x) = omega arith
term_pos (Wildcard n) = omega arith
term_pos (Value n k y) = omega arith
term_pos (Sigil n k i) = omega arith
term_pos (Array n l) = omega arith
term_pos (Arith n o l r) = omega arith
term_pos (Sum n s l b) = omega arith
term_pos (Count n l b) = omega arith
term_pos (AggregateCall n y) = omega arith

arguments_pos : (l : Arguments) → 0 < arguments_size l
unfolding size
arguments_pos (no_argument n) = omega arith
arguments_pos (argument n f t l) = omega arith

items_pos : (l : Items) → 0 < items_size l
unfolding size
items_pos (no_item n) = omega arith
items_pos (item n t l) = omega arith

spot_pos : (s : Spot) → 0 < spot_size s
unfolding spot_size
spot_pos (condition c) = size_pos c
spot_pos (operand t) = term_pos t
spot_pos (searched t) = term_pos t
spot_pos (searched_arguments l) = arguments_pos l
spot_pos (searched_items l) = items_pos l

pub extent_pos : (p : Place) → 0 < extent p
extent_pos p = spot_pos p.spot

abbrev pub at : Spot → Set → Bool → Place
at s names asked = record { spot = s; names = names; asked = asked }

abbrev Smaller : ℕ → Place → Type 0
Smaller n q = extent q < n

shrinks_at : (s : Spot) (n : Set) (a : Bool) → All (Smaller (spot_size s)) (scope_below (at s n a)) × All (Smaller (spot_size s)) (demand_below (at s n a))
unfolding scope_below demand_below spot_size size
shrinks_at (condition (And n l r)) s a = omega arith
shrinks_at (condition (Or n l r)) s a = omega arith
shrinks_at (condition (Not n b)) s a = omega arith
shrinks_at (condition (Past n k b w)) s a = omega arith
shrinks_at (condition (Since n l r w)) s a = omega arith
shrinks_at (condition (Exists n v y b)) s a = omega arith
shrinks_at (condition (Comparison n o l r)) s a = omega arith
shrinks_at (condition (Predicate n y l)) s a = omega arith
shrinks_at (condition (Refine n b l)) s a = let z = arguments_pos l in omega arith
shrinks_at (condition (Tp n v)) s a = (tt, tt)
shrinks_at (condition (Opaque n k y)) s a = (tt, tt)
shrinks_at (operand (Var n x)) s a = (tt, tt)
shrinks_at (operand (Wildcard n)) s a = (tt, tt)
shrinks_at (operand (Value n k y)) s a = (tt, tt)
shrinks_at (operand (Sigil n k i)) s a = (tt, tt)
shrinks_at (operand (Array n l)) s a = omega arith
shrinks_at (operand (Arith n o l r)) s a = omega arith
shrinks_at (operand (Sum n v l b)) s a = (all_unless (Smaller (term_size (Sum n v l b))) (is_sigil v || binder_sigil l) _ (omega arith), omega arith)
shrinks_at (operand (Count n l b)) s a = (all_unless (Smaller (term_size (Count n l b))) (false || binder_sigil l) _ (omega arith), omega arith)
shrinks_at (operand (AggregateCall n y)) s a = (tt, tt)
shrinks_at (searched (Var n x)) s a = (tt, tt)
shrinks_at (searched (Wildcard n)) s a = (tt, tt)
shrinks_at (searched (Value n k y)) s a = (tt, tt)
shrinks_at (searched (Sigil n k i)) s a = (tt, tt)
shrinks_at (searched (Array n l)) s a = omega arith
shrinks_at (searched (Arith n o l r)) s a = (tt, tt)
shrinks_at (searched (Sum n v l b)) s a = (tt, tt)
shrinks_at (searched (Count n l b)) s a = (tt, tt)
shrinks_at (searched (AggregateCall n y)) s a = (tt, tt)
shrinks_at (searched_arguments (no_argument n)) s a = (tt, tt)
shrinks_at (searched_arguments (argument n f t l)) s a = omega arith
shrinks_at (searched_items (no_item n)) s a = (tt, tt)
shrinks_at (searched_items (item n t l)) s a = omega arith

pub scope_shrinks : (p : Place) → All (λ q. extent q < extent p) (scope_below p)
scope_shrinks p = (shrinks_at p.spot p.names p.asked).0

pub demand_shrinks : (p : Place) → All (λ q. extent q < extent p) (demand_below p)
demand_shrinks p = (shrinks_at p.spot p.names p.asked).1

-- ---- the rules that are broken at a place are those of its part, in their order

abbrev pub Between : ℕ → ℕ → ℕ → Type 0
Between low high rule = (low ≤ rule) × (rule ≤ high)

abbrev pub Rising : ℕ → ℕ → List Broken → Type 0
Rising low high [] = Unit {0}
Rising low high (b ∷ l) = Between low high (rule_of b) × Rising (suc (rule_of b)) high l

pub rising_between : (low high : ℕ) (l : List Broken) → Rising low high l → All (λ b. Between low high (rule_of b)) l
rising_between low high [] h = tt
rising_between low high (b ∷ l) h = (
  h.0,
  all_map (λ c (k : Between (suc (rule_of b)) high (rule_of c)). let z = h.0.0 in (omega arith, k.1)) l (rising_between (suc (rule_of b)) high l h.1),
)

rising_by_rule : (low high : ℕ) (l : List Broken) → Rising low high l → ByRule l
rising_by_rule low high [] h = tt
rising_by_rule low high (b ∷ l) h = (
  λ c m.
      let later = rising_between (suc (rule_of b)) high l h.1 in
      let z = (all_at (λ d. Between (suc (rule_of b)) high (rule_of d)) l c later m).0 in
      omega arith,
  rising_by_rule (suc (rule_of b)) high l h.1,
)

scope_rising_at : (words : Set) (s : Spot) (n : Set) (a : Bool) → Rising 20 27 (scope_broken words (at s n a))
unfolding scope_broken
scope_rising_at words (condition (And n l r)) s a = tt
scope_rising_at words (condition (Or n l r)) s a = tt
scope_rising_at words (condition (Not n b)) s a = tt
scope_rising_at words (condition (Past n k b w)) s a = tt
scope_rising_at words (condition (Since n l r w)) s a = tt
scope_rising_at words (condition (Exists n v y b)) s a = omega arith
scope_rising_at words (condition (Comparison n o l r)) s a = tt
scope_rising_at words (condition (Predicate n y l)) s a = tt
scope_rising_at words (condition (Refine n b l)) s a = tt
scope_rising_at words (condition (Tp n v)) s a = omega arith
scope_rising_at words (condition (Opaque n k y)) s a = tt
scope_rising_at words (operand (Var n x)) s a = tt
scope_rising_at words (operand (Wildcard n)) s a = tt
scope_rising_at words (operand (Value n k y)) s a = tt
scope_rising_at words (operand (Sigil n k i)) s a = tt
scope_rising_at words (operand (Array n l)) s a = tt
scope_rising_at words (operand (Arith n o l r)) s a = tt
scope_rising_at words (operand (Sum n v l b)) s a = picked (Rising 20 27) (is_sigil v || binder_sigil l) [] _ tt (omega arith)
scope_rising_at words (operand (Count n l b)) s a = picked (Rising 20 27) (false || binder_sigil l) [] _ tt (omega arith)
scope_rising_at words (operand (AggregateCall n y)) s a = tt
scope_rising_at words (searched (Var n x)) s a = tt
scope_rising_at words (searched (Wildcard n)) s a = tt
scope_rising_at words (searched (Value n k y)) s a = tt
scope_rising_at words (searched (Sigil n k i)) s a = tt
scope_rising_at words (searched (Array n l)) s a = tt
scope_rising_at words (searched (Arith n o l r)) s a = omega arith
scope_rising_at words (searched (Sum n v l b)) s a = omega arith
scope_rising_at words (searched (Count n l b)) s a = omega arith
scope_rising_at words (searched (AggregateCall n y)) s a = omega arith
scope_rising_at words (searched_arguments l) s a = tt
scope_rising_at words (searched_items l) s a = tt

demand_rising_at : (s : Spot) (n : Set) (a : Bool) → Rising 30 32 (demand_broken (at s n a))
unfolding demand_broken
demand_rising_at s n false = tt
demand_rising_at (condition (And n l r)) s true = tt
demand_rising_at (condition (Or n l r)) s true = tt
demand_rising_at (condition (Not n b)) s true = omega arith
demand_rising_at (condition (Past n k b w)) s true = tt
demand_rising_at (condition (Since n l r w)) s true = omega arith
demand_rising_at (condition (Exists n v y b)) s true = tt
demand_rising_at (condition (Comparison n o l r)) s true = broken_cases (λ b. Rising 30 32 (b ∷ [])) n o l r s (omega arith) (omega arith) (omega arith)
demand_rising_at (condition (Predicate n y l)) s true = tt
demand_rising_at (condition (Refine n b l)) s true = tt
demand_rising_at (condition (Tp n v)) s true = tt
demand_rising_at (condition (Opaque n k y)) s true = tt
demand_rising_at (operand t) s true = tt
demand_rising_at (searched t) s true = tt
demand_rising_at (searched_arguments l) s true = tt
demand_rising_at (searched_items l) s true = tt

pub scope_rising : (words : Set) (p : Place) → Rising 20 27 (scope_broken words p)
scope_rising words p = scope_rising_at words p.spot p.names p.asked

pub demand_rising : (p : Place) → Rising 30 32 (demand_broken p)
demand_rising p = demand_rising_at p.spot p.names p.asked

-- ---- the three parts

pub scoping_exact : (c : Contents) (seed : Set) → Exactly (ScopingUnmet c seed) (scoping_part c seed)
unfolding scoping_part scope_broken scope_below
scoping_exact c seed =
    let words = reserved c.names in
    found_exactly scope_below (scope_broken words) extent_pos scope_shrinks refl refl (λ p. rising_by_rule 20 27 (scope_broken words p) (scope_rising words p))
    (asked_at (condition (root c)) seed)

pub closedness_exact : (c : Contents) → Exactly (ClosednessUnmet c) (closedness_part c)
unfolding closedness_part
closedness_exact c =
    record {
      located = map here (entries (closedness_broken c));
      findings = map-map (λ (l : Located). l.item.finding) here (entries (closedness_broken c)) ∙ entries_findings (closedness_broken c);
      sorted = asc_map Earlier Precedes here (λ x y h. inr (refl, h)) (entries (closedness_broken c)) (entries_asc (closedness_broken c));
      sound =
          λ l m.
          let w = Memᴰ.of_map here (entries (closedness_broken c)) m in (
            sym (ap (λ (z : Located). z.path) w.2),
            entries_get (closedness_broken c) l.item (Memᴰ.cast (sym (ap (λ (z : Located). z.item) w.2)) w.1),
          );
      complete =
          λ l h.
          Memᴰ.cast (ap (λ (p : List ℕ). record { path = p; item = l.item }) h.0) (Memᴰ.map here (entries_put (closedness_broken c) l.item h.1));
    }

demands_found : (c : Contents)
    → Exactly (Unmet demand_below demand_broken (asked_at (condition (root c)) none)) (found demand_below demand_broken (asked_at (condition (root c)) none))
unfolding demand_broken demand_below
demands_found c =
    found_exactly demand_below demand_broken extent_pos demand_shrinks refl refl (λ p. rising_by_rule 30 32 (demand_broken p) (demand_rising p))
    (asked_at (condition (root c)) none)

pub demands_exact : (c : Contents) → Exactly (DemandUnmet c) (demands_part c)
unfolding demands_part
demands_exact c = go (holds_sigil (root c)) refl
  where
    go : (b : Bool) → holds_sigil (root c) ≡ b
        → Exactly (DemandUnmet c) (pick (holds_sigil (root c)) [] (found demand_below demand_broken (asked_at (condition (root c)) none)))
    go true e =
        record {
          located = [];
          findings = rw e;
          sorted = tt;
          sound = λ l m. absurd (Memᴰ.not-nil m);
          complete = λ l h. absurd (true≢false (sym e ∙ h.0));
        }
    go false e =
        let w = demands_found c in
        record {
          located = w.located;
          findings = rw e w.findings;
          sorted = w.sorted;
          sound = λ l m. (e, w.sound l m);
          complete = λ l h. w.complete l h.1;
        }
