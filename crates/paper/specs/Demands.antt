-- Document 01, 'Closedness, demands, arithmetic': rule 28, rules 30 to 32 by the path rule, and the arithmetic test. Assumes nothing: these are definitions.
use Rattle.std.specs.Prelude.{ℕ, Bool, true, false, ◌||◌, List, [], ◌∷◌, ◌≡◌}
use Rattle.paper.specs.declared.NodeNo.{NodeNo}
use Rattle.paper.specs.declared.Finding.{Finding}
use Rattle.paper.specs.declared.Equality.{Equality}
use Rattle.paper.specs.declared.Equality.TheVariants.{Left, Right, Nothing}
use Rattle.paper.specs.Record.{pick}
use Rattle.paper.specs.Sets.{Set, none, ◌∪◌, ◌∖◌}
use Rattle.paper.specs.TurnedAway.{Contents}
use Rattle.paper.specs.Tree.{Condition, Term, root_no, root}
use Rattle.paper.specs.Tree.Condition.{And, Or, Not, Past, Since, Exists, Comparison, Predicate, Refine, Tp, Opaque}
use Rattle.paper.specs.Tree.Term.{Var, Wildcard, Value, Sigil, Array, Arith, Sum, Count, AggregateCall}
use Rattle.paper.specs.FreeAndRestricted.{named, binder_names, free, term_free, equality, is_equality, restricted, holds_sigil}
use Rattle.paper.specs.Places.{
  Spot,
  condition,
  operand,
  searched,
  searched_arguments,
  searched_items,
  Place,
  asked_at,
  unasked_at,
  Broken,
  for_names,
  Breaks,
  Entry,
  Unmet,
  findings,
  found,
}

-- ---- closedness

-- "28: each free name, ascending, at the root"
unfoldable pub closedness_broken : Contents → Broken
closedness_broken c = for_names 28 (root_no c) (free (root c))

abbrev pub ClosednessUnmet : Contents → List ℕ → Entry → Type 0
ClosednessUnmet c path e = (path ≡ []) × Breaks (closedness_broken c) e

unfoldable pub closedness_part : Contents → List Finding
closedness_part c = findings (closedness_broken c)

-- ---- demands: the path rule

-- "right of And adds what the left restricts; left of Since adds what the right restricts; exists and aggregate bodies drop their named
-- binders; every other step keeps the set. Every reached condition is asked, unless it is directly under Not or Refine."
abbrev below_condition : Condition → Set → List Place
below_condition (And n l r) names = asked_at (condition l) names ∷ asked_at (condition r) (names ∪ restricted l) ∷ []
below_condition (Or n l r) names = asked_at (condition l) names ∷ asked_at (condition r) names ∷ []
below_condition (Not n b) names = unasked_at (condition b) names ∷ []
below_condition (Past n k b w) names = asked_at (condition b) names ∷ []
below_condition (Since n l r w) names = asked_at (condition l) (names ∪ restricted r) ∷ asked_at (condition r) names ∷ []
below_condition (Exists n s y b) names = asked_at (condition b) (names ∖ named s) ∷ []
below_condition (Comparison n o l r) names = asked_at (operand l) names ∷ asked_at (operand r) names ∷ []
below_condition (Predicate n a l) names = []
below_condition (Refine n b l) names = unasked_at (condition b) names ∷ []
below_condition (Tp n s) names = []
below_condition (Opaque n k y) names = []

-- "Aggregate bodies are reached from comparisons through arithmetic only, also unasked ones, whatever their binders."
abbrev below_operand : Term → Set → List Place
below_operand (Var n x) names = []
below_operand (Wildcard n) names = []
below_operand (Value n k y) names = []
below_operand (Sigil n k i) names = []
below_operand (Array n l) names = []
below_operand (Arith n o l r) names = asked_at (operand l) names ∷ asked_at (operand r) names ∷ []
below_operand (Sum n s l b) names = asked_at (condition b) (names ∖ binder_names l) ∷ []
below_operand (Count n l b) names = asked_at (condition b) (names ∖ binder_names l) ∷ []
below_operand (AggregateCall n y) names = []

abbrev below_spot : Spot → Set → List Place
below_spot (condition c) names = below_condition c names
below_spot (operand t) names = below_operand t names
below_spot (searched t) names = []
below_spot (searched_arguments l) names = []
below_spot (searched_items l) names = []

unfoldable pub demand_below : Place → List Place
demand_below p = below_spot p.spot p.names

-- ---- demands: which rules are broken at a place

-- "31, other comparison: all its free names."
abbrev pub other_broken : NodeNo → Term → Term → Set → Broken
other_broken n l r names = for_names 31 n ((term_free l ∪ term_free r) ∖ names)

-- "30, binding equality: the other side's free names must be tied."
abbrev pub equality_broken : NodeNo → Term → Term → Set → Equality → Broken
equality_broken n l r names (Left x) = for_names 30 n (term_free r ∖ names)
equality_broken n l r names (Right x) = for_names 30 n (term_free l ∖ names)
equality_broken n l r names (Nothing why) = other_broken n l r names

abbrev pub comparison_broken : NodeNo → ℕ → Term → Term → Set → Broken
comparison_broken n o l r names = pick (is_equality o) (equality_broken n l r names (equality l r)) (other_broken n l r names)

-- "31, .. or Not: all its free names. 32, Since: free names of the left, tied or restricted by the right."
abbrev condition_broken : Condition → Set → List Broken
condition_broken (And n l r) names = []
condition_broken (Or n l r) names = []
condition_broken (Not n b) names = for_names 31 n (free b ∖ names) ∷ []
condition_broken (Past n k b w) names = []
condition_broken (Since n l r w) names = for_names 32 n (free l ∖ (names ∪ restricted r)) ∷ []
condition_broken (Exists n s y b) names = []
condition_broken (Comparison n o l r) names = comparison_broken n o l r names ∷ []
condition_broken (Predicate n a l) names = []
condition_broken (Refine n b l) names = []
condition_broken (Tp n s) names = []
condition_broken (Opaque n k y) names = []

abbrev spot_broken : Spot → Set → List Broken
spot_broken (condition c) names = condition_broken c names
spot_broken (operand t) names = []
spot_broken (searched t) names = []
spot_broken (searched_arguments l) names = []
spot_broken (searched_items l) names = []

unfoldable pub demand_broken : Place → List Broken
demand_broken p = pick p.asked (spot_broken p.spot p.names) []

-- ---- demands: what is unmet, and this part of the list

-- "If the whole condition holds a sigil, no demand is asked. Otherwise the tied names .. none at the root"
abbrev pub DemandUnmet : Contents → List ℕ → Entry → Type 0
DemandUnmet c path e = (holds_sigil (root c) ≡ false) × Unmet demand_below demand_broken (asked_at (condition (root c)) none) path e

unfoldable pub demands_part : Contents → List Finding
demands_part c = pick (holds_sigil (root c)) [] (found demand_below demand_broken (asked_at (condition (root c)) none))

-- ---- the arithmetic test

-- "yes if Arith is a comparison operand, also inside an operand aggregate's body. Arrays, predicate arguments and fields are not searched."
unfoldable mutual
  pub has_arith : Condition → Bool
  has_arith (And n l r) = has_arith l || has_arith r
  has_arith (Or n l r) = has_arith l || has_arith r
  has_arith (Not n b) = has_arith b
  has_arith (Past n k b w) = has_arith b
  has_arith (Since n l r w) = has_arith l || has_arith r
  has_arith (Exists n s y b) = has_arith b
  has_arith (Comparison n o l r) = operand_arith l || operand_arith r
  has_arith (Predicate n a l) = false
  has_arith (Refine n b l) = has_arith b
  has_arith (Tp n s) = false
  has_arith (Opaque n k y) = false

  pub operand_arith : Term → Bool
  operand_arith (Var n x) = false
  operand_arith (Wildcard n) = false
  operand_arith (Value n k y) = false
  operand_arith (Sigil n k i) = false
  operand_arith (Array n l) = false
  operand_arith (Arith n o l r) = true
  operand_arith (Sum n s l b) = has_arith b
  operand_arith (Count n l b) = has_arith b
  operand_arith (AggregateCall n y) = false
