-- "Bits past the table have no effect": two seeds that agree on the names of the table give the same answer.
--     seed_past_the_table    the same part of the list
--     seed_has_no_effect     the same answer to scoping, for any bytes
-- Assumes nothing.
use mathlib.Core.Path.{◌≡◌, refl, sym, ap, ap₂, ◌∙◌, fun_ext}
use mathlib.Core.Bool.{Bool, true, false, not, ◌&&◌, ◌||◌}
use mathlib.Core.List.{List, [], ◌∷◌, ◌++◌}
use Prim.Native.Nat.{ℕ, ◌<◌}
use native.Mathlib.Omega.{arith}
use lib.ListN.{length}
use borrow.Author.Tests.{eqb-true, lt-ltb, ltb-true}
use Rattle.paper.specs.declared.Slot.{Slot}
use Rattle.paper.specs.declared.Slot.TheVariants as slot
use Rattle.paper.specs.declared.Finding.{Finding}
use Rattle.paper.specs.Record.{pick}
use Rattle.paper.specs.Sets.{Set, only, ◌∪◌, ◌∖◌, below}
use Rattle.paper.specs.TurnedAway.{Contents, Outcome, refused, accepted, read}
use Rattle.paper.specs.Tree.{Condition, Term, Arguments, Items, root}
use Rattle.paper.specs.Tree.Condition.{And, Or, Not, Past, Since, Exists, Comparison, Predicate, Refine, Tp, Opaque}
use Rattle.paper.specs.Tree.Term.{Var, Wildcard, Value, Sigil, Array, Arith, Sum, Count, AggregateCall}
use Rattle.paper.specs.Tree.Arguments.{no_argument, argument}
use Rattle.paper.specs.Tree.Items.{no_item, item}
use Rattle.paper.specs.Shape.{slot_names}
use Rattle.paper.specs.FreeAndRestricted.{named, is_sigil, binder_names, free, term_free, arguments_free, items_free}
use Rattle.paper.specs.Places.{Spot, condition, operand, searched, searched_arguments, searched_items, Place, asked_at, Broken, gather, findings, found}
use Rattle.paper.specs.Scoping.{reserved, binder_sigil, scope_below, scope_broken, scoping_part}
use Rattle.paper.specs.Questions.{first, answered, scoping}
use Rattle.paper.proofs.RestrictedFree.{Within, none_within, both_within, minus_within}
use Rattle.paper.proofs.Walks.{All, extent, found_at, found_by}
use Rattle.paper.proofs.Exact.{at, extent_pos, scope_shrinks}
use Rattle.paper.proofs.WellFormed.{WellFormed, well_formed}
use Rattle.paper.proofs.Sane.{Sane, SaneTerm, SaneArguments, SaneItems, sane_root}
use Rattle.paper.proofs.SanePlaces.{SanePlace, scope_below_sane}

-- ---- the free names of a sane tree are names of the table

module _ (N M : ℕ) where
  only_within : (x : ℕ) → x < M → Within (only x) (below M)
  unfolding only below
  only_within x h k e = let d : k ≡ x = eqb-true k x e in lt-ltb k M (omega arith)

  named_within : (s : Slot) → All (λ x. x < M) (slot_names s) → Within (named s) (below M)
  unfolding named
  named_within (slot.Name x) h = only_within x.0 h.0
  named_within (slot.Param k) h = none_within _
  named_within (slot.Binder k) h = none_within _

  mutual
    unfolding free

    pub free_within : (c : Condition) → Sane N M c → Within (free c) (below M)
    free_within (And n l r) h = both_within (free l) (free r) _ (free_within l h.1) (free_within r h.2)
    free_within (Or n l r) h = both_within (free l) (free r) _ (free_within l h.1) (free_within r h.2)
    free_within (Not n b) h = free_within b h.1
    free_within (Past n k b w) h = free_within b h.1
    free_within (Since n l r w) h = both_within (free l) (free r) _ (free_within l h.1) (free_within r h.2)
    free_within (Exists n s y b) h = minus_within (free b) _ (named s) (free_within b h.2)
    free_within (Comparison n o l r) h = both_within (term_free l) (term_free r) _ (term_within l h.1) (term_within r h.2)
    free_within (Predicate n a l) h = arguments_within l h.1
    free_within (Refine n b l) h = both_within (free b) (arguments_free l) _ (free_within b h.1) (arguments_within l h.2)
    free_within (Tp n s) h = named_within s h.1
    free_within (Opaque n k y) h = none_within _

    pub term_within : (t : Term) → SaneTerm N M t → Within (term_free t) (below M)
    term_within (Var n x) h = only_within x.0 h.1
    term_within (Wildcard n) h = none_within _
    term_within (Value n k y) h = none_within _
    term_within (Sigil n k i) h = none_within _
    term_within (Array n l) h = items_within l h.1
    term_within (Arith n o l r) h = both_within (term_free l) (term_free r) _ (term_within l h.1) (term_within r h.2)
    term_within (Sum n s l b) h = minus_within (free b) _ (binder_names l) (free_within b h.3)
    term_within (Count n l b) h = minus_within (free b) _ (binder_names l) (free_within b h.2)
    term_within (AggregateCall n y) h = none_within _

    arguments_within : (l : Arguments) → SaneArguments N M l → Within (arguments_free l) (below M)
    arguments_within (no_argument n) h = none_within _
    arguments_within (argument n f t l) h = both_within (term_free t) (arguments_free l) _ (term_within t h.1) (arguments_within l h.2)

    items_within : (l : Items) → SaneItems N M l → Within (items_free l) (below M)
    items_within (no_item n) h = none_within _
    items_within (item n t l) h = both_within (term_free t) (items_free l) _ (term_within t h.1) (items_within l h.2)

-- ---- a walk from two places

abbrev Pairs : (Place → Place → Type 0) → List Place → List Place → Type 0
Pairs R [] [] = Unit {0}
Pairs R [] (q ∷ qs) = ⊥
Pairs R (p ∷ ps) [] = ⊥
Pairs R (p ∷ ps) (q ∷ qs) = R p q × Pairs R ps qs

gather_same : (R : Place → Place → Type 0) (f : Place → List Finding) (ps qs : List Place) → All (λ p. (q : Place) → R p q → f p ≡ f q) ps → Pairs R ps qs
    → gather f ps ≡ gather f qs
unfolding gather
gather_same R f [] [] a r = refl
gather_same R f [] (q ∷ qs) a r = absurd r
gather_same R f (p ∷ ps) [] a r = absurd r
gather_same R f (p ∷ ps) (q ∷ qs) a r = ap₂ {C = List Finding} ◌++◌ (a.0 q r.0) (gather_same R f ps qs a.1 r.1)

-- related places break the same rules and lead to related places: then the same is found from both
module _ (under : Place → List Place) (broken : Place → List Broken) (shrinks : (p : Place) → All (λ q. extent q < extent p) (under p)) (Holds : Place → Type 0)
    (goes_down : (p : Place) → Holds p → All Holds (under p)) (R : Place → Place → Type 0) (same : (p q : Place) → Holds p → R p q → broken p ≡ broken q)
    (leads : (p q : Place) → R p q → Pairs R (under p) (under q)) where
  found_same : (p : Place) → Holds p → (q : Place) → R p q → found under broken p ≡ found under broken q
  found_same =
      found_by under broken extent_pos shrinks Holds goes_down (λ p l. (q : Place) → R p q → l ≡ found under broken q)
      (λ p h a q r.
      ap₂ {C = List Finding} ◌++◌ (ap (gather findings) (same p q h r)) (gather_same R (found under broken) (under p) (under q) a (leads p q r))
      ∙ sym (found_at under broken extent_pos shrinks q))

-- ---- scoping from two seeds

module _ (M : ℕ) where
  abbrev Agree : Set → Set → Type 0
  Agree a b = (x : ℕ) → x < M → a x ≡ b x

  agree_join : (a b c : Set) → Agree a b → Agree (a ∪ c) (b ∪ c)
  unfolding ◌∪◌
  agree_join a b c g x h = ap (λ (t : Bool). t || c x) (g x h)

  -- names of the table that are not in scope, where two scopes agree on the table
  outside_same : (s a b c : Set) → Within s (below M) → Agree a b → s ∖ (a ∪ c) ≡ s ∖ (b ∪ c)
  unfolding ◌∖◌ ◌∪◌ below
  outside_same s a b c f g = fun_ext (λ x. go x (s x) refl)
    where
      go : (x : ℕ) (t : Bool) → s x ≡ t → (t && not (a x || c x)) ≡ (t && not (b x || c x))
      go x true e = ap (λ (z : Bool). not (z || c x)) (g x (ltb-true x M (f x e)))
      go x false e = refl

  -- the same spot, once from each seed
  data Reseeded : Place → Place → Type 0 where
    again : {s : Spot} {a b : Set} {k : Bool} → Agree a b → Reseeded (at s a k) (at s b k)

  -- the scope is looked at by rule 25 alone
  broken_same : (words : Set) (s : Spot) (a b : Set) (k : Bool) → SanePlace 512 M (at s a k) → Agree a b → scope_broken words (at s a k) ≡ scope_broken words (at s b k)
  unfolding scope_broken
  broken_same words (condition c) a b k h g = refl
  broken_same words (operand (Var n x)) a b k h g = refl
  broken_same words (operand (Wildcard n)) a b k h g = refl
  broken_same words (operand (Value n y z)) a b k h g = refl
  broken_same words (operand (Sigil n y i)) a b k h g = refl
  broken_same words (operand (Array n l)) a b k h g = refl
  broken_same words (operand (Arith n o l r)) a b k h g = refl
  broken_same words (operand (Sum n v l c)) a b k h g = rw (outside_same (free c) a b (binder_names l) (free_within 512 M c h.3) g)
  broken_same words (operand (Count n l c)) a b k h g = rw (outside_same (free c) a b (binder_names l) (free_within 512 M c h.2) g)
  broken_same words (operand (AggregateCall n y)) a b k h g = refl
  broken_same words (searched t) a b k h g = refl
  broken_same words (searched_arguments l) a b k h g = refl
  broken_same words (searched_items l) a b k h g = refl

  pairs_pick : (t : Bool) (ps qs : List Place) → Pairs Reseeded ps qs → Pairs Reseeded (pick t [] ps) (pick t [] qs)
  pairs_pick true ps qs r = tt
  pairs_pick false ps qs r = r

  below_same : (s : Spot) (a b : Set) (k : Bool) → Agree a b → Pairs Reseeded (scope_below (at s a k)) (scope_below (at s b k))
  unfolding scope_below
  below_same (condition (And n l r)) a b k g = (again g, (again g, tt))
  below_same (condition (Or n l r)) a b k g = (again g, (again g, tt))
  below_same (condition (Not n c)) a b k g = (again g, tt)
  below_same (condition (Past n y c w)) a b k g = (again g, tt)
  below_same (condition (Since n l r w)) a b k g = (again g, (again g, tt))
  below_same (condition (Exists n v y c)) a b k g = (again (agree_join a b (named v) g), tt)
  below_same (condition (Comparison n o l r)) a b k g = (again g, (again g, tt))
  below_same (condition (Predicate n y l)) a b k g = (again g, tt)
  below_same (condition (Refine n c l)) a b k g = (again g, tt)
  below_same (condition (Tp n v)) a b k g = tt
  below_same (condition (Opaque n y z)) a b k g = tt
  below_same (operand (Var n x)) a b k g = tt
  below_same (operand (Wildcard n)) a b k g = tt
  below_same (operand (Value n y z)) a b k g = tt
  below_same (operand (Sigil n y i)) a b k g = tt
  below_same (operand (Array n l)) a b k g = (again g, tt)
  below_same (operand (Arith n o l r)) a b k g = (again g, (again g, tt))
  below_same (operand (Sum n v l c)) a b k g = pairs_pick (is_sigil v || binder_sigil l) _ _ (again (agree_join a b (binder_names l) g), tt)
  below_same (operand (Count n l c)) a b k g = pairs_pick (false || binder_sigil l) _ _ (again (agree_join a b (binder_names l) g), tt)
  below_same (operand (AggregateCall n y)) a b k g = tt
  below_same (searched (Var n x)) a b k g = tt
  below_same (searched (Wildcard n)) a b k g = tt
  below_same (searched (Value n y z)) a b k g = tt
  below_same (searched (Sigil n y i)) a b k g = tt
  below_same (searched (Array n l)) a b k g = (again g, tt)
  below_same (searched (Arith n o l r)) a b k g = tt
  below_same (searched (Sum n v l c)) a b k g = tt
  below_same (searched (Count n l c)) a b k g = tt
  below_same (searched (AggregateCall n y)) a b k g = tt
  below_same (searched_arguments (no_argument n)) a b k g = tt
  below_same (searched_arguments (argument n f t l)) a b k g = (again g, (again g, tt))
  below_same (searched_items (no_item n)) a b k g = tt
  below_same (searched_items (item n t l)) a b k g = (again g, (again g, tt))

  rules_same : (words : Set) (p q : Place) → SanePlace 512 M p → Reseeded p q → scope_broken words p ≡ scope_broken words q
  rules_same words p q h (again {s} {a} {b} {k} g) = broken_same words s a b k h g

  leads_same : (p q : Place) → Reseeded p q → Pairs Reseeded (scope_below p) (scope_below q)
  leads_same p q (again {s} {a} {b} {k} g) = below_same s a b k g

pub seed_past_the_table : (c : Contents) → WellFormed c → (a b : Set) → ((x : ℕ) → x < length c.names → a x ≡ b x) → scoping_part c a ≡ scoping_part c b
unfolding scoping_part
seed_past_the_table c f a b h =
    let M = length c.names in
    let words = reserved c.names in
    found_same scope_below (scope_broken words) scope_shrinks (SanePlace 512 M) (scope_below_sane 512 M) (Reseeded M) (rules_same M words) (leads_same M)
    (asked_at (condition (root c)) a) (sane_root c f) (asked_at (condition (root c)) b) (again h)

pub seed_has_no_effect : (bytes : List ℕ) (a b : Set) → ((c : Contents) → read bytes ≡ accepted c → (x : ℕ) → x < length c.names → a x ≡ b x)
    → scoping bytes a ≡ scoping bytes b
unfolding scoping answered
seed_has_no_effect bytes a b h = go (read bytes) refl
  where
    go : (o : Outcome) → read bytes ≡ o → answered (λ c. scoping_part c a) o ≡ answered (λ c. scoping_part c b) o
    go (refused number offset) e = refl
    go (accepted c) e = ap first (seed_past_the_table c (well_formed bytes c e) a b (h c e))
