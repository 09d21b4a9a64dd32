-- Where a condition is not hard and its need is tied, no demand below it is unmet (`met_condition`, `met_operand`): the walk of demands may pass over it. Assumes nothing.
use mathlib.Core.Path.{◌≡◌, refl, sym, ap, ap₂, ◌∙◌}
use mathlib.Core.Bool.{Bool, true, false, true≢false}
use mathlib.Core.List.{List, [], ◌∷◌, ◌++◌}
use Prim.Native.Nat.{ℕ}
use Rattle.paper.specs.declared.NodeNo.{NodeNo}
use Rattle.paper.specs.declared.Finding.{Finding}
use Rattle.paper.specs.declared.Equality.{Equality}
use Rattle.paper.specs.declared.Equality.TheVariants.{Left, Right, Nothing}
use Rattle.paper.specs.Record.{pick}
use Rattle.paper.specs.Sets.{Set, ◌∪◌, ◌∖◌}
use Rattle.paper.specs.Tree.{Condition, Term, Tree, as_condition, as_term}
use Rattle.paper.specs.Tree.Condition.{And, Or, Not, Past, Since, Exists, Comparison, Predicate, Refine, Tp, Opaque}
use Rattle.paper.specs.Tree.Term.{Var, Wildcard, Value, Sigil, Array, Arith, Sum, Count, AggregateCall}
use Rattle.paper.specs.FreeAndRestricted.{named, binder_names, free, term_free, restricted, equality, is_equality}
use Rattle.paper.specs.Places.{Spot, condition, operand, Place, Broken, for_names, gather, findings, found}
use Rattle.paper.specs.Demands.{equality_broken, other_broken, demand_below, demand_broken}
use Rattle.paper.proofs.Walks.{found_at}
use Rattle.paper.proofs.Exact.{extent_pos, demand_shrinks}
use Rattle.trees.specs.Trees.{is_condition, is_term}
use Rattle.known.specs.Known.{Known, condition_known, term_known, known_of}
use Rattle.known.proofs.KnownLaws.{condition_is, term_is}
use Rattle.known.specs.Needs.{slot_in, binder_in, owes, need, term_need, hard, term_hard, met}
use Rattle.known.proofs.Covers.{Covers, covers_left, covers_right, covers_eased, covers_bound, none_left, has_none_covers, or_none, slot_out, binder_out}

abbrev from : Bool → Spot → Set → List Finding
from asked s ties = found demand_below demand_broken (record { spot = s; names = ties; asked = asked })

abbrev walked : List Place → List Finding
walked ps = gather (found demand_below demand_broken) ps

-- nothing is broken at a place, and nothing is found below it
at_none : (p : Place) → gather findings (demand_broken p) ≡ [] → walked (demand_below p) ≡ [] → found demand_below demand_broken p ≡ []
at_none p e f = found_at demand_below demand_broken extent_pos demand_shrinks p ∙ ap₂ {C = List Finding} ◌++◌ e f

unasked : (asked : Bool) (bs : List Broken) → gather findings bs ≡ [] → gather findings (pick asked bs []) ≡ []
unfolding gather
unasked true bs e = e
unasked false bs e = refl

one : (p : Place) → found demand_below demand_broken p ≡ [] → walked (p ∷ []) ≡ []
unfolding gather
one p e = rw e

two : (p q : Place) → found demand_below demand_broken p ≡ [] → found demand_below demand_broken q ≡ [] → walked (p ∷ q ∷ []) ≡ []
unfolding gather
two p q e f = rw (e, f)

-- a rule that is broken for no name
for_none : (rule : ℕ) (n : NodeNo) (s ties : Set) → Covers s ties → gather findings (for_names rule n (s ∖ ties) ∷ []) ≡ []
unfolding gather findings
for_none rule n s ties f = rw (none_left s ties f)

by_side : (n : NodeNo) (l r : Term) (ties : Set) (equal : Bool) (side : Equality)
    → Covers (pick equal (owes side (term_free l) (term_free r)) (term_free l ∪ term_free r)) ties
    → gather findings (pick equal (equality_broken n l r ties side) (other_broken n l r ties) ∷ []) ≡ []
unfolding owes
by_side n l r ties true (Left x) f = for_none 30 n (term_free r) ties f
by_side n l r ties true (Right x) f = for_none 30 n (term_free l) ties f
by_side n l r ties true (Nothing why) f = for_none 31 n (term_free l ∪ term_free r) ties f
by_side n l r ties false side f = for_none 31 n (term_free l ∪ term_free r) ties f

mutual
  unfolding need hard demand_below demand_broken gather

  pub met_condition : (asked : Bool) (c : Condition) (ties : Set) → hard c ≡ false → Covers (need c) ties → from asked (condition c) ties ≡ []
  met_condition asked (And n l r) ties h f =
      let p = or_none (hard l) (hard r) h in
      let g = covers_eased (need r) (restricted l) ties (covers_right (need l) (need r ∖ restricted l) ties f) in
      at_none _ (unasked asked [] refl) (two _ _ (met_condition true l ties p.0 (covers_left (need l) (need r ∖ restricted l) ties f)) (met_condition true r _ p.1 g))
  met_condition asked (Or n l r) ties h f =
      let p = or_none (hard l) (hard r) h in
      at_none _ (unasked asked [] refl)
      (two _ _ (met_condition true l ties p.0 (covers_left (need l) (need r) ties f)) (met_condition true r ties p.1 (covers_right (need l) (need r) ties f)))
  met_condition asked (Not n b) ties h f =
      at_none _ (unasked asked _ (for_none 31 n (free b) ties (covers_right (need b) (free b) ties f))) (one _ (met_condition false b ties h (covers_left (need b) (free b) ties f)))
  met_condition asked (Past n k b w) ties h f = at_none _ (unasked asked [] refl) (one _ (met_condition true b ties h f))
  met_condition asked (Since n l r w) ties h f =
      let p = or_none (hard l) (hard r) h in
      let g = covers_eased (need l ∪ free l) (restricted r) ties (covers_right (need r) ((need l ∪ free l) ∖ restricted r) ties f) in
      at_none _ (unasked asked _ (for_none 32 n (free l) _ (covers_right (need l) (free l) _ g)))
      (two _ _ (met_condition true l _ p.0 (covers_left (need l) (free l) _ g)) (met_condition true r ties p.1 (covers_left (need r) ((need l ∪ free l) ∖ restricted r) ties f)))
  met_condition asked (Exists n s y b) ties h f =
      let p = or_none (hard b) (slot_in s (need b)) h in
      at_none _ (unasked asked [] refl) (one _ (met_condition true b _ p.0 (covers_bound (need b) (named s) ties f (slot_out s (need b) p.1))))
  met_condition asked (Comparison n o l r) ties h f =
      let p = or_none (term_hard l) (term_hard r) h in
      let own = pick (is_equality o) (owes (equality l r) (term_free l) (term_free r)) (term_free l ∪ term_free r) in
      let g = covers_right own (term_need l ∪ term_need r) ties f in
      at_none _ (unasked asked _ (by_side n l r ties (is_equality o) (equality l r) (covers_left own (term_need l ∪ term_need r) ties f)))
      (two _ _ (met_operand l ties p.0 (covers_left (term_need l) (term_need r) ties g)) (met_operand r ties p.1 (covers_right (term_need l) (term_need r) ties g)))
  met_condition asked (Predicate n a l) ties h f = at_none _ (unasked asked [] refl) refl
  met_condition asked (Refine n b l) ties h f = at_none _ (unasked asked [] refl) (one _ (met_condition false b ties h f))
  met_condition asked (Tp n s) ties h f = at_none _ (unasked asked [] refl) refl
  met_condition asked (Opaque n k y) ties h f = at_none _ (unasked asked [] refl) refl

  pub met_operand : (t : Term) (ties : Set) → term_hard t ≡ false → Covers (term_need t) ties → from true (operand t) ties ≡ []
  met_operand (Var n x) ties h f = at_none _ refl refl
  met_operand (Wildcard n) ties h f = at_none _ refl refl
  met_operand (Value n k y) ties h f = at_none _ refl refl
  met_operand (Sigil n k i) ties h f = at_none _ refl refl
  met_operand (Array n l) ties h f = at_none _ refl refl
  met_operand (Arith n o l r) ties h f =
      let p = or_none (term_hard l) (term_hard r) h in
      at_none _ refl
      (two _ _ (met_operand l ties p.0 (covers_left (term_need l) (term_need r) ties f)) (met_operand r ties p.1 (covers_right (term_need l) (term_need r) ties f)))
  met_operand (Sum n s l b) ties h f =
      let p = or_none (hard b) (binder_in l (need b)) h in
      at_none _ refl (one _ (met_condition true b _ p.0 (covers_bound (need b) (binder_names l) ties f (binder_out l (need b) p.1))))
  met_operand (Count n l b) ties h f =
      let p = or_none (hard b) (binder_in l (need b)) h in
      at_none _ refl (one _ (met_condition true b _ p.0 (covers_bound (need b) (binder_names l) ties f (binder_out l (need b) p.1))))
  met_operand (AggregateCall n y) ties h f = at_none _ refl refl

-- what the test says
met_says : (needs : Set) (stiff : Bool) (ties : Set) → met needs stiff ties ≡ true → (stiff ≡ false) × Covers needs ties
unfolding met
met_says needs true ties e = absurd (true≢false (sym e))
met_says needs false ties e = (refl, has_none_covers needs ties e)

-- the same from what is known of a tree
module _ (t : Tree) (ties : Set) where
  pub met_body : (asked : Bool) → is_condition t ≡ true → met (known_of t).need (known_of t).hard ties ≡ true → from asked (condition (as_condition t)) ties ≡ []
  unfolding condition_known
  met_body asked s e =
      let c = as_condition t in
      let p = met_says (need c) (hard c) ties (ap (λ (k : Known). met k.need k.hard ties) (sym (condition_is t s)) ∙ e) in
      met_condition asked c ties p.0 p.1

  pub met_term : is_term t ≡ true → met (known_of t).need (known_of t).hard ties ≡ true → from true (operand (as_term t)) ties ≡ []
  unfolding term_known
  met_term s e =
      let x = as_term t in
      let p = met_says (term_need x) (term_hard x) ties (ap (λ (k : Known). met k.need k.hard ties) (sym (term_is t s)) ∙ e) in
      met_operand x ties p.0 p.1
