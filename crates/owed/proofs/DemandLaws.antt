-- What is demanded from a node on: by `found_at`, a condition's own entries if it is asked, and then what is found below, with what is tied there; for each
-- kind from its parts. Assumes nothing.
use mathlib.Core.Path.{◌≡◌, refl, sym, ap, ap₂, ◌∙◌, subst}
use mathlib.Core.Bool.{Bool, true, false}
use mathlib.Core.List.{List, [], ◌∷◌, ◌++◌, append-nil}
use Prim.Native.Nat.{ℕ}
use borrow.Author.Tests.{eq-eqb, ne_eqb}
use types.Run.{OneOf, miss}
use denote.Enum.Declared.{tag_of}
use Rattle.paper.specs.declared.NodeNo.{NodeNo}
use Rattle.paper.specs.declared.NameNo.{NameNo}
use Rattle.paper.specs.declared.Finding.{Finding}
use Rattle.paper.specs.declared.Slot.{Slot}
use Rattle.paper.specs.declared.Reason.{Reason}
use Rattle.paper.specs.declared.Equality.{Equality}
use Rattle.paper.specs.declared.Equality.TheVariants.{Left, Right, Nothing}
use Rattle.paper.specs.declared.Node.{Node}
use Rattle.paper.specs.declared.Node.TheVariants as node
use Rattle.paper.specs.Record.{pick, node_no}
use Rattle.paper.specs.Sets.{Set, none, ◌∪◌, ◌∖◌}
use Rattle.paper.specs.TurnedAway.{Contents}
use Rattle.paper.specs.Tree.{Condition, Term, Tree, as_condition, as_term, planted, root}
use Rattle.known.specs.Needs.{met}
use Rattle.known.specs.Known.{known_of}
use Rattle.known.proofs.MetLaws.{met_body, met_term}
use Rattle.paper.specs.FreeAndRestricted.{named, binder_names, free, term_free, restricted, equality, is_equality, holds_sigil}
use Rattle.paper.specs.Places.{Spot, condition, operand, Place, asked_at, for_names, gather, findings, found}
use Rattle.paper.specs.Demands.{equality_broken, comparison_broken, demand_below, demand_broken, demands_part}
use Rattle.paper.proofs.Walks.{found_at}
use Rattle.paper.proofs.Exact.{extent_pos, demand_shrinks}
use Rattle.trees.specs.Trees.{tree_of, condition_of, term_of, binders_of, is_condition, is_term}
use Rattle.trees.proofs.Arms.{Arm}
use Rattle.trees.proofs.Shapes.{Aggregate, sum, count}
use Rattle.trees.proofs.ByKind.{condition_cases, term_cases}
use Rattle.views.specs.declared.Below.{Below}
use Rattle.views.specs.declared.Below.TheVariants as below
use Rattle.views.specs.declared.Operand.{Operand}
use Rattle.views.specs.declared.Owing.{Owing}
use Rattle.views.specs.declared.Owing.TheVariants.{Other, And, Not, Since, Exists, Comparison, Refine}
use Rattle.views.specs.Entered.{entered_below}
use Rattle.views.specs.Seen.{seen_operand, seen_owing}
use Rattle.views.specs.contracts.Operand.{the_type as operand_type}
use Rattle.views.specs.contracts.Owing.{the_type as owing_type}
use Rattle.views.proofs.EnteredLaws.{entered_cases}
use Rattle.views.proofs.SeenLaws.{OwingArm, owing_told}
use Rattle.writes.specs.declared.Entries.{Entries}
use Rattle.writes.specs.Written.{Room}
use Rattle.writes.specs.Walked.{HasRoom, Added}
use Rattle.writes.proofs.WriteLaws.{added_then, added_is, room_is, room_first, room_after}
use Rattle.owed.specs.Demanded.{place_below, FirstAsked, demanded, owed, owed_compared, owed_equated}

-- ---- from a place on

-- from the root on it is document 01's part of the list
pub demands_are : (c : Contents) → demands_part c ≡ pick (holds_sigil (root c)) [] (demanded true (condition (root c)) none)
unfolding demands_part demanded
demands_are c = refl

-- what is found at some places and below them
abbrev walked : List Place → List Finding
walked ps = gather (found demand_below demand_broken) ps

-- what is found below a condition, which is the same whether it is asked
unfoldable pub below_it : Condition → Set → List Finding
below_it c ties = walked (demand_below (asked_at (condition c) ties))

pub own_first : (asked : Bool) (c : Condition) (ties : Set) → demanded asked (condition c) ties ≡ pick asked (owed c ties) [] ++ below_it c ties
unfolding demanded owed below_it demand_below demand_broken gather
own_first true c ties = found_at demand_below demand_broken extent_pos demand_shrinks _
own_first false c ties = found_at demand_below demand_broken extent_pos demand_shrinks _

-- the same of what is written, and of the room for it
module _ (asked : Bool) (c : Condition) (ties : Set) where
  pub added_own_first : {x y z : Entries} → Added (pick asked (owed c ties) []) x y → Added (below_it c ties) y z → Added (demanded asked (condition c) ties) x z
  added_own_first own rest = added_is (own_first asked c ties) (added_then own rest)

  pub room_own : {at : ℕ} → Room (demanded asked (condition c) ties) at → Room (pick asked (owed c ties) []) at
  room_own room = room_first _ _ (room_is (own_first asked c ties) room)

  pub room_below : {x y : Entries} → Added (pick asked (owed c ties) []) x y → HasRoom (demanded asked (condition c) ties) x → HasRoom (below_it c ties) y
  room_below own room = room_after _ _ own (room_is (own_first asked c ties) room)

-- an operand owes nothing itself
at_operand : (t : Term) (ties : Set) → demanded true (operand t) ties ≡ walked (demand_below (asked_at (operand t) ties))
unfolding demanded demand_broken gather
at_operand t ties = found_at demand_below demand_broken extent_pos demand_shrinks _

-- one place below, or two, with what is tied there
one : (asked : Bool) (s : Spot) {ties inner : Set} → inner ≡ ties → walked (record { spot = s; names = ties; asked = asked } ∷ []) ≡ demanded asked s inner
unfolding demanded gather
one asked s e = append-nil _ ∙ ap (demanded asked s) (sym e)

two : (s t : Spot) {left right first second : Set} → first ≡ left → second ≡ right
    → walked (asked_at s left ∷ asked_at t right ∷ []) ≡ demanded true s first ++ demanded true t second
unfolding demanded gather
two s t e d = ap₂ {C = List Finding} ◌++◌ (ap (demanded true s) (sym e)) (one true t d)

asked_so : (s : Spot) (names : Set) {asked so : Bool} → asked ≡ so → demanded so s names ≡ demanded asked s names
asked_so s names e = ap (λ (b : Bool). demanded b s names) (sym e)

-- where the test says so, nothing is demanded
module _ (t : Tree) (ties : Set) where
  pub met_demanded : (asked : Bool) → is_condition t ≡ true → met (known_of t).need (known_of t).hard ties ≡ true → demanded asked (condition (as_condition t)) ties ≡ []
  unfolding demanded
  met_demanded asked s e = met_body t ties asked s e

  pub met_operand_demanded : is_term t ≡ true → met (known_of t).need (known_of t).hard ties ≡ true → demanded true (operand (as_term t)) ties ≡ []
  unfolding demanded
  met_operand_demanded s e = met_term t ties s e

-- where the walk goes on below a condition: what is found there, with these names tied at the first place and at the second
module _ (ties : Set) (columns : List ℕ) where
  abbrev pub goes_on : (first second : Set) → Bool → Below → List Finding
  goes_on first second asked below.Nothing = []
  goes_on first second asked (below.Condition b) = demanded asked (condition (condition_of columns b.0)) first
  goes_on first second asked (below.Conditions l r) = demanded true (condition (condition_of columns l.0)) first ++ demanded true (condition (condition_of columns r.0)) second
  goes_on first second asked (below.Operands l r) = demanded true (operand (term_of columns l.0)) ties ++ demanded true (operand (term_of columns r.0)) ties

  by_kind : (n : NodeNo) (m : Node) → let c = as_condition (planted (tree_of columns) n m) in
      below_it c ties ≡ goes_on (place_below 0 c ties).names (place_below 1 c ties).names (place_below 0 c ties).asked (entered_below m)
  unfolding below_it demand_below place_below gather
  by_kind n =
      entered_cases (tree_of columns) n
      (λ s c. below_it c ties ≡ goes_on (place_below 0 c ties).names (place_below 1 c ties).names (place_below 0 c ties).asked s)
      (λ l r. two _ _ refl refl) (λ l r. two _ _ refl refl) (λ b. one _ _ refl) (λ k b w. one _ _ refl) (λ l r w. two _ _ refl refl) (λ s y b. one _ _ refl)
      (λ o l r. two _ _ refl refl) (λ a l. refl) (λ b l. one _ _ refl) (λ s. refl) (λ k y. refl) refl

module _ (ties : Set) {columns : List ℕ} {i : ℕ} where
  -- ---- below a condition

  in_below : {m : Node} → Arm columns i m → below_it (condition_of columns i) ties ≡ below_it (as_condition (planted (tree_of columns) (node_no i) m)) ties
  in_below a = ap (λ (t : Tree). below_it (as_condition t) ties) a.tree

  at_place : {A : Type 0} (f : Place → A) (k : ℕ) {m : Node} → Arm columns i m
      → f (place_below k (condition_of columns i) ties) ≡ f (place_below k (as_condition (planted (tree_of columns) (node_no i) m)) ties)
  at_place f k a = ap (λ (t : Tree). f (place_below k (as_condition t) ties)) a.tree

  named_at : (k : ℕ) {m : Node} {s : Set} → Arm columns i m → s ≡ (place_below k (condition_of columns i) ties).names → s ≡ (place_below k (as_condition (planted (tree_of columns) (node_no i) m)) ties).names
  named_at k a e = e ∙ at_place (λ (p : Place). p.names) k a

  pub below_entered : {m : Node} {s : Below} {first second : Set} {asked : Bool} → Arm columns i m → s ≡ entered_below m
      → first ≡ (place_below 0 (condition_of columns i) ties).names → second ≡ (place_below 1 (condition_of columns i) ties).names
      → asked ≡ (place_below 0 (condition_of columns i) ties).asked → below_it (condition_of columns i) ties ≡ goes_on ties columns first second asked s
  below_entered a e f g h = in_below a ∙ by_kind ties columns _ _ ∙ sym (rw (e, named_at 0 a f, named_at 1 a g, h ∙ at_place (λ (p : Place). p.asked) 0 a))

  -- what is tied below
  pub first_since : {given grown : Set} {l r : NodeNo} {w : ℕ} → Arm columns i (node.Since l r w) → given ≡ restricted (condition_of columns r.0)
      → grown ≡ ties ∪ given → grown ≡ (place_below 0 (condition_of columns i) ties).names
  unfolding planted as_condition demand_below place_below
  first_since a e g = g ∙ ap₂ ◌∪◌ refl e ∙ sym (at_place (λ (p : Place). p.names) 0 a)

  pub first_exists : {inner : Set} {s : Slot} {y : ℕ} {b : NodeNo} → Arm columns i (node.Exists s y b) → inner ≡ ties ∖ named s → inner ≡ (place_below 0 (condition_of columns i) ties).names
  unfolding planted as_condition demand_below place_below
  first_exists a e = e ∙ sym (at_place (λ (p : Place). p.names) 0 a)

  pub second_and : {given grown : Set} {l r : NodeNo} → Arm columns i (node.And l r) → given ≡ restricted (condition_of columns l.0) → grown ≡ ties ∪ given
      → grown ≡ (place_below 1 (condition_of columns i) ties).names
  unfolding planted as_condition demand_below place_below
  second_and a e g = g ∙ ap₂ ◌∪◌ refl e ∙ sym (at_place (λ (p : Place). p.names) 1 a)

  -- ---- from an operand on

  in_operand : {m : Node} → Arm columns i m
      → demanded true (operand (term_of columns i)) ties ≡ demanded true (operand (as_term (planted (tree_of columns) (node_no i) m))) ties
  in_operand a = ap (λ (t : Tree). demanded true (operand (as_term t)) ties) a.tree

  pub operand_arith : {o : ℕ} {l r : NodeNo} → Arm columns i (node.Arith o l r)
      → demanded true (operand (term_of columns i)) ties ≡ demanded true (operand (term_of columns l.0)) ties ++ demanded true (operand (term_of columns r.0)) ties
  unfolding planted as_term demand_below
  operand_arith a = in_operand a ∙ at_operand _ ties ∙ two _ _ refl refl

  pub operand_aggregate : {inner : Set} {l b : NodeNo} {m : Node} → Aggregate l b m → Arm columns i m → inner ≡ ties ∖ binder_names (binders_of columns l.0)
      → demanded true (operand (term_of columns i)) ties ≡ demanded true (condition (condition_of columns b.0)) inner
  unfolding planted as_term demand_below
  operand_aggregate sum a e = in_operand a ∙ at_operand _ ties ∙ one _ _ e
  operand_aggregate count a e = in_operand a ∙ at_operand _ ties ∙ one _ _ e

-- ---- a condition's own entries

-- it is one rule, by whether it is an equality and what that ties
module _ (n : NodeNo) (left right ties : Set) where
  pub compared_sides : {both : Set} → both ≡ left ∪ right → owed_compared n left right ties ≡ findings (for_names 31 n (both ∖ ties))
  unfolding owed_compared
  compared_sides d = rw d

  pub equated_left : {side : Equality} {x : NameNo} → side ≡ Left x → owed_equated n side left right ties ≡ findings (for_names 30 n (right ∖ ties))
  unfolding owed_equated
  equated_left e = rw e

  pub equated_right : {side : Equality} {x : NameNo} → side ≡ Right x → owed_equated n side left right ties ≡ findings (for_names 30 n (left ∖ ties))
  unfolding owed_equated
  equated_right e = rw e

  pub equated_nothing : {side : Equality} {why : Reason} → side ≡ Nothing why → owed_equated n side left right ties ≡ owed_compared n left right ties
  unfolding owed_equated
  equated_nothing e = rw e

-- what the definitions say of a comparison's sides is what the code is given
abbrev own_entries : NodeNo → ℕ → Term → Term → Set → List Finding
own_entries n o l r ties = gather findings (comparison_broken n o l r ties ∷ [])

module _ (n : NodeNo) (o : ℕ) (l r : Term) (ties : Set) {left right : Set} (p : left ≡ term_free l) (q : right ≡ term_free r) where
  equated : is_equality o ≡ true → {side : Equality} → side ≡ equality l r → own_entries n o l r ties ≡ owed_equated n side left right ties
  unfolding owed_equated owed_compared gather
  equated b e = rw (b, e, p, q) (by_side (equality l r))
    where
      by_side : (s : Equality) → gather findings (equality_broken n l r ties s ∷ []) ≡ owed_equated n s (term_free l) (term_free r) ties
      by_side (Left x) = append-nil _
      by_side (Right x) = append-nil _
      by_side (Nothing why) = append-nil _

  compared : is_equality o ≡ false → own_entries n o l r ties ≡ owed_compared n left right ties
  unfolding owed_compared gather
  compared b = rw (b, p, q) (append-nil _)

module _ (ties : Set) {columns : List ℕ} {i : ℕ} where
  in_owed : {m : Node} → Arm columns i m → owed (condition_of columns i) ties ≡ owed (as_condition (planted (tree_of columns) (node_no i) m)) ties
  in_owed a = ap (λ (t : Tree). owed (as_condition t) ties) a.tree

  module _ {left right : Set} {o : ℕ} {l r : NodeNo} (a : Arm columns i (node.Comparison o l r)) (p : left ≡ term_free (term_of columns l.0))
      (q : right ≡ term_free (term_of columns r.0)) where
    pub owed_equality : o ≡ 0 → {side : Equality} → side ≡ equality (term_of columns l.0) (term_of columns r.0)
        → owed (condition_of columns i) ties ≡ owed_equated (node_no i) side left right ties
    unfolding planted as_condition owed demand_broken
    owed_equality h e = in_owed a ∙ equated _ o _ _ _ p q (eq-eqb o 0 h) e

    pub owed_other : (o ≡ 0 → ⊥) → owed (condition_of columns i) ties ≡ owed_compared (node_no i) left right ties
    unfolding planted as_condition owed demand_broken
    owed_other h = in_owed a ∙ compared _ o _ _ _ p q (ne_eqb o 0 h)

  pub owed_not : {needs : Set} {b : NodeNo} → Arm columns i (node.Not b) → needs ≡ free (condition_of columns b.0)
      → owed (condition_of columns i) ties ≡ findings (for_names 31 (node_no i) (needs ∖ ties))
  unfolding planted as_condition owed demand_broken gather
  owed_not a e = in_owed a ∙ append-nil _ ∙ ap (λ (z : Set). findings (for_names 31 (node_no i) (z ∖ ties))) (sym e)

  pub owed_since : {needs known : Set} {l r : NodeNo} {w : ℕ} → Arm columns i (node.Since l r w) → needs ≡ free (condition_of columns l.0)
      → known ≡ ties ∪ restricted (condition_of columns r.0) → owed (condition_of columns i) ties ≡ findings (for_names 32 (node_no i) (needs ∖ known))
  unfolding planted as_condition owed demand_broken gather
  owed_since a e k = in_owed a ∙ append-nil _ ∙ ap₂ (λ (x y : Set). findings (for_names 32 (node_no i) (x ∖ y))) (sym e) (sym k)

-- ---- the other kinds

-- all but Not, Since and a comparison
abbrev no_demand_kinds : List ℕ
no_demand_kinds = 0 ∷ 1 ∷ 4 ∷ 6 ∷ []

no_demand : (ties : Set) (t : ℕ → Tree) (n : NodeNo) (m : Node) → OneOf no_demand_kinds (tag_of owing_type (seen_owing m)) → owed (as_condition (planted t n m)) ties ≡ []
unfolding owed demand_broken gather seen_owing
no_demand ties t n =
    condition_cases t n (λ m z. OneOf no_demand_kinds (tag_of owing_type (seen_owing m)) → owed z ties ≡ [])
    (λ l r h. refl) (λ l r h. refl) (λ b h. absurd (miss no_demand_kinds 2 tt h)) (λ b w h. refl) (λ b w h. refl)
    (λ l r w h. absurd (miss no_demand_kinds 3 tt h)) (λ s y b h. refl) (λ o l r h. absurd (miss no_demand_kinds 5 tt h)) (λ a l h. refl)
    (λ b l h. refl) (λ s h. refl) (λ y h. refl) (λ y h. refl) (λ m e h. refl)

-- neither arithmetic nor an aggregate with a body
abbrev no_body_kinds : List ℕ
no_body_kinds = 0 ∷ 1 ∷ []

no_body : (ties : Set) (t : ℕ → Tree) (n : NodeNo) (m : Node) → OneOf no_body_kinds (tag_of operand_type (seen_operand m)) → demanded true (operand (as_term (planted t n m))) ties ≡ []
unfolding demanded demand_below demand_broken gather seen_operand
no_body ties t n =
    term_cases t n (λ m z. OneOf no_body_kinds (tag_of operand_type (seen_operand m)) → demanded true (operand z) ties ≡ [])
    (λ x h. at_operand _ ties) (λ h. at_operand _ ties) (λ y h. at_operand _ ties) (λ y h. at_operand _ ties) (λ y h. at_operand _ ties)
    (λ k h. at_operand _ ties) (λ k h. at_operand _ ties) (λ l h. at_operand _ ties) (λ o l r h. absurd (miss no_body_kinds 2 tt h))
    (λ s l b h. absurd (miss no_body_kinds 3 tt h)) (λ l b h. absurd (miss no_body_kinds 3 tt h)) (λ y h. at_operand _ ties)
    (λ m e h. at_operand _ ties)

-- all but Since and Exists
abbrev same_first_kinds : List ℕ
same_first_kinds = 0 ∷ 1 ∷ 2 ∷ 5 ∷ 6 ∷ []

same_first : (ties : Set) (t : ℕ → Tree) (n : NodeNo) (m : Node) → OneOf same_first_kinds (tag_of owing_type (seen_owing m))
    → (place_below 0 (as_condition (planted t n m)) ties).names ≡ ties
unfolding demand_below place_below seen_owing
same_first ties t n =
    condition_cases t n (λ m z. OneOf same_first_kinds (tag_of owing_type (seen_owing m)) → (place_below 0 z ties).names ≡ ties)
    (λ l r h. refl) (λ l r h. refl) (λ b h. refl) (λ b w h. refl) (λ b w h. refl) (λ l r w h. absurd (miss same_first_kinds 3 tt h))
    (λ s y b h. absurd (miss same_first_kinds 4 tt h)) (λ o l r h. refl) (λ a l h. refl) (λ b l h. refl) (λ s h. refl) (λ y h. refl) (λ y h. refl) (λ m e h. refl)

-- all but And
abbrev same_second_kinds : List ℕ
same_second_kinds = 0 ∷ 2 ∷ 3 ∷ 4 ∷ 5 ∷ 6 ∷ []

same_second : (ties : Set) (t : ℕ → Tree) (n : NodeNo) (m : Node) → OneOf same_second_kinds (tag_of owing_type (seen_owing m))
    → (place_below 1 (as_condition (planted t n m)) ties).names ≡ ties
unfolding demand_below place_below seen_owing
same_second ties t n =
    condition_cases t n (λ m z. OneOf same_second_kinds (tag_of owing_type (seen_owing m)) → (place_below 1 z ties).names ≡ ties)
    (λ l r h. absurd (miss same_second_kinds 1 tt h)) (λ l r h. refl) (λ b h. refl) (λ b w h. refl) (λ b w h. refl) (λ l r w h. refl)
    (λ s y b h. refl) (λ o l r h. refl) (λ a l h. refl) (λ b l h. refl) (λ s h. refl) (λ y h. refl) (λ y h. refl) (λ m e h. refl)

-- all but Not and Refine
abbrev asked_kinds : List ℕ
asked_kinds = 0 ∷ 1 ∷ 3 ∷ 4 ∷ 5 ∷ []

asked : (ties : Set) (t : ℕ → Tree) (n : NodeNo) (m : Node) → OneOf asked_kinds (tag_of owing_type (seen_owing m))
    → (place_below 0 (as_condition (planted t n m)) ties).asked ≡ true
unfolding demand_below place_below seen_owing
asked ties t n =
    condition_cases t n (λ m z. OneOf asked_kinds (tag_of owing_type (seen_owing m)) → (place_below 0 z ties).asked ≡ true)
    (λ l r h. refl) (λ l r h. refl) (λ b h. absurd (miss asked_kinds 2 tt h)) (λ b w h. refl) (λ b w h. refl) (λ l r w h. refl) (λ s y b h. refl) (λ o l r h. refl)
    (λ a l h. refl) (λ b l h. absurd (miss asked_kinds 6 tt h)) (λ s h. refl) (λ y h. refl) (λ y h. refl) (λ m e h. refl)

abbrev unasked_kinds : List ℕ
unasked_kinds = 2 ∷ 6 ∷ []

unasked : (columns : List ℕ) (i : ℕ) (s : Owing) → OwingArm columns i s → OneOf unasked_kinds (tag_of owing_type s) → FirstAsked (condition_of columns i) false
unfolding planted as_condition demand_below place_below
unasked columns i Other a h ties = absurd (miss unasked_kinds 0 tt h)
unasked columns i (And l) a h ties = absurd (miss unasked_kinds 1 tt h)
unasked columns i (Not b) a h ties = sym (at_place ties (λ (p : Place). p.asked) 0 a)
unasked columns i (Since l r) a h ties = absurd (miss unasked_kinds 3 tt h)
unasked columns i (Exists s) a h ties = absurd (miss unasked_kinds 4 tt h)
unasked columns i (Comparison o l r) a h ties = absurd (miss unasked_kinds 5 tt h)
unasked columns i Refine a h ties = sym (at_place ties (λ (p : Place). p.asked) 0 a.2)

-- by what is seen of the node
module _ {columns : List ℕ} {i : ℕ} {m : Node} where
  pub operand_none : (ties : Set) {s : Operand} → s ≡ seen_operand m → Arm columns i m → OneOf no_body_kinds (tag_of operand_type s)
      → demanded true (operand (term_of columns i)) ties ≡ []
  operand_none ties e a h = in_operand ties a ∙ no_body ties _ _ _ (subst (λ (s : Operand). OneOf no_body_kinds (tag_of operand_type s)) e h)

  module _ {s : Owing} (e : s ≡ seen_owing m) (a : Arm columns i m) where
    among : (ks : List ℕ) → OneOf ks (tag_of owing_type s) → OneOf ks (tag_of owing_type (seen_owing m))
    among ks h = subst (λ (s : Owing). OneOf ks (tag_of owing_type s)) e h

    pub owed_none : (ties : Set) → OneOf no_demand_kinds (tag_of owing_type s) → owed (condition_of columns i) ties ≡ []
    owed_none ties h = in_owed ties a ∙ no_demand ties _ _ _ (among no_demand_kinds h)

    pub first_same : (ties : Set) → OneOf same_first_kinds (tag_of owing_type s) → ties ≡ (place_below 0 (condition_of columns i) ties).names
    first_same ties h = sym (at_place ties (λ (p : Place). p.names) 0 a ∙ same_first ties _ _ _ (among same_first_kinds h))

    pub second_same : (ties : Set) → OneOf same_second_kinds (tag_of owing_type s) → ties ≡ (place_below 1 (condition_of columns i) ties).names
    second_same ties h = sym (at_place ties (λ (p : Place). p.names) 1 a ∙ same_second ties _ _ _ (among same_second_kinds h))

    pub first_asked : OneOf asked_kinds (tag_of owing_type s) → FirstAsked (condition_of columns i) true
    first_asked h ties = sym (at_place ties (λ (p : Place). p.asked) 0 a ∙ asked ties _ _ _ (among asked_kinds h))

    pub first_unasked : OneOf unasked_kinds (tag_of owing_type s) → FirstAsked (condition_of columns i) false
    first_unasked h = unasked columns i s (owing_told e a) h
