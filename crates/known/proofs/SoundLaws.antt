-- Where no rule is broken below whatever is in scope, where no word is reserved or nothing is bound, and where the free names are in scope or no aggregate asks for
-- them, scoping finds nothing (`sound_condition`, `sound_operand`): its walk may pass over. Assumes nothing.
use mathlib.Core.Path.{◌≡◌, refl, sym, ap, ap₂, ◌∙◌, subst}
use mathlib.Core.Bool.{Bool, true, false, not, ◌||◌, ◌&&◌, and-false, true≢false}
use mathlib.Core.List.{List, [], ◌∷◌, ◌++◌, append_assoc}
use Prim.Native.Nat.{ℕ, ◌<◌}
use borrow.Author.Tests.{eq-eqb}
use Rattle.paper.specs.declared.NodeNo.{NodeNo}
use Rattle.paper.specs.declared.Finding.{Finding}
use Rattle.paper.specs.declared.Slot.{Slot}
use Rattle.paper.specs.declared.Slot.TheVariants as slot
use Rattle.paper.specs.Record.{pick}
use Rattle.paper.specs.Sets.{Set, none, only, ◌∪◌, ◌∩◌, ◌∖◌, outside}
use Rattle.paper.specs.Tree.{Condition, Term, Arguments, Items, Binders, Tree, as_condition, as_term}
use Rattle.paper.specs.Tree.Condition.{And, Or, Not, Past, Since, Exists, Comparison, Predicate, Refine, Tp, Opaque}
use Rattle.paper.specs.Tree.Term.{Var, Wildcard, Value, Sigil, Array, Arith, Sum, Count, AggregateCall}
use Rattle.paper.specs.Tree.Arguments.{no_argument, argument}
use Rattle.paper.specs.Tree.Items.{no_item, item}
use Rattle.paper.specs.Tree.Binders.{no_binder, binder}
use Rattle.paper.specs.FreeAndRestricted.{named, is_sigil, binder_names, free, term_free, restricted, holds_sigil}
use Rattle.paper.specs.Places.{condition, operand, searched, searched_arguments, searched_items, Spot, Place, asked_at, for_names, at_cells, gather, at_cell, findings, found}
use Rattle.paper.specs.Scoping.{binder_sigil, cell_of, cells, scope_below, scope_broken, aggregate_rules}
use Rattle.paper.proofs.SetLaws.{members_none}
use Rattle.paper.proofs.Walks.{found_at}
use Rattle.paper.proofs.Exact.{extent_pos, scope_shrinks}
use Rattle.paper.proofs.RestrictedFree.{restricted_free}
use Rattle.trees.specs.Trees.{is_condition, is_term}
use Rattle.known.specs.Known.{Known, condition_known, term_known, known_of}
use Rattle.known.proofs.KnownLaws.{condition_is, term_is}
use Rattle.known.proofs.RowLaws.{both_true}
use Rattle.known.specs.Needs.{sound, slot_in, binder_in, has_none, has_some, computed, items_computed, arguments_computed, unfit, broken, term_broken, binds, term_binds, unclosed, term_unclosed}
use Rattle.known.proofs.Covers.{or_none, or_left, or_right, Covers, covers_left, covers_right, covers_eased, none_left, has_none_covers, slot_out, binder_out}

-- ---- rules that are broken for no name

named_none : (rule : ℕ) (n : NodeNo) (s : Set) → ((k : ℕ) → k < 128 → s k ≡ false) → findings (for_names rule n s) ≡ []
unfolding findings
named_none rule n s f = rw (members_none s 128 f)

-- 22
unreserved : (n : NodeNo) (s words : Set) → ((k : ℕ) → words k ≡ false) → findings (for_names 22 n (s ∩ words)) ≡ []
unfolding ◌∩◌
unreserved n s words w = named_none 22 n _ (λ k h. ap (◌&&◌ (s k)) (w k) ∙ and-false (s k))

inside : (b : Bool) → not b ≡ false → b ≡ true
inside true e = refl
inside false e = absurd (true≢false e)

-- a name that is bound, where none of the binders is outside a set
less_none : (a b : Set) → ((k : ℕ) → a k ≡ true → outside b k ≡ false) → (k : ℕ) → (a ∖ b) k ≡ false
unfolding ◌∖◌ outside
less_none a b f k = go (a k) refl
  where
    go : (x : Bool) → a k ≡ x → (a k && not (b k)) ≡ false
    go true e = rw (e, f k e)
    go false e = rw e

-- 23
restricted_binder : (n : NodeNo) (s : Slot) (b : Condition) → (not (holds_sigil b) && slot_in s (outside (restricted b))) ≡ false
    → findings (for_names 23 n (pick (holds_sigil b) none (named s ∖ restricted b))) ≡ []
unfolding none
restricted_binder n s b e = go (holds_sigil b) e
  where
    go : (sigil : Bool) → (not sigil && slot_in s (outside (restricted b))) ≡ false → findings (for_names 23 n (pick sigil none (named s ∖ restricted b))) ≡ []
    go true d = named_none 23 n none (λ k h. refl)
    go false d = named_none 23 n _ (λ k h. less_none (named s) (restricted b) (slot_out s _ d) k)

-- 22, 26 and 27 of an aggregate
cell_none : (rule : ℕ) (n : NodeNo) (s : Slot) (a : Set) → ((k : ℕ) → named s k ≡ true → a k ≡ false) → (l : List Finding) → l ≡ [] → gather (at_cell rule a) (cell_of n s) ++ l ≡ []
unfolding gather at_cell cell_of named only
cell_none rule n (slot.Name x) a f l e = rw (f x.0 (eq-eqb x.0 x.0 refl), e)
cell_none rule n (slot.Param k) a f l e = e
cell_none rule n (slot.Binder k) a f l e = e

pub gather_both : {A B : Type 0} (f : A → List B) (a b : List A) → gather f (a ++ b) ≡ gather f a ++ gather f b
unfolding gather
gather_both {B = B} f [] b = refl
gather_both {B = B} f (x ∷ a) b = ap (λ (l : List B). f x ++ l) (gather_both f a b) ∙ sym (append_assoc (f x) (gather f a) (gather f b))

pub cells_none : (rule : ℕ) (a : Set) (l : Binders) → ((k : ℕ) → binder_names l k ≡ true → a k ≡ false) → findings (at_cells rule a (cells l)) ≡ []
unfolding findings cells gather binder_names ◌∪◌
cells_none rule a (no_binder n) f = refl
cells_none rule a (binder n s y l) f =
    gather_both (at_cell rule a) (cell_of n s) (cells l)
    ∙ cell_none rule n s a (λ k e. f k (or_left (named s k) (binder_names l k) e)) _ (cells_none rule a l (λ k e. f k (or_right (named s k) (binder_names l k) e)))

-- a body's free names are in scope or bound, where those of the aggregate are in scope
closed : (b : Condition) (l : Binders) (scope : Set) → (has_some (free b ∖ binder_names l) ≡ true → Covers (free b ∖ binder_names l) scope)
    → Covers (free b) (scope ∪ binder_names l)
unfolding has_some ◌∪◌
closed b l scope f = go (has_none (free b ∖ binder_names l)) refl
  where
    go : (x : Bool) → has_none (free b ∖ binder_names l) ≡ x → Covers (free b) (scope ∪ binder_names l)
    go true e = λ k h g. or_right (scope k) (binder_names l k) (has_none_covers (free b) (binder_names l) e k h g)
    go false e = covers_eased (free b) (binder_names l) scope (f (ap not e))

rules_none : (words : Set) (n : NodeNo) (summed : Set) (l : Binders) (b : Condition) (scope : Set) → ((k : ℕ) → words k ≡ false)
    → ((k : ℕ) → summed k ≡ true → outside (binder_names l) k ≡ false) → binder_in l (outside (restricted b)) ≡ false → Covers (free b) (scope ∪ binder_names l)
    → gather findings (aggregate_rules words n summed l b scope) ≡ []
unfolding gather findings outside
rules_none words n summed l b scope w u r f =
    let bound = binder_out l (outside (restricted b)) r in
    rw (
      cells_none 22 words l (λ k e. w k),
      members_none (summed ∖ binder_names l) 128 (λ k h. less_none summed (binder_names l) u k),
      none_left (free b) (scope ∪ binder_names l) f,
      cells_none 26 (outside (free b)) l (λ k e. freed k (bound k e)),
      cells_none 27 (outside (restricted b)) l bound,
    )
  where
    freed : (k : ℕ) → outside (restricted b) k ≡ false → outside (free b) k ≡ false
    freed k e = ap not (restricted_free b k (inside (restricted b k) e))

-- ---- places

module _ (words : Set) where
  abbrev from : Spot → Set → List Finding
  from s scope = found scope_below (scope_broken words) (asked_at s scope)

  abbrev walked : List Place → List Finding
  walked ps = gather (found scope_below (scope_broken words)) ps

  -- nothing is broken at a place, and nothing is found below it
  at_none : (p : Place) → gather findings (scope_broken words p) ≡ [] → walked (scope_below p) ≡ [] → found scope_below (scope_broken words) p ≡ []
  at_none p e f = found_at scope_below (scope_broken words) extent_pos scope_shrinks p ∙ ap₂ {C = List Finding} ◌++◌ e f

  one : (p : Place) → found scope_below (scope_broken words) p ≡ [] → walked (p ∷ []) ≡ []
  unfolding gather
  one p e = rw e

  two : (p q : Place) → found scope_below (scope_broken words) p ≡ [] → found scope_below (scope_broken words) q ≡ [] → walked (p ∷ q ∷ []) ≡ []
  unfolding gather
  two p q e f = rw (e, f)

  -- ---- what is searched

  mutual
    unfolding computed scope_below scope_broken gather

    searched_none : (t : Term) (scope : Set) → computed t ≡ false → from (searched t) scope ≡ []
    searched_none (Var n x) scope e = at_none _ refl refl
    searched_none (Wildcard n) scope e = at_none _ refl refl
    searched_none (Value n k y) scope e = at_none _ refl refl
    searched_none (Sigil n k i) scope e = at_none _ refl refl
    searched_none (Array n l) scope e = at_none _ refl (one _ (items_none l scope e))
    searched_none (Arith n o l r) scope e = absurd (true≢false e)
    searched_none (Sum n s l b) scope e = absurd (true≢false e)
    searched_none (Count n l b) scope e = absurd (true≢false e)
    searched_none (AggregateCall n y) scope e = absurd (true≢false e)

    items_none : (l : Items) (scope : Set) → items_computed l ≡ false → from (searched_items l) scope ≡ []
    items_none (no_item n) scope e = at_none _ refl refl
    items_none (item n t l) scope e =
        let p = or_none (computed t) (items_computed l) e in at_none _ refl (two _ _ (searched_none t scope p.0) (items_none l scope p.1))

  arguments_none : (l : Arguments) (scope : Set) → arguments_computed l ≡ false → from (searched_arguments l) scope ≡ []
  unfolding arguments_computed scope_below scope_broken gather
  arguments_none (no_argument n) scope e = at_none _ refl refl
  arguments_none (argument n f t l) scope e =
      let p = or_none (computed t) (arguments_computed l) e in at_none _ refl (two _ _ (searched_none t scope p.0) (arguments_none l scope p.1))

  -- ---- conditions and operands

  -- what is asked of a part, from what is asked of both
  abbrev Unreserved : Bool → Type 0
  Unreserved b = b ≡ true → (k : ℕ) → words k ≡ false

  abbrev InScope : Bool → Set → Set → Type 0
  InScope b s scope = b ≡ true → Covers s scope

  -- two places below, with the same names in scope
  sides : (p q : Spot) (a b c d g h : Bool) (s t scope : Set) → (a || b) ≡ false → Unreserved (c || d) → InScope (g || h) (s ∪ t) scope
      → (a ≡ false → Unreserved c → InScope g s scope → from p scope ≡ []) → (b ≡ false → Unreserved d → InScope h t scope → from q scope ≡ [])
      → walked (asked_at p scope ∷ asked_at q scope ∷ []) ≡ []
  sides p q a b c d g h s t scope e w f left right =
      let n = or_none a b e in
      two _ _ (left n.0 (λ x. w (or_left c d x)) (λ x. covers_left s t scope (f (or_left g h x))))
      (right n.1 (λ x. w (or_right c d x)) (λ x. covers_right s t scope (f (or_right g h x))))

  -- an aggregate: skipped, or with nothing to find at it
  aggregate_none : (skipped : Bool) (n : NodeNo) (summed : Set) (l : Binders) (b : Condition) (scope : Set) → (unfit : Bool)
      → (unfit ≡ false → (k : ℕ) → summed k ≡ true → outside (binder_names l) k ≡ false)
      → (not skipped && (broken b || (unfit || binder_in l (outside (restricted b))))) ≡ false → Unreserved (not skipped)
      → InScope (not skipped && (unclosed b || has_some (free b ∖ binder_names l))) (free b ∖ binder_names l) scope
      → (broken b ≡ false → ((k : ℕ) → words k ≡ false) → InScope (unclosed b) (free b) (scope ∪ binder_names l) → from (condition b) (scope ∪ binder_names l) ≡ [])
      → (gather findings (pick skipped [] (aggregate_rules words n summed l b scope)) ≡ [])
      × (walked (pick skipped [] (asked_at (condition b) (scope ∪ binder_names l) ∷ [])) ≡ [])
  unfolding gather
  aggregate_none true n summed l b scope unfit u e w f body = (refl, refl)
  aggregate_none false n summed l b scope unfit u e w f body =
      let p = or_none (broken b) (unfit || binder_in l (outside (restricted b))) e in
      let q = or_none unfit (binder_in l (outside (restricted b))) p.1 in
      let covered = closed b l scope (λ g. f (or_right (unclosed b) _ g)) in
      (rules_none words n summed l b scope (w refl) (u q.0) q.1 covered, one _ (body p.0 (w refl) (λ g. covered)))

  mutual
    unfolding broken binds unclosed unfit free scope_below scope_broken gather none

    pub sound_condition : (c : Condition) (scope : Set) → broken c ≡ false → Unreserved (binds c) → InScope (unclosed c) (free c) scope → from (condition c) scope ≡ []
    sound_condition (And n l r) scope e w f =
        at_none _ refl
        (sides (condition l) (condition r) (broken l) (broken r) (binds l) (binds r) (unclosed l) (unclosed r) (free l) (free r) scope e w f (λ x y z. sound_condition l scope x y z) (λ x y z. sound_condition r scope x y z))
    sound_condition (Or n l r) scope e w f =
        at_none _ refl
        (sides (condition l) (condition r) (broken l) (broken r) (binds l) (binds r) (unclosed l) (unclosed r) (free l) (free r) scope e w f (λ x y z. sound_condition l scope x y z) (λ x y z. sound_condition r scope x y z))
    sound_condition (Not n b) scope e w f = at_none _ refl (one _ (sound_condition b scope e w f))
    sound_condition (Past n k b x) scope e w f = at_none _ refl (one _ (sound_condition b scope e w f))
    sound_condition (Since n l r x) scope e w f =
        at_none _ refl
        (sides (condition l) (condition r) (broken l) (broken r) (binds l) (binds r) (unclosed l) (unclosed r) (free l) (free r) scope e w f (λ x y z. sound_condition l scope x y z) (λ x y z. sound_condition r scope x y z))
    sound_condition (Exists n s y b) scope e w f =
        let p = or_none (broken b) (not (holds_sigil b) && slot_in s (outside (restricted b))) e in
        at_none _ (rw (unreserved n (named s) words (w refl), restricted_binder n s b p.1))
        (one _ (sound_condition b _ p.0 (λ g. w refl) (λ g. covers_eased (free b) (named s) scope (f g))))
    sound_condition (Comparison n o l r) scope e w f =
        at_none _ refl
        (sides (operand l) (operand r) (term_broken l) (term_broken r) (term_binds l) (term_binds r) (term_unclosed l) (term_unclosed r) (term_free l) (term_free r) scope e w f (λ x y z. sound_operand l scope x y z) (λ x y z. sound_operand r scope x y z))
    sound_condition (Predicate n a l) scope e w f = at_none _ refl (one _ (arguments_none l scope e))
    sound_condition (Refine n b l) scope e w f = at_none _ refl (one _ (sound_condition b scope e w (λ g. covers_left (free b) _ scope (f g))))
    sound_condition (Tp n s) scope e w f = at_none _ (rw (unreserved n (named s) words (w refl))) refl
    sound_condition (Opaque n k y) scope e w f = at_none _ refl refl

    pub sound_operand : (t : Term) (scope : Set) → term_broken t ≡ false → Unreserved (term_binds t) → InScope (term_unclosed t) (term_free t) scope → from (operand t) scope ≡ []
    sound_operand (Var n x) scope e w f = at_none _ refl refl
    sound_operand (Wildcard n) scope e w f = at_none _ refl refl
    sound_operand (Value n k y) scope e w f = at_none _ refl refl
    sound_operand (Sigil n k i) scope e w f = at_none _ refl refl
    sound_operand (Array n l) scope e w f = at_none _ refl (one _ (items_none l scope e))
    sound_operand (Arith n o l r) scope e w f =
        at_none _ refl
        (sides (operand l) (operand r) (term_broken l) (term_broken r) (term_binds l) (term_binds r) (term_unclosed l) (term_unclosed r) (term_free l) (term_free r) scope e w f (λ x y z. sound_operand l scope x y z) (λ x y z. sound_operand r scope x y z))
    sound_operand (Sum n s l b) scope e w f =
        let p = aggregate_none (is_sigil s || binder_sigil l) n (named s) l b scope (slot_in s (outside (binder_names l))) (slot_out s _) e w f
        (λ g v h. sound_condition b _ g (λ i. v) h) in
        at_none _ p.0 p.1
    sound_operand (Count n l b) scope e w f =
        let p = aggregate_none (binder_sigil l) n none l b scope false (λ g k h. absurd (true≢false (sym h))) e w f (λ g v h. sound_condition b _ g (λ i. v) h) in
        at_none _ p.0 p.1
    sound_operand (AggregateCall n y) scope e w f = at_none _ refl refl

-- what the test says
module _ (words : Set) (past : (k : ℕ) → has_none words ≡ true → words k ≡ false) where
  sound_says : (broken binds unclosed : Bool) (free scope : Set) → sound broken binds unclosed free words scope ≡ true
      → (broken ≡ false) × Unreserved words binds × InScope words unclosed free scope
  unfolding sound
  sound_says true binds unclosed free scope e = absurd (true≢false (sym e))
  sound_says false binds unclosed free scope e =
      let p = both_true (not binds || has_none words) (not unclosed || has_none (free ∖ scope)) e in
      (refl, (λ d k. past k (else binds _ d p.0)), λ d. has_none_covers free scope (else unclosed _ d p.1))
    where
      else : (a b : Bool) → a ≡ true → (not a || b) ≡ true → b ≡ true
      else true b d e = e
      else false b d e = absurd (true≢false (sym d))

  abbrev pub Tells : Known → Set → Type 0
  Tells k scope = sound k.broken k.binds k.unclosed k.free words scope ≡ true

  -- the same from what is known of a tree
  module _ (t : Tree) (scope : Set) where
    pub sound_body : is_condition t ≡ true → Tells (known_of t) scope → from words (condition (as_condition t)) scope ≡ []
    unfolding condition_known
    sound_body s e =
        let c = as_condition t in
        let p = sound_says (broken c) (binds c) (unclosed c) (free c) scope (subst (λ (k : Known). Tells k scope) (condition_is t s) e) in
        sound_condition words c scope p.0 p.1 p.2

    pub sound_term : is_term t ≡ true → Tells (known_of t) scope → from words (operand (as_term t)) scope ≡ []
    unfolding term_known
    sound_term s e =
        let x = as_term t in
        let p = sound_says (term_broken x) (term_binds x) (term_unclosed x) (term_free x) scope (subst (λ (k : Known). Tells k scope) (term_is t s) e) in
        sound_operand words x scope p.0 p.1 p.2
