-- What `check_condition` and `check_operand` find at a node: by `found_at`, what is broken there and then what is found below. Assumes nothing.
use mathlib.Core.Path.{◌≡◌, refl, sym, ap, ap₂, ◌∙◌, subst}
use mathlib.Core.Bool.{Bool, true, false, true≢false}
use mathlib.Core.List.{List, [], ◌∷◌, ◌++◌, append-nil}
use Prim.Native.Nat.{ℕ}
use types.Run.{OneOf, miss}
use denote.Enum.Declared.{tag_of}
use Rattle.paper.specs.declared.NodeNo.{NodeNo}
use Rattle.paper.specs.declared.Finding.{Finding}
use Rattle.paper.specs.declared.Slot.{Slot}
use Rattle.paper.specs.declared.Node.{Node}
use Rattle.paper.specs.declared.Node.TheVariants as node
use Rattle.paper.specs.Record.{node_no}
use Rattle.paper.specs.Sets.{Set, ◌∪◌}
use Rattle.paper.specs.Tree.{Condition, Term, Arguments, Items, Binders, Tree, as_condition, as_term, as_items, planted}
use Rattle.paper.specs.Tree.{Condition as cond}
use Rattle.paper.specs.Tree.Term.{Var, Wildcard, Value, Sigil, Array, Arith, Sum, Count, AggregateCall}
use Rattle.paper.specs.Tree.Arguments.{no_argument, argument}
use Rattle.paper.specs.Tree.Items.{no_item, item}
use Rattle.paper.specs.FreeAndRestricted.{named, binder_names, term_free}
use Rattle.paper.specs.Places.{Spot, condition, operand, searched, searched_arguments, searched_items, asked_at, itself, gather, findings, found}
use Rattle.paper.specs.Scoping.{scope_below, scope_broken}
use Rattle.paper.proofs.Walks.{found_at}
use Rattle.paper.proofs.Exact.{extent_pos, scope_shrinks}
use Rattle.trees.specs.Trees.{tree_of, condition_of, term_of, binders_of, is_condition, is_term}
use Rattle.trees.proofs.Arms.{Arm}
use Rattle.trees.proofs.Sorts.{at_items}
use Rattle.trees.proofs.Shapes.{Aggregate, sum, count}
use Rattle.trees.proofs.ByKind.{term_cases}
use Rattle.known.specs.Needs.{has_none, term_broken, term_binds, term_unclosed, sound}
use Rattle.known.specs.Known.{Known, term_known, known_of}
use Rattle.known.proofs.KnownLaws.{term_is}
use Rattle.known.proofs.SoundLaws.{Tells, sound_body, sound_term}
use Rattle.places.specs.Nested.{nested, nested_arguments, nested_items, nested_in}
use Rattle.places.proofs.NestedLaws.{no_item_nested}
use Rattle.cells.specs.Aggregates.{skips, five, five_of}
use Rattle.places.specs.Itself.{in_arguments, at_itself, scope_first}
use Rattle.views.specs.declared.Below.{Below}
use Rattle.views.specs.declared.Below.TheVariants as below
use Rattle.views.specs.contracts.Operand.{the_type}
use Rattle.views.specs.declared.Operand.TheVariants.{Plain}
use Rattle.views.specs.Entered.{entered_below}
use Rattle.views.specs.Seen.{seen_operand}
use Rattle.views.proofs.EnteredLaws.{entered_cases}
use Rattle.scoping.specs.Scoped.{scoped}

then_one : (a b : List Finding) → a ++ (b ++ []) ≡ a ++ b
then_one a b = ap (λ (z : List Finding). a ++ z) (append-nil b)

then_body : (a b : List Finding) → a ++ (b ++ []) ≡ (a ++ []) ++ b
then_body a b = ap₂ {C = List Finding} ◌++◌ (sym (append-nil a)) (append-nil b)

-- neither arithmetic nor an array nor an aggregate with a body
abbrev plain : List ℕ
plain = 0 ∷ []

once : (a : List Finding) → (a ++ []) ++ [] ≡ a
once a = append-nil (a ++ []) ∙ append-nil a

-- where the test says so, nothing is found
module _ (words : Set) (past : (k : ℕ) → has_none words ≡ true → words k ≡ false) (t : Tree) (scope : Set) where
  pub sound_scoped : is_condition t ≡ true → Tells words past (known_of t) scope → scoped words (condition (as_condition t)) scope ≡ []
  unfolding scoped
  sound_scoped s e = sound_body words past t scope s e

  pub sound_operand_scoped : is_term t ≡ true → Tells words past (known_of t) scope → scoped words (operand (as_term t)) scope ≡ []
  unfolding scoped
  sound_operand_scoped s e = sound_term words past t scope s e

-- and where it does not, an aggregate is not skipped
skipped_sound : (t : Term) → skips t ≡ true → (free words scope : Set) → sound (term_broken t) (term_binds t) (term_unclosed t) free words scope ≡ true
unfolding skips sound term_broken term_binds term_unclosed
skipped_sound (Var n x) e free words scope = absurd (true≢false (sym e))
skipped_sound (Wildcard n) e free words scope = absurd (true≢false (sym e))
skipped_sound (Value n k y) e free words scope = absurd (true≢false (sym e))
skipped_sound (Sigil n k i) e free words scope = absurd (true≢false (sym e))
skipped_sound (Array n l) e free words scope = absurd (true≢false (sym e))
skipped_sound (Arith n o l r) e free words scope = absurd (true≢false (sym e))
skipped_sound (Sum n s l b) e free words scope = rw e
skipped_sound (Count n l b) e free words scope = rw e
skipped_sound (AggregateCall n y) e free words scope = absurd (true≢false (sym e))

pub not_skipped : (t : Tree) (words scope : Set) → is_term t ≡ true
    → sound (known_of t).broken (known_of t).binds (known_of t).unclosed (known_of t).free words scope ≡ false → skips (as_term t) ≡ false
unfolding term_known
not_skipped t words scope s e = go (skips (as_term t)) refl
  where
    go : (b : Bool) → skips (as_term t) ≡ b → b ≡ false
    go false d = refl
    go true d =
        absurd (true≢false (sym (skipped_sound (as_term t) d (term_free (as_term t)) words scope)
        ∙ ap (λ (k : Known). sound k.broken k.binds k.unclosed k.free words scope) (sym (term_is t s)) ∙ e))

module _ (words scope : Set) where
  abbrev from : Spot → List Finding
  from s = scoped words s scope

  abbrev found_below : Spot → List Finding
  found_below s = gather (found scope_below (scope_broken words)) (scope_below (asked_at s scope))

  at : (s : Spot) → from s ≡ gather findings (scope_broken words (asked_at s scope)) ++ found_below s
  unfolding scoped
  at s = found_at scope_below (scope_broken words) extent_pos scope_shrinks (asked_at s scope)

  -- ---- a search finds the same whatever is in scope

  mutual
    unfolding scope_below scope_broken gather scoped nested

    term_searched : (t : Term) → from (searched t) ≡ nested t
    term_searched (Var n x) = at (searched (Var n x))
    term_searched (Wildcard n) = at (searched (Wildcard n))
    term_searched (Value n k y) = at (searched (Value n k y))
    term_searched (Sigil n k i) = at (searched (Sigil n k i))
    term_searched (Array n l) = at (searched (Array n l)) ∙ append-nil (from (searched_items l)) ∙ items_searched l
    term_searched (Arith n o l r) = at (searched (Arith n o l r)) ∙ once (findings (itself 21 n))
    term_searched (Sum n s l b) = at (searched (Sum n s l b)) ∙ once (findings (itself 20 n))
    term_searched (Count n l b) = at (searched (Count n l b)) ∙ once (findings (itself 20 n))
    term_searched (AggregateCall n y) = at (searched (AggregateCall n y)) ∙ once (findings (itself 20 n))

    arguments_searched : (l : Arguments) → from (searched_arguments l) ≡ nested_arguments l
    arguments_searched (no_argument n) = at (searched_arguments (no_argument n))
    arguments_searched (argument n f t l) =
        at (searched_arguments (argument n f t l)) ∙ then_one (from (searched t)) (from (searched_arguments l))
        ∙ ap₂ {C = List Finding} ◌++◌ (term_searched t) (arguments_searched l)

    items_searched : (l : Items) → from (searched_items l) ≡ nested_items l
    items_searched (no_item n) = at (searched_items (no_item n))
    items_searched (item n t l) =
        at (searched_items (item n t l)) ∙ then_one (from (searched t)) (from (searched_items l))
        ∙ ap₂ {C = List Finding} ◌++◌ (term_searched t) (items_searched l)

  -- ---- conditions

  nowhere_scoped : (n : NodeNo) (k : ℕ) (m : NodeNo) → from (condition (cond.Predicate n k (no_argument m))) ≡ []
  unfolding scope_below scope_broken gather scoped nested
  nowhere_scoped n k m = at (condition (cond.Predicate n k (no_argument m))) ∙ append-nil (from (searched_arguments (no_argument m))) ∙ arguments_searched (no_argument
      m)

  -- what is found where the walk goes on below a condition, with these names in scope at the one condition below it
  module _ (columns : List ℕ) where
    abbrev body : NodeNo → List Finding
    body k = from (condition (condition_of columns k.0))

    abbrev side : NodeNo → List Finding
    side k = from (operand (term_of columns k.0))

    abbrev pub goes_on : Set → Below → List Finding
    goes_on inner below.Nothing = []
    goes_on inner (below.Condition b) = scoped words (condition (condition_of columns b.0)) inner
    goes_on inner (below.Conditions l r) = body l ++ body r
    goes_on inner (below.Operands l r) = side l ++ side r

    by_kind : (n : NodeNo) (m : Node) → let c = as_condition (planted (tree_of columns) n m) in
        from (condition c) ≡ at_itself words c ++ goes_on (scope_first c scope) (entered_below m)
    unfolding scope_below scope_broken gather scoped nested in_arguments at_itself scope_first
    by_kind n =
        entered_cases (tree_of columns) n (λ s c. from (condition c) ≡ at_itself words c ++ goes_on (scope_first c scope) s)
        (λ l r. at _ ∙ then_one (body l) (body r)) (λ l r. at _ ∙ then_one (body l) (body r)) (λ b. at _ ∙ append-nil _) (λ k b w. at _ ∙ append-nil _)
        (λ l r w. at _ ∙ then_one (body l) (body r))
        (λ s y b.
        at _
        ∙ then_body (gather findings (scope_broken words (asked_at (condition (cond.Exists n s y (condition_of columns b.0))) scope)))
        (scoped words (condition (condition_of columns b.0)) (scope ∪ named s)))
        (λ o l r. at _ ∙ then_one (side l) (side r)) (λ a l. at _ ∙ append-nil _ ∙ arguments_searched _ ∙ sym (append-nil _)) (λ b l. at _ ∙ append-nil _)
        (λ s. at _ ∙ sym (append-nil _)) (λ k y. at _) (nowhere_scoped _ _ _)

  module _ {columns : List ℕ} {i : ℕ} where
    in_condition : {m : Node} → Arm columns i m → from (condition (condition_of columns i)) ≡ from (condition (as_condition (planted (tree_of columns) (node_no i)
        m)))
    in_condition a = ap (λ (t : Tree). from (condition (as_condition t))) a.tree

    -- what is found at the condition itself, and then where the walk goes on
    pub scoped_entered : {inner : Set} {m : Node} {s : Below} → Arm columns i m → s ≡ entered_below m → inner ≡ scope_first (condition_of columns i) scope
        → from (condition (condition_of columns i)) ≡ at_itself words (condition_of columns i) ++ goes_on columns inner s
    scoped_entered a e f =
        in_condition a ∙ by_kind columns _ _
        ∙ sym (ap₂ {C = List Finding} ◌++◌ (ap (λ (t : Tree). at_itself words (as_condition t)) a.tree) (rw (
          e,
          f ∙ ap (λ (t : Tree). scope_first (as_condition t) scope) a.tree,
        )))

    -- ---- operands

    pub in_operand : {m : Node} → Arm columns i m → from (operand (term_of columns i)) ≡ from (operand (as_term (planted (tree_of columns) (node_no i) m)))
    in_operand a = ap (λ (t : Tree). from (operand (as_term t))) a.tree

    pub scoped_arith : {o : ℕ} {l r : NodeNo} → Arm columns i (node.Arith o l r)
        → from (operand (term_of columns i)) ≡ from (operand (term_of columns l.0)) ++ from (operand (term_of columns r.0))
    unfolding planted as_term scope_below scope_broken gather scoped
    scoped_arith {l = l} {r = r} a = in_operand a ∙ at _ ∙ then_one (from (operand (term_of columns l.0))) (from (operand (term_of columns r.0)))

    pub scoped_array : {l : NodeNo} → Arm columns i (node.Array l) → from (operand (term_of columns i)) ≡ nested_in (tree_of columns l.0)
    unfolding planted as_term scope_below scope_broken gather scoped
    scoped_array {l = l} a =
        in_operand a ∙ at _ ∙ append-nil _ ∙ items_searched (as_items (tree_of columns l.0))
        ∙ sym (at_items nested nested_arguments nested_items [] no_item_nested _ a.children.0.fits)

  -- ---- aggregates

  entered_sum : (n : NodeNo) (s : Slot) (l : Binders) (b : Condition) → skips (Sum n s l b) ≡ false
      → from (operand (Sum n s l b)) ≡ gather findings (five_of words (Sum n s l b) scope) ++ scoped words (condition b) (scope ∪ binder_names l)
  unfolding scope_below scope_broken gather scoped skips five_of five
  entered_sum n s l b e = at (operand (Sum n s l b)) ∙ rw e (then_one (gather findings (five_of words (Sum n s l b) scope)) (scoped words (condition b) (scope ∪
      binder_names l)))

  entered_count : (n : NodeNo) (l : Binders) (b : Condition) → skips (Count n l b) ≡ false
      → from (operand (Count n l b)) ≡ gather findings (five_of words (Count n l b) scope) ++ scoped words (condition b) (scope ∪ binder_names l)
  unfolding scope_below scope_broken gather scoped skips five_of five
  entered_count n l b e = at (operand (Count n l b)) ∙ rw e (then_one (gather findings (five_of words (Count n l b) scope)) (scoped words (condition b) (scope ∪
      binder_names l)))

  abbrev entered : Term → Condition → Set → Type 0
  entered t b inner = skips t ≡ false → from (operand t) ≡ gather findings (five_of words t scope) ++ scoped words (condition b) inner

  module _ {columns : List ℕ} {i : ℕ} where
    pub scoped_aggregate : {inner : Set} {l b : NodeNo} {m : Node} → Aggregate l b m → inner ≡ scope ∪ binder_names (binders_of columns l.0) → Arm columns i m
        → entered (term_of columns i) (condition_of columns b.0) inner
    unfolding planted as_term
    scoped_aggregate {l = l} {b = b} sum e a =
        subst (entered (term_of columns i) (condition_of columns b.0)) (sym e)
        (subst (λ (t : Tree). entered (as_term t) (condition_of columns b.0) (scope ∪ binder_names (binders_of columns l.0))) (sym a.tree) (entered_sum _ _ _ _))
    scoped_aggregate {l = l} {b = b} count e a =
        subst (entered (term_of columns i) (condition_of columns b.0)) (sym e)
        (subst (λ (t : Tree). entered (as_term t) (condition_of columns b.0) (scope ∪ binder_names (binders_of columns l.0))) (sym a.tree) (entered_count _ _ _))

  -- ---- the other kinds

  no_operand : (t : ℕ → Tree) (n : NodeNo) (m : Node) → OneOf plain (tag_of the_type (seen_operand m)) → from (operand (as_term (planted t n m))) ≡ []
  unfolding scope_below scope_broken gather scoped seen_operand
  no_operand t n =
      term_cases t n (λ m z. OneOf plain (tag_of the_type (seen_operand m)) → from (operand z) ≡ [])
      (λ x h. at (operand (Var n x))) (λ h. at (operand (Wildcard n))) (λ y h. at (operand (Value n 0x22 y))) (λ y h. at (operand (Value n 0x23 y)))
      (λ y h. at (operand (Value n 0x24 y))) (λ k h. at (operand (Sigil n 0x25 k))) (λ k h. at (operand (Sigil n 0x26 k)))
      (λ l h. absurd (miss plain 1 tt h)) (λ o l r h. absurd (miss plain 2 tt h)) (λ s l b h. absurd (miss plain 3 tt h))
      (λ l b h. absurd (miss plain 3 tt h)) (λ y h. at (operand (AggregateCall n y))) (λ m e h. at (operand (Value (node_no 0) 0 0)))

  module _ {columns : List ℕ} {i : ℕ} {m : Node} where
    pub operand_none : Plain ≡ seen_operand m → Arm columns i m → from (operand (term_of columns i)) ≡ []
    operand_none e a = in_operand a ∙ no_operand _ _ _ (ap (tag_of the_type) (sym e))
