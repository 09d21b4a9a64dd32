-- What is known of a node's tree is what its parts give (`planted_known`). Assumes nothing.
use mathlib.Core.Path.{◌≡◌, refl, sym, ap, ap₂, ◌∙◌, fun_ext}
use mathlib.Core.Bool.{Bool, true, false, ◌||◌, true≢false}
use Prim.Native.Nat.{ℕ}
use Rattle.paper.specs.declared.NodeNo.{NodeNo}
use Rattle.paper.specs.declared.Node.{Node}
use Rattle.paper.specs.declared.Node.TheVariants as node
use Rattle.paper.specs.declared.Equality.{Equality}
use Rattle.paper.specs.Sets.{Set, none, ◌∪◌, outside}
use Rattle.paper.specs.Record.{pick, condition, term, arguments, items}
use Rattle.paper.specs.Shape.{references}
use Rattle.paper.specs.Tree as tree
use Rattle.paper.specs.Tree.{Arguments, Items, Tree, as_condition, as_term, as_arguments, as_items, as_binders, planted}
use Rattle.paper.specs.Tree.Arguments.{no_argument, argument}
use Rattle.paper.specs.Tree.Items.{no_item, item}
use Rattle.paper.specs.FreeAndRestricted.{is_sigil, binder_names, free, term_free, arguments_free, items_free, bare, about, direct, equality, tied_name, is_equality, restricted, holds_sigil, term_sigil, arguments_sigil, items_sigil}
use Rattle.paper.proofs.Walks.{All}
use Rattle.paper.proofs.Weights.{of_sort}
use Rattle.trees.specs.Trees.{is_condition, is_term}
use Rattle.paper.specs.Scoping.{binder_sigil}
use Rattle.known.specs.Needs.{slot_in, owes, need, hard, unfit, computed, arguments_computed, items_computed, reckoned, broken, binds, unclosed}
use Rattle.known.specs.Known.{Known, nothing, way, from_parts, parts_of, opaque, naming, both, join, searched, loose, refined, bound, gathered, and_known, or_known, arith_known, since_known, compared, equated, condition_known, term_known, arguments_known, items_known, known_of, own}

-- ---- putting facts together

known_is : {f f' g g' h h' : Set} {a a' b b' c c' d d' e e' k k' : Bool} → f ≡ f' → g ≡ g' → h ≡ h' → a ≡ a' → b ≡ b' → c ≡ c' → d ≡ d' → e ≡ e' → k ≡ k'
    → ◌≡◌ {A = Known} (record { free = f; restricted = g; need = h; sigil = a; hard = b; broken = c; binds = d; unclosed = e; computed = k })
    (record { free = f'; restricted = g'; need = h'; sigil = a'; hard = b'; broken = c'; binds = d'; unclosed = e'; computed = k' })
known_is p q r s t u v w x = rw (p, q, r, s, t, u, v, w, x)

or_false : (b : Bool) → (b || false) ≡ b
or_false true = refl
or_false false = refl

or_or : (x y z : Bool) → ((x || y) || z) ≡ (x || (y || z))
or_or true y z = refl
or_or false y z = refl

union_none : (a : Set) → a ∪ none ≡ a
unfolding ◌∪◌ none
union_none a = fun_ext (λ k. or_false (a k))

union_union : (a b c : Set) → (a ∪ b) ∪ c ≡ a ∪ (b ∪ c)
unfolding ◌∪◌
union_union a b c = fun_ext (λ k. or_or (a k) (b k) (c k))

pub join_nothing : (a : Known) → join a nothing ≡ a
unfolding join both nothing
join_nothing a =
    known_is (union_none a.free) (union_none a.restricted) (union_none a.need) (or_false a.sigil) (or_false a.hard) (or_false a.broken)
    (or_false a.binds) (or_false a.unclosed) (or_false a.computed)

pub join_assoc : (a b c : Known) → join (join a b) c ≡ join a (join b c)
unfolding join both
join_assoc a b c =
    known_is (union_union a.free b.free c.free) (union_union a.restricted b.restricted c.restricted) (union_union a.need b.need c.need)
    (or_or a.sigil b.sigil c.sigil) (or_or a.hard b.hard c.hard) (or_or a.broken b.broken c.broken)
    (or_or a.binds b.binds c.binds) (or_or a.unclosed b.unclosed c.unclosed) (or_or a.computed b.computed c.computed)

-- ---- at a place of its sort

pub body_known : (t : Tree) → of_sort condition t ≡ true → known_of t ≡ condition_known (as_condition t)
unfolding of_sort known_of as_condition
body_known (tree.a_condition c) e = refl
body_known (tree.a_term t) e = absurd (true≢false (sym e))
body_known (tree.arguments l) e = absurd (true≢false (sym e))
body_known (tree.items l) e = absurd (true≢false (sym e))
body_known (tree.binders l) e = absurd (true≢false (sym e))
body_known (tree.an_end n) e = absurd (true≢false (sym e))

pub one_known : (t : Tree) → of_sort term t ≡ true → known_of t ≡ term_known (as_term t)
unfolding of_sort known_of as_term
one_known (tree.a_condition c) e = absurd (true≢false (sym e))
one_known (tree.a_term t) e = refl
one_known (tree.arguments l) e = absurd (true≢false (sym e))
one_known (tree.items l) e = absurd (true≢false (sym e))
one_known (tree.binders l) e = absurd (true≢false (sym e))
one_known (tree.an_end n) e = absurd (true≢false (sym e))

list_known : (t : Tree) → of_sort arguments t ≡ true → known_of t ≡ arguments_known (as_arguments t)
unfolding of_sort known_of as_arguments arguments_known
list_known (tree.a_condition c) e = absurd (true≢false (sym e))
list_known (tree.a_term t) e = absurd (true≢false (sym e))
list_known (tree.arguments l) e = refl
list_known (tree.items l) e = absurd (true≢false (sym e))
list_known (tree.binders l) e = absurd (true≢false (sym e))
list_known (tree.an_end n) e = refl

row_known : (t : Tree) → of_sort items t ≡ true → known_of t ≡ items_known (as_items t)
unfolding of_sort known_of as_items items_known
row_known (tree.a_condition c) e = absurd (true≢false (sym e))
row_known (tree.a_term t) e = absurd (true≢false (sym e))
row_known (tree.arguments l) e = absurd (true≢false (sym e))
row_known (tree.items l) e = refl
row_known (tree.binders l) e = absurd (true≢false (sym e))
row_known (tree.an_end n) e = refl

pub condition_is : (t : Tree) → is_condition t ≡ true → known_of t ≡ condition_known (as_condition t)
unfolding is_condition known_of as_condition
condition_is (tree.a_condition c) e = refl
condition_is (tree.a_term t) e = absurd (true≢false (sym e))
condition_is (tree.arguments l) e = absurd (true≢false (sym e))
condition_is (tree.items l) e = absurd (true≢false (sym e))
condition_is (tree.binders l) e = absurd (true≢false (sym e))
condition_is (tree.an_end n) e = absurd (true≢false (sym e))

pub term_is : (t : Tree) → is_term t ≡ true → known_of t ≡ term_known (as_term t)
unfolding is_term known_of as_term
term_is (tree.a_condition c) e = absurd (true≢false (sym e))
term_is (tree.a_term t) e = refl
term_is (tree.arguments l) e = absurd (true≢false (sym e))
term_is (tree.items l) e = absurd (true≢false (sym e))
term_is (tree.binders l) e = absurd (true≢false (sym e))
term_is (tree.an_end n) e = absurd (true≢false (sym e))

-- ---- the facts of lists are the paper's, as far as they are asked

arguments_are_free : (l : Arguments) → (arguments_known l).free ≡ arguments_free l
unfolding arguments_free arguments_known none nothing join ◌∪◌ both term_known
arguments_are_free (no_argument n) = refl
arguments_are_free (argument n f t l) = ap (◌∪◌ (term_free t)) (arguments_are_free l)

arguments_are_direct : (l : Arguments) → (arguments_known l).restricted ≡ direct l
unfolding direct arguments_known none nothing join ◌∪◌ both term_known about
arguments_are_direct (no_argument n) = refl
arguments_are_direct (argument n f t l) = ap (◌∪◌ (about (bare t))) (arguments_are_direct l)

arguments_are_sigils : (l : Arguments) → (arguments_known l).sigil ≡ arguments_sigil l
unfolding arguments_sigil arguments_known nothing join both term_known
arguments_are_sigils (no_argument n) = refl
arguments_are_sigils (argument n f t l) = ap (◌||◌ (term_sigil t)) (arguments_are_sigils l)

arguments_are_computed : (l : Arguments) → (arguments_known l).computed ≡ arguments_computed l
unfolding arguments_computed arguments_known nothing join computed both term_known
arguments_are_computed (no_argument n) = refl
arguments_are_computed (argument n f t l) = ap (◌||◌ (computed t)) (arguments_are_computed l)

items_are_free : (l : Items) → (items_known l).free ≡ items_free l
unfolding items_free items_known none nothing join ◌∪◌ both term_known
items_are_free (no_item n) = refl
items_are_free (item n t l) = ap (◌∪◌ (term_free t)) (items_are_free l)

items_are_sigils : (l : Items) → (items_known l).sigil ≡ items_sigil l
unfolding items_sigil items_known nothing join both term_known
items_are_sigils (no_item n) = refl
items_are_sigils (item n t l) = ap (◌||◌ (term_sigil t)) (items_are_sigils l)

items_are_computed : (l : Items) → (items_known l).computed ≡ items_computed l
unfolding items_computed items_known nothing join both term_known
items_are_computed (no_item n) = refl
items_are_computed (item n t l) = ap (◌||◌ (computed t)) (items_are_computed l)

predicate_known : (n : NodeNo) (a : ℕ) (l : Arguments) → searched (arguments_known l) (arguments_known l).restricted ≡ condition_known (tree.Predicate n a l)
unfolding searched condition_known free restricted need none holds_sigil hard broken binds unclosed reckoned
predicate_known n a l = known_is (arguments_are_free l) (arguments_are_direct l) refl (arguments_are_sigils l) refl (arguments_are_computed l) refl refl (arguments_are_computed l)

array_known : (n : NodeNo) (l : Items) → searched (items_known l) none ≡ term_known (tree.Array n l)
unfolding searched term_known free about bare none need holds_sigil hard broken binds unclosed computed
array_known n l = known_is (items_are_free l) refl refl (items_are_sigils l) refl (items_are_computed l) refl refl (items_are_computed l)

refine_known : (n : NodeNo) (b : tree.Condition) (l : Arguments) → refined (condition_known b) (arguments_known l) ≡ condition_known (tree.Refine n b l)
unfolding refined condition_known free restricted need holds_sigil hard broken binds unclosed reckoned
refine_known n b l =
    known_is (ap (◌∪◌ (free b)) (arguments_are_free l)) (ap (◌∪◌ (restricted b)) (arguments_are_direct l)) refl (ap (◌||◌ (holds_sigil b)) (arguments_are_sigils l))
    refl refl refl refl refl

comparison_known : (equal : Bool) (side : Equality) (a b : Known)
    → pick equal (equated side) compared a b ≡ both a b (pick equal (tied_name side) none) (pick equal (owes side a.free b.free) (a.free ∪ b.free) ∪ (a.need ∪ b.need))
unfolding equated compared
comparison_known true side a b = refl
comparison_known false side a b = refl

-- ---- a node's tree

pub planted_known : (t : ℕ → Tree) (n : NodeNo) (m : Node) → All (λ p. of_sort p.0 (t p.1) ≡ true) (references m) → known_of (planted t n m) ≡ own t m
unfolding planted known_of own way from_parts parts_of condition_known term_known arguments_known items_known free restricted about bare holds_sigil need hard broken binds unclosed computed reckoned and_known or_known arith_known since_known bound gathered unfit loose naming nothing opaque both
planted_known t n (node.And l r) f = ap₂ and_known (sym (body_known _ f.0)) (sym (body_known _ f.1.0))
planted_known t n (node.Or l r) f = ap₂ or_known (sym (body_known _ f.0)) (sym (body_known _ f.1.0))
planted_known t n (node.Not b) f = ap loose (sym (body_known _ f.0))
planted_known t n (node.Formerly b w) f = sym (body_known _ f.0)
planted_known t n (node.Previous b w) f = sym (body_known _ f.0)
planted_known t n (node.Since l r w) f = ap₂ since_known (sym (body_known _ f.0)) (sym (body_known _ f.1.0))
planted_known t n (node.Exists s y b) f = ap (λ (a : Known). bound a s) (sym (body_known _ f.0))
planted_known t n (node.Comparison o l r) f =
    let side = equality (as_term (t l.0)) (as_term (t r.0)) in
    sym (ap₂ (pick (is_equality o) (equated side) compared) (one_known _ f.0) (one_known _ f.1.0) ∙ comparison_known (is_equality o) side _ _)
planted_known t n (node.Predicate a l) f = sym (ap (λ (k : Known). searched k k.restricted) (list_known _ f.0) ∙ predicate_known n a (as_arguments (t l.0)))
planted_known t n (node.Refine b l) f = sym (ap₂ refined (body_known _ f.0) (list_known _ f.1.0) ∙ refine_known n (as_condition (t b.0)) (as_arguments (t l.0)))
planted_known t n (node.Tp s) f = refl
planted_known t n (node.Call y) f = refl
planted_known t n (node.SigilRef y) f = refl
planted_known t n (node.Var x) f = refl
planted_known t n node.Wildcard f = refl
planted_known t n (node.Literal y) f = refl
planted_known t n (node.ScopeField y) f = refl
planted_known t n (node.ContextField y) f = refl
planted_known t n (node.ParamRef k) f = refl
planted_known t n (node.BinderRef k) f = refl
planted_known t n (node.Array l) f = sym (ap (λ (k : Known). searched k none) (row_known _ f.0) ∙ array_known n (as_items (t l.0)))
planted_known t n (node.Arith o l r) f = ap₂ arith_known (sym (one_known _ f.0)) (sym (one_known _ f.1.0))
planted_known t n (node.Sum s l b) f =
    let list = as_binders (t l.0) in
    ap (λ (a : Known). gathered a list (is_sigil s || binder_sigil list) (slot_in s (outside (binder_names list)))) (sym (body_known _ f.1.0))
planted_known t n (node.Count l b) f = let list = as_binders (t l.0) in ap (λ (a : Known). gathered a list (binder_sigil list) false) (sym (body_known _ f.1.0))
planted_known t n (node.AggregateCall y) f = refl
planted_known t n node.ListEnd f = refl
planted_known t n (node.ArgumentCell g x l) f = ap₂ join (sym (one_known _ f.0)) (sym (list_known _ f.1.0))
planted_known t n (node.ItemCell x l) f = ap₂ join (sym (one_known _ f.0)) (sym (row_known _ f.1.0))
planted_known t n (node.BinderCell s y l) f = refl
