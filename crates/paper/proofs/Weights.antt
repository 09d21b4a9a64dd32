-- How much the nodes of a tree weigh, where each number has a weight of its own: 1 each gives the tree's size, 1 for one number and 0 for the rest how often
-- that number stands in it. What a planted node weighs is its own weight and its references'. Assumes nothing.
use mathlib.Core.Path.{◌≡◌, refl, sym, ap, ap₂}
use mathlib.Core.Bool.{Bool, true, false, true≢false}
use mathlib.Core.List.{List, [], ◌∷◌}
use Prim.Native.Nat.{ℕ, ◌+◌}
use native.Mathlib.Omega.{arith}
use Rattle.paper.specs.declared.NodeNo.{NodeNo}
use Rattle.paper.specs.declared.Node.{Node}
use Rattle.paper.specs.declared.Node.TheVariants as node
use Rattle.paper.specs.Record.{Sort, condition, term, arguments, items, binders}
use Rattle.paper.specs.Tree as tree
use Rattle.paper.specs.Tree.{Condition, Term, Arguments, Items, Binders, Tree, a_condition, a_term, an_end, as_condition, as_term, as_arguments, as_items}
use Rattle.paper.specs.Tree.{as_binders, planted, size, term_size, arguments_size, items_size, binders_size}
use Rattle.paper.specs.Tree.Condition.{And, Or, Not, Past, Since, Exists, Comparison, Predicate, Refine, Tp, Opaque}
use Rattle.paper.specs.Tree.Term.{Var, Wildcard, Value, Sigil, Array, Arith, Sum, Count, AggregateCall}
use Rattle.paper.specs.Tree.Arguments.{no_argument, argument}
use Rattle.paper.specs.Tree.Items.{no_item, item}
use Rattle.paper.specs.Tree.Binders.{no_binder, binder}
use Rattle.paper.specs.Shape.{references}

unfoldable mutual
  pub weigh : Condition → (ℕ → ℕ) → ℕ
  weigh (And n l r) w = w n.0 + (weigh l w + weigh r w)
  weigh (Or n l r) w = w n.0 + (weigh l w + weigh r w)
  weigh (Not n b) w = w n.0 + weigh b w
  weigh (Past n k b x) w = w n.0 + weigh b w
  weigh (Since n l r x) w = w n.0 + (weigh l w + weigh r w)
  weigh (Exists n s y b) w = w n.0 + weigh b w
  weigh (Comparison n o l r) w = w n.0 + (weigh_term l w + weigh_term r w)
  weigh (Predicate n a l) w = w n.0 + weigh_arguments l w
  weigh (Refine n b l) w = w n.0 + (weigh b w + weigh_arguments l w)
  weigh (Tp n s) w = w n.0
  weigh (Opaque n k y) w = w n.0

  pub weigh_term : Term → (ℕ → ℕ) → ℕ
  weigh_term (Var n x) w = w n.0
  weigh_term (Wildcard n) w = w n.0
  weigh_term (Value n k y) w = w n.0
  weigh_term (Sigil n k i) w = w n.0
  weigh_term (Array n l) w = w n.0 + weigh_items l w
  weigh_term (Arith n o l r) w = w n.0 + (weigh_term l w + weigh_term r w)
  weigh_term (Sum n s l b) w = w n.0 + (weigh_binders l w + weigh b w)
  weigh_term (Count n l b) w = w n.0 + (weigh_binders l w + weigh b w)
  weigh_term (AggregateCall n y) w = w n.0

  pub weigh_arguments : Arguments → (ℕ → ℕ) → ℕ
  weigh_arguments (no_argument n) w = w n.0
  weigh_arguments (argument n f t l) w = w n.0 + (weigh_term t w + weigh_arguments l w)

  pub weigh_items : Items → (ℕ → ℕ) → ℕ
  weigh_items (no_item n) w = w n.0
  weigh_items (item n t l) w = w n.0 + (weigh_term t w + weigh_items l w)

  pub weigh_binders : Binders → (ℕ → ℕ) → ℕ
  weigh_binders (no_binder n) w = w n.0
  weigh_binders (binder n s y l) w = w n.0 + weigh_binders l w

-- at 1 each it is the size
abbrev pub one : ℕ → ℕ
one k = 1

mutual
  unfolding size weigh

  pub size_weighs : (c : Condition) → size c ≡ weigh c one
  size_weighs (And n l r) = ap₂ (λ (a b : ℕ). 1 + (a + b)) (size_weighs l) (size_weighs r)
  size_weighs (Or n l r) = ap₂ (λ (a b : ℕ). 1 + (a + b)) (size_weighs l) (size_weighs r)
  size_weighs (Not n b) = ap (λ (z : ℕ). 1 + z) (size_weighs b)
  size_weighs (Past n k b x) = ap (λ (z : ℕ). 1 + z) (size_weighs b)
  size_weighs (Since n l r x) = ap₂ (λ (a b : ℕ). 1 + (a + b)) (size_weighs l) (size_weighs r)
  size_weighs (Exists n s y b) = ap (λ (z : ℕ). 1 + z) (size_weighs b)
  size_weighs (Comparison n o l r) = ap₂ (λ (a b : ℕ). 1 + (a + b)) (term_weighs l) (term_weighs r)
  size_weighs (Predicate n a l) = ap (λ (z : ℕ). 1 + z) (arguments_weigh l)
  size_weighs (Refine n b l) = ap₂ (λ (a b : ℕ). 1 + (a + b)) (size_weighs b) (arguments_weigh l)
  size_weighs (Tp n s) = refl
  size_weighs (Opaque n k y) = refl

  pub term_weighs : (c : Term) → term_size c ≡ weigh_term c one
  term_weighs (Var n x) = refl
  term_weighs (Wildcard n) = refl
  term_weighs (Value n k y) = refl
  term_weighs (Sigil n k i) = refl
  term_weighs (Array n l) = ap (λ (z : ℕ). 1 + z) (items_weigh l)
  term_weighs (Arith n o l r) = ap₂ (λ (a b : ℕ). 1 + (a + b)) (term_weighs l) (term_weighs r)
  term_weighs (Sum n s l b) = ap₂ (λ (a b : ℕ). 1 + (a + b)) (binders_weigh l) (size_weighs b)
  term_weighs (Count n l b) = ap₂ (λ (a b : ℕ). 1 + (a + b)) (binders_weigh l) (size_weighs b)
  term_weighs (AggregateCall n y) = refl

  pub arguments_weigh : (c : Arguments) → arguments_size c ≡ weigh_arguments c one
  arguments_weigh (no_argument n) = refl
  arguments_weigh (argument n f t l) = ap₂ (λ (a b : ℕ). 1 + (a + b)) (term_weighs t) (arguments_weigh l)

  pub items_weigh : (c : Items) → items_size c ≡ weigh_items c one
  items_weigh (no_item n) = refl
  items_weigh (item n t l) = ap₂ (λ (a b : ℕ). 1 + (a + b)) (term_weighs t) (items_weigh l)

  pub binders_weigh : (c : Binders) → binders_size c ≡ weigh_binders c one
  binders_weigh (no_binder n) = refl
  binders_weigh (binder n s y l) = ap (λ (z : ℕ). 1 + z) (binders_weigh l)

-- ---- a tree of any sort

unfoldable pub tree_weight : Tree → (ℕ → ℕ) → ℕ
tree_weight (a_condition c) w = weigh c w
tree_weight (a_term t) w = weigh_term t w
tree_weight (tree.arguments l) w = weigh_arguments l w
tree_weight (tree.items l) w = weigh_items l w
tree_weight (tree.binders l) w = weigh_binders l w
tree_weight (an_end n) w = w n.0

-- as it stands at a place of a sort
unfoldable pub weight_as : Sort → Tree → (ℕ → ℕ) → ℕ
weight_as condition t w = weigh (as_condition t) w
weight_as term t w = weigh_term (as_term t) w
weight_as arguments t w = weigh_arguments (as_arguments t) w
weight_as items t w = weigh_items (as_items t) w
weight_as binders t w = weigh_binders (as_binders t) w

-- whether a tree is of a sort; a list end is of each list's
unfoldable pub of_sort : Sort → Tree → Bool
of_sort condition (a_condition c) = true
of_sort condition (a_term t) = false
of_sort condition (tree.arguments l) = false
of_sort condition (tree.items l) = false
of_sort condition (tree.binders l) = false
of_sort condition (an_end n) = false
of_sort term (a_condition c) = false
of_sort term (a_term t) = true
of_sort term (tree.arguments l) = false
of_sort term (tree.items l) = false
of_sort term (tree.binders l) = false
of_sort term (an_end n) = false
of_sort arguments (a_condition c) = false
of_sort arguments (a_term t) = false
of_sort arguments (tree.arguments l) = true
of_sort arguments (tree.items l) = false
of_sort arguments (tree.binders l) = false
of_sort arguments (an_end n) = true
of_sort items (a_condition c) = false
of_sort items (a_term t) = false
of_sort items (tree.arguments l) = false
of_sort items (tree.items l) = true
of_sort items (tree.binders l) = false
of_sort items (an_end n) = true
of_sort binders (a_condition c) = false
of_sort binders (a_term t) = false
of_sort binders (tree.arguments l) = false
of_sort binders (tree.items l) = false
of_sort binders (tree.binders l) = true
of_sort binders (an_end n) = true

pub at_home : (s : Sort) (t : Tree) (w : ℕ → ℕ) → of_sort s t ≡ true → weight_as s t w ≡ tree_weight t w
unfolding of_sort weight_as tree_weight as_condition as_term as_arguments as_items as_binders weigh
at_home condition (a_condition c) w e = refl
at_home condition (a_term t) w e = absurd (true≢false (sym e))
at_home condition (tree.arguments l) w e = absurd (true≢false (sym e))
at_home condition (tree.items l) w e = absurd (true≢false (sym e))
at_home condition (tree.binders l) w e = absurd (true≢false (sym e))
at_home condition (an_end n) w e = absurd (true≢false (sym e))
at_home term (a_condition c) w e = absurd (true≢false (sym e))
at_home term (a_term t) w e = refl
at_home term (tree.arguments l) w e = absurd (true≢false (sym e))
at_home term (tree.items l) w e = absurd (true≢false (sym e))
at_home term (tree.binders l) w e = absurd (true≢false (sym e))
at_home term (an_end n) w e = absurd (true≢false (sym e))
at_home arguments (a_condition c) w e = absurd (true≢false (sym e))
at_home arguments (a_term t) w e = absurd (true≢false (sym e))
at_home arguments (tree.arguments l) w e = refl
at_home arguments (tree.items l) w e = absurd (true≢false (sym e))
at_home arguments (tree.binders l) w e = absurd (true≢false (sym e))
at_home arguments (an_end n) w e = refl
at_home items (a_condition c) w e = absurd (true≢false (sym e))
at_home items (a_term t) w e = absurd (true≢false (sym e))
at_home items (tree.arguments l) w e = absurd (true≢false (sym e))
at_home items (tree.items l) w e = refl
at_home items (tree.binders l) w e = absurd (true≢false (sym e))
at_home items (an_end n) w e = refl
at_home binders (a_condition c) w e = absurd (true≢false (sym e))
at_home binders (a_term t) w e = absurd (true≢false (sym e))
at_home binders (tree.arguments l) w e = absurd (true≢false (sym e))
at_home binders (tree.items l) w e = absurd (true≢false (sym e))
at_home binders (tree.binders l) w e = refl
at_home binders (an_end n) w e = refl

-- ---- a planted node

-- the weight of some references, each at its place
unfoldable pub total : (ℕ → Tree) → List (Sort × ℕ) → (ℕ → ℕ) → ℕ
total t [] w = 0
total t (p ∷ ps) w = weight_as p.0 (t p.1) w + total t ps w

pub planted_weighs : (t : ℕ → Tree) (n : NodeNo) (m : Node) (w : ℕ → ℕ) → tree_weight (planted t n m) w ≡ w n.0 + total t (references m) w
unfolding planted tree_weight weigh total weight_as
planted_weighs t n (node.And l r) w = omega arith
planted_weighs t n (node.Or l r) w = omega arith
planted_weighs t n (node.Not b) w = omega arith
planted_weighs t n (node.Formerly b z) w = omega arith
planted_weighs t n (node.Previous b z) w = omega arith
planted_weighs t n (node.Since l r z) w = omega arith
planted_weighs t n (node.Exists s y b) w = omega arith
planted_weighs t n (node.Comparison o l r) w = omega arith
planted_weighs t n (node.Predicate a l) w = omega arith
planted_weighs t n (node.Refine b l) w = omega arith
planted_weighs t n (node.Tp s) w = omega arith
planted_weighs t n (node.Call y) w = omega arith
planted_weighs t n (node.SigilRef y) w = omega arith
planted_weighs t n (node.Var x) w = omega arith
planted_weighs t n node.Wildcard w = omega arith
planted_weighs t n (node.Literal y) w = omega arith
planted_weighs t n (node.ScopeField y) w = omega arith
planted_weighs t n (node.ContextField y) w = omega arith
planted_weighs t n (node.ParamRef k) w = omega arith
planted_weighs t n (node.BinderRef k) w = omega arith
planted_weighs t n (node.Array l) w = omega arith
planted_weighs t n (node.Arith o l r) w = omega arith
planted_weighs t n (node.Sum s l b) w = omega arith
planted_weighs t n (node.Count l b) w = omega arith
planted_weighs t n (node.AggregateCall y) w = omega arith
planted_weighs t n node.ListEnd w = omega arith
planted_weighs t n (node.ArgumentCell f x l) w = omega arith
planted_weighs t n (node.ItemCell x l) w = omega arith
planted_weighs t n (node.BinderCell s y l) w = omega arith
