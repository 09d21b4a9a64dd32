-- The tree of a node that columns hold, by itself and at a place of its sort. Assumes nothing: these are definitions.
use Rattle.std.specs.Prelude.{ℕ, Bool, true, false, List}
use Rattle.paper.specs.Tree.{Condition, Term, Arguments, Items, Binders, Tree, a_condition, a_term, arguments, items, binders, an_end, as_condition, as_term, as_arguments, as_binders, tree_at}
use Rattle.record.specs.Stored.{held}

abbrev pub tree_of : List ℕ → ℕ → Tree
tree_of columns i = tree_at (held columns) i

abbrev pub condition_of : List ℕ → ℕ → Condition
condition_of columns i = as_condition (tree_of columns i)

abbrev pub term_of : List ℕ → ℕ → Term
term_of columns i = as_term (tree_of columns i)

abbrev pub arguments_of : List ℕ → ℕ → Arguments
arguments_of columns i = as_arguments (tree_of columns i)

abbrev pub binders_of : List ℕ → ℕ → Binders
binders_of columns i = as_binders (tree_of columns i)

-- what is said of a term, or of the terms in a list of arguments or items; of any other tree it is `v`
unfoldable pub in_terms : {A : Type 0} → (Term → A) → (Arguments → A) → (Items → A) → A → Tree → A
in_terms f g h v (a_condition c) = v
in_terms f g h v (a_term t) = f t
in_terms f g h v (arguments l) = g l
in_terms f g h v (items l) = h l
in_terms f g h v (binders l) = v
in_terms f g h v (an_end n) = v

unfoldable pub is_condition : Tree → Bool
is_condition (a_condition c) = true
is_condition (a_term t) = false
is_condition (arguments l) = false
is_condition (items l) = false
is_condition (binders l) = false
is_condition (an_end n) = false

unfoldable pub is_term : Tree → Bool
is_term (a_condition c) = false
is_term (a_term t) = true
is_term (arguments l) = false
is_term (items l) = false
is_term (binders l) = false
is_term (an_end n) = false

-- arguments, items or the end of a list
unfoldable pub is_row : Tree → Bool
is_row (a_condition c) = false
is_row (a_term t) = false
is_row (arguments l) = true
is_row (items l) = true
is_row (binders l) = false
is_row (an_end n) = true
