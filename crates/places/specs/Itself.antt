-- What is found at a condition itself and in the arguments that it searches, whatever is in scope; and what is in scope below it. Assumes nothing: these are definitions.
use Rattle.std.specs.Prelude.{List, [], ◌++◌, get_or}
use Rattle.paper.specs.declared.Finding.{Finding}
use Rattle.paper.specs.Sets.{Set, none}
use Rattle.paper.specs.Tree.{Condition}
use Rattle.paper.specs.Tree.Condition.{And, Or, Not, Past, Since, Exists, Comparison, Predicate, Refine, Tp, Opaque}
use Rattle.paper.specs.Places.{condition, asked_at, gather, findings}
use Rattle.paper.specs.Scoping.{scope_below, scope_broken}
use Rattle.places.specs.Nested.{nested_arguments}

-- what is found in the arguments that a condition searches
unfoldable pub in_arguments : Condition → List Finding
in_arguments (And n l r) = []
in_arguments (Or n l r) = []
in_arguments (Not n b) = []
in_arguments (Past n k b w) = []
in_arguments (Since n l r w) = []
in_arguments (Exists n s y b) = []
in_arguments (Comparison n o l r) = []
in_arguments (Predicate n a l) = nested_arguments l
in_arguments (Refine n b l) = []
in_arguments (Tp n s) = []
in_arguments (Opaque n k y) = []

-- what is broken at a condition, with these words reserved, and what is found in its arguments
unfoldable pub at_itself : Set → Condition → List Finding
at_itself words c = gather findings (scope_broken words (asked_at (condition c) none)) ++ in_arguments c

-- what is in scope at the first place below a condition; at the condition itself where there is none
unfoldable pub scope_first : Condition → Set → Set
scope_first c scope = (get_or (scope_below (asked_at (condition c) scope)) 0 (asked_at (condition c) scope)).names
