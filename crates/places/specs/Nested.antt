-- What a search finds in a term, in arguments and in items: the entries of 20 and 21, which no scope and no reserved word has a say in.
-- Assumes nothing: these are definitions.
use Rattle.std.specs.Prelude.{List, [], ◌++◌}
use Rattle.paper.specs.declared.Finding.{Finding}
use Rattle.paper.specs.Tree.{Term, Arguments, Items, Tree}
use Rattle.paper.specs.Tree.Term.{Var, Wildcard, Value, Sigil, Array, Arith, Sum, Count, AggregateCall}
use Rattle.paper.specs.Tree.Arguments.{no_argument, argument}
use Rattle.paper.specs.Tree.Items.{no_item, item}
use Rattle.paper.specs.Places.{itself, findings}
use Rattle.trees.specs.Trees.{in_terms}

unfoldable mutual
  pub nested : Term → List Finding
  nested (Var n x) = []
  nested (Wildcard n) = []
  nested (Value n k y) = []
  nested (Sigil n k i) = []
  nested (Array n l) = nested_items l
  nested (Arith n o l r) = findings (itself 21 n)
  nested (Sum n s l b) = findings (itself 20 n)
  nested (Count n l b) = findings (itself 20 n)
  nested (AggregateCall n y) = findings (itself 20 n)

  pub nested_arguments : Arguments → List Finding
  nested_arguments (no_argument n) = []
  nested_arguments (argument n f t l) = nested t ++ nested_arguments l

  pub nested_items : Items → List Finding
  nested_items (no_item n) = []
  nested_items (item n t l) = nested t ++ nested_items l

abbrev pub nested_in : Tree → List Finding
nested_in t = in_terms nested nested_arguments nested_items [] t
