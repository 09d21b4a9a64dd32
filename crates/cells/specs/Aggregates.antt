-- An aggregate's own entries, and whether it is skipped. Assumes nothing: these are definitions.
use Rattle.std.specs.Prelude.{Bool, false, ◌||◌, List, []}
use Rattle.paper.specs.declared.NodeNo.{NodeNo}
use Rattle.paper.specs.Sets.{Set, none}
use Rattle.paper.specs.Tree.{Condition, Term, Binders}
use Rattle.paper.specs.Tree.Term.{Var, Wildcard, Value, Sigil, Array, Arith, Sum, Count, AggregateCall}
use Rattle.paper.specs.FreeAndRestricted.{named, is_sigil}
use Rattle.paper.specs.Places.{Broken}
use Rattle.paper.specs.Scoping.{binder_sigil, aggregate_rules}

-- the summed slot or a binder is a sigil
unfoldable pub skips : Term → Bool
skips (Var n x) = false
skips (Wildcard n) = false
skips (Value n k y) = false
skips (Sigil n k i) = false
skips (Array n l) = false
skips (Arith n o l r) = false
skips (Sum n s l b) = is_sigil s || binder_sigil l
skips (Count n l b) = binder_sigil l
skips (AggregateCall n y) = false

-- the five rules of an aggregate that is not skipped
unfoldable pub five : Set → NodeNo → Set → Binders → Condition → Set → List Broken
five words n summed l b scope = aggregate_rules words n summed l b scope

unfoldable pub five_of : Set → Term → Set → List Broken
five_of words (Var n x) scope = []
five_of words (Wildcard n) scope = []
five_of words (Value n k y) scope = []
five_of words (Sigil n k i) scope = []
five_of words (Array n l) scope = []
five_of words (Arith n o l r) scope = []
five_of words (Sum n s l b) scope = five words n (named s) l b scope
five_of words (Count n l b) scope = five words n none l b scope
five_of words (AggregateCall n y) scope = []
