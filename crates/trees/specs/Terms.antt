-- Whether a wildcard stands in a term, or among the terms of a list, which are walked as a term is; and slots whose name is in the table. Assumes nothing: these are definitions.
use Rattle.std.specs.Prelude.{◌<◌, Bool, false, ◌||◌}
use Rattle.paper.specs.declared.Slot.{Slot}
use Rattle.paper.specs.declared.Slot.TheVariants.{Name, Param, Binder}
use Rattle.paper.specs.declared.Equality.{Equality}
use Rattle.paper.specs.declared.Equality.TheVariants.{Left, Right, Nothing}
use Rattle.paper.specs.Tree.{Arguments, Tree}
use Rattle.paper.specs.Tree.Arguments.{no_argument, argument}
use Rattle.paper.specs.FreeAndRestricted.{has_wildcard, items_wildcard}
use Rattle.trees.specs.Trees.{in_terms}

-- the paper asks no argument for a wildcard; a list of them is walked as any other
unfoldable pub arguments_wildcard : Arguments → Bool
arguments_wildcard (no_argument n) = false
arguments_wildcard (argument n f t l) = has_wildcard t || arguments_wildcard l

abbrev pub wildcard_in : Tree → Bool
wildcard_in t = in_terms has_wildcard arguments_wildcard items_wildcard false t

-- the name of a slot is in the table
abbrev pub Tabled : Slot → Type 0
Tabled (Name x) = x.0 < 128
Tabled (Param k) = Unit {0}
Tabled (Binder k) = Unit {0}

-- and so is the name that an equality ties
abbrev pub TabledTied : Equality → Type 0
TabledTied (Left x) = x.0 < 128
TabledTied (Right x) = x.0 < 128
TabledTied (Nothing why) = Unit {0}
