-- What it means that a record's nodes are in columns, and what a condition answers that is asked what it ties. Assumes nothing: these are definitions.
use Rattle.std.specs.Prelude.{ℕ, ◌≤◌, ◌≡◌, List, length, Option, Some, None}
use Rattle.paper.specs.Record.{pick}
use Rattle.paper.specs.Tree.{Condition}
use Rattle.paper.specs.Tree.Condition.{And, Or, Not, Past, Since, Exists, Comparison, Predicate, Refine, Tp, Opaque}
use Rattle.paper.specs.FreeAndRestricted.{equality, is_equality}
use Rattle.record.specs.Stored.{contents, held, Has}
use Rattle.paper.specs.declared.Equality.{Equality as Tie}

-- if the bytes have node i, the columns that hold their nodes
pub record Loaded (bytes : List ℕ) (i : ℕ) (loaded : Option (List ℕ)) : Type 0 where
  pub has : {columns : List ℕ} → loaded ≡ Some columns → Has columns i × (held columns ≡ (contents bytes).nodes)
  pub has_not : loaded ≡ None → length (contents bytes).nodes ≤ i

-- document 02, W-205: asked of equalities
unfoldable pub asked : Condition → Option Tie
asked (And n l r) = None
asked (Or n l r) = None
asked (Not n b) = None
asked (Past n k b w) = None
asked (Since n l r w) = None
asked (Exists n s y b) = None
asked (Comparison n o l r) = pick (is_equality o) (Some (equality l r)) None
asked (Predicate n a l) = None
asked (Refine n b l) = None
asked (Tp n s) = None
asked (Opaque n k y) = None
