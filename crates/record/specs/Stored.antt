-- What the definitions say of bytes: their names and nodes, none where they are turned away; that an arena has where they begin; and that columns hold nodes which
-- a walk may count on. Assumes nothing: these are definitions.
use Rattle.std.specs.Prelude.{ℕ, ◌<◌, ◌≡◌, List, [], length, get_or}
use Rattle.paper.specs.TurnedAway.{Contents, Outcome, refused, accepted, read}
use Rattle.paper.proofs.WellFormed.{WellFormed}
use Rattle.memory.specs.Starts.{start_of}
pub use Rattle.memory.specs.Columns.{held}

unfoldable pub contents_of : Outcome → Contents
contents_of (refused number offset) = record { names = []; nodes = [] }
contents_of (accepted c) = c

abbrev pub contents : List ℕ → Contents
contents bytes = contents_of (read bytes)

-- each node of the bytes has its start in the array
pub record Stored (bytes starts : List ℕ) : Type 0 where
  pub starts_are : (i : ℕ) → i < length (contents bytes).nodes → get_or starts i 0 ≡ start_of bytes (length (contents bytes).names) i

-- the nodes that the columns hold are well formed over some table of names, whether or not they were read from bytes
pub record Formed (columns : List ℕ) : Type 0 where
  pub names : List (List ℕ)
  pub formed : WellFormed (record { names = names; nodes = held columns })

-- node i is one of them
abbrev pub Has : List ℕ → ℕ → Type 0
Has columns i = Formed columns × (i < length (held columns))
