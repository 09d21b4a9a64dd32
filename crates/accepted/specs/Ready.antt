-- What a question hands on once the reader has accepted the bytes. Assumes nothing: these are definitions.
use Rattle.std.specs.Prelude.{ℕ, ◌≡◌, List, Ok}
use Rattle.paper.specs.declared.Finding.{Finding}
use Rattle.paper.specs.TurnedAway.{Contents, counts, verdict, read}
use Rattle.paper.specs.Scoping.{reserved, scoping_part}
use Rattle.paper.specs.Demands.{closedness_part, demands_part}
use Rattle.names.specs.declared.Names.{Names}
use Rattle.names.specs.Words.{mem}
use Rattle.record.specs.Stored.{contents, Stored}
use Rattle.listing.specs.declared.Check.{Check}
use Rattle.listing.specs.declared.Check.TheVariants.{Scoping, Closedness, Demands}

-- the bytes are accepted with so many nodes, and the array has where each begins
pub record Ready (bytes starts : List ℕ) (nodes : ℕ) : Type 0 where
  pub names : ℕ
  pub counted : verdict (read bytes) ≡ Ok (counts names nodes)
  pub stored : Stored bytes starts

-- and with so many names
abbrev pub Counted : List ℕ → ℕ → ℕ → Type 0
Counted bytes names nodes = verdict (read bytes) ≡ Ok (counts names nodes)

-- these are the reserved words among the bytes' names
abbrev pub Reserved : List ℕ → Names → Type 0
Reserved bytes words = mem words ≡ reserved (contents bytes).names

-- the part of the definitions that a check asks for
unfoldable pub part_asked : Check → Contents → List Finding
part_asked (Scoping seed words) c = scoping_part c (mem seed)
part_asked Closedness c = closedness_part c
part_asked Demands c = demands_part c

-- the words that a check is asked with are the reserved ones; scoping alone is asked with any
unfoldable pub ReservedFor : List ℕ → Check → Type 0
ReservedFor bytes (Scoping seed words) = Reserved bytes words
ReservedFor bytes Closedness = Unit {0}
ReservedFor bytes Demands = Unit {0}
