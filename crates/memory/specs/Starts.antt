-- Where the nodes of a record lie, and what a walk over the records comes to. Assumes nothing: these are definitions.
use Rattle.std.specs.Prelude.{ℕ, zero, suc, ◌+◌, ◌*◌, ◌<◌, ◌≡◌, List, length, get_or}
use Rattle.paper.specs.Record.{announced, body_bytes}
use Rattle.paper.specs.TurnedAway.{Contents, accepted, verdict, read}
use Rattle.paper.specs.Scoping.{reserved}
use Rattle.names.specs.Words.{mem}
use Rattle.names.specs.declared.Names.{Names}
use Rattle.memory.specs.declared.Scanned.{Scanned}

-- where node i's record begins: after the format record of 2 bytes, so many name records of 25, and the nodes before it
unfoldable pub start_of : List ℕ → ℕ → ℕ → ℕ
start_of bytes names zero = 2 + 25 * names
start_of bytes names (suc i) = start_of bytes names i + 1 + body_bytes (announced (get_or bytes (start_of bytes names i) 0))

-- what the starts and the reserved names say of accepted bytes
pub record Holds (bytes : List ℕ) (c : Contents) (places : List ℕ) (set : Names) : Type 0 where
  pub starts : (i : ℕ) → i < length c.nodes → get_or places i 0 ≡ start_of bytes (length c.names) i
  pub words : mem set ≡ reserved c.names

pub record Scan (bytes : List ℕ) (r : Scanned) (starts : List ℕ) : Type 0 where
  pub said : r.verdict ≡ verdict (read bytes)
  pub held : (c : Contents) → read bytes ≡ accepted c → Holds bytes c starts r.reserved
