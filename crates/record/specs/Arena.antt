-- What the reader answers. Assumes nothing: these are definitions.
use Rattle.std.specs.Prelude.{ℕ, ◌≡◌, List}
use Rattle.paper.specs.TurnedAway.{Contents, accepted, verdict, read}
use Rattle.memory.specs.Starts.{Holds}
use Rattle.record.specs.declared.reader.Reading.{Reading}

pub record Read (bytes : List ℕ) (r : Reading) : Type 0 where
  pub said : r.verdict ≡ verdict (read bytes)
  pub held : (c : Contents) → read bytes ≡ accepted c → Holds bytes c r.arena.starts r.arena.reserved
