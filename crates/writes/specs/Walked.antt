-- What a walk adds to the entries in a lent buffer. Assumes nothing: these are definitions.
use Rattle.std.specs.Prelude.{◌≡◌, List}
use Rattle.paper.specs.declared.Finding.{Finding}
use Rattle.writes.specs.declared.Entries.{Entries}
use Rattle.writes.specs.Written.{Room, Wrote}

-- the count of so many entries more does not overflow
abbrev pub HasRoom : List Finding → Entries → Type 0
HasRoom fs entries = Room fs entries.count

-- these entries follow those that were there, in the same buffer
pub record Added (fs : List Finding) (before after : Entries) : Type 0 where
  pub same : after.out.ghost_name ≡ before.out.ghost_name
  pub wrote : Wrote fs before.count after.count before.out.now after.out.now
