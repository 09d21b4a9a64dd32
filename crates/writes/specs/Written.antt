-- What a walk leaves in the lent buffer: its entries from a place on, as far as there is room. The count goes on past the end, so that an empty buffer
-- counts, a buffer of one entry has the first, and one with room has them all. Assumes nothing: these are definitions.
use Rattle.std.specs.Prelude.{ℕ, ◌+◌, ◌<◌, ◌^◌, ◌≡◌, List, map, eqb, length, Option, Some, None}
use Rattle.std.proofs.lemmas.List.Edits.{sets}
use Rattle.paper.specs.declared.Finding.{Finding}
use Rattle.paper.specs.Record.{pick}
use Rattle.paper.specs.TheList.{pack, unpack}

-- the count of so many entries more does not overflow
pub record Room (fs : List Finding) (at : ℕ) : Type 0 where
  pub left : at + length fs < 2 ^ 64

pub record Wrote (fs : List Finding) (at next : ℕ) (before after : List ℕ) : Type 0 where
  pub total : next ≡ at + length fs
  pub put : after ≡ sets before at (map pack fs)

-- the first entry of a check that has so many, where this is the number of the first
unfoldable pub first_of : ℕ → ℕ → Option Finding
first_of count v = pick (eqb count 0) None (Some (unpack v))
