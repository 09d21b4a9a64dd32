-- The parts of the list of a condition that is a root. Assumes nothing: these are definitions.
use Rattle.std.specs.Prelude.{ℕ, ◌+◌, ◌<◌, ◌≤◌, ◌≡◌, Bool, true, ◌&&◌, ◌||◌, List, [], ◌++◌, length}
use Rattle.paper.specs.declared.NodeNo.{NodeNo}
use Rattle.paper.specs.declared.Finding.{Finding}
use Rattle.paper.specs.Record.{pick}
use Rattle.paper.specs.Sets.{Set, none}
use Rattle.paper.specs.Tree.{Condition, Tree, as_condition}
use Rattle.paper.specs.FreeAndRestricted.{free, holds_sigil}
use Rattle.paper.specs.Places.{condition, for_names, findings}
use Rattle.record.specs.Stored.{held, Has}
use Rattle.known.specs.Needs.{has_none, met, sound}
use Rattle.known.specs.Known.{known_of}
use Rattle.writes.specs.Written.{Wrote}
use Rattle.scoping.specs.Scoped.{scoped}
use Rattle.names.specs.Words.{mem}
use Rattle.owed.specs.Demanded.{demanded}
use Rattle.listing.specs.declared.Check.{Check}
use Rattle.listing.specs.declared.Check.TheVariants.{Scoping, Closedness, Demands}

unfoldable pub demands_of : Condition → List Finding
demands_of c = pick (holds_sigil c) [] (demanded true (condition c) none)

-- the part that a check asks for, where the condition is this node
unfoldable pub part_of : Check → NodeNo → Condition → List Finding
part_of (Scoping seed words) n c = scoped (mem words) (condition c) (mem seed)
part_of Closedness n c = findings (for_names 28 n (free c))
part_of Demands n c = demands_of c

-- with these words reserved
unfoldable pub listed : Set → NodeNo → Condition → List Finding
listed words n c = scoped words (condition c) none ++ (findings (for_names 28 n (free c)) ++ demands_of c)

-- by what is known of it, a part has nothing to tell of a root; it may say no where there is nothing
unfoldable pub quiet : Check → Tree → Bool
quiet (Scoping seed words) t = sound (known_of t).broken (known_of t).binds (known_of t).unclosed (known_of t).free (mem words) (mem seed)
quiet Closedness t = has_none (free (as_condition t))
quiet Demands t = holds_sigil (as_condition t) || met (known_of t).need (known_of t).hard none

-- and so has the whole list
unfoldable pub clean : Set → Tree → Bool
clean words t =
    (sound (known_of t).broken (known_of t).binds (known_of t).unclosed (known_of t).free words none && has_none (free (as_condition t)))
    && (holds_sigil (as_condition t) || met (known_of t).need (known_of t).hard none)

-- the columns hold node i, and it is the last
pub record Last (columns : List ℕ) (i : ℕ) : Type 0 where
  pub has : Has columns i
  pub all : length (held columns) ≡ i + 1

-- all entries are in the buffer, or none where it has no room for all
pub record Filled (fs : List Finding) (count : ℕ) (before after : List ℕ) : Type 0 where
  pub total : count ≡ length fs
  pub kept : length before < count → after ≡ before
  pub wrote : count ≤ length before → Wrote fs 0 count before after
