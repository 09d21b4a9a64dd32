-- The end record over the reader's arrays. Assumes nothing: these are definitions.
use Rattle.std.specs.Prelude.{ℕ, ◌-◌, not, ◌&&◌, List, eqb, length, get_or, Result, Ok, Err}
use Rattle.paper.specs.declared.Counts.{Counts}
use Rattle.paper.specs.declared.Refusal.{Refusal}
use Rattle.paper.specs.Sets.{Set, all_below}
use Rattle.paper.specs.Record.{pick, condition, fits, two_bytes}
use Rattle.paper.specs.TurnedAway.{counts, refusal}

-- the nodes that are marked
abbrev pub marks : List ℕ → Set
marks used k = not (eqb (get_or used k 0) 0)

unfoldable pub rooted_in : ℕ → ℕ → ℕ → List ℕ → List ℕ → Result Counts Refusal
rooted_in at names nodes kinds used =
    pick (not (eqb nodes 0) && (fits condition (get_or kinds (nodes - 1) 0) && all_below (nodes - 1) (marks used))) (Ok (counts names nodes)) (Err (refusal 13 at))

unfoldable pub ended_in : List ℕ → ℕ → ℕ → ℕ → List ℕ → List ℕ → Result Counts Refusal
ended_in b at names nodes kinds used = pick (eqb (two_bytes b) nodes && eqb (length b) 2) (rooted_in at names nodes kinds used) (Err (refusal 12 at))
