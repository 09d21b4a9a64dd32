-- The refusal that every question passes up. Assumes nothing: this is a definition.
use Rattle.std.specs.Prelude.{Result, Ok, Err}
use Rattle.paper.specs.declared.Counts.{Counts}
use Rattle.paper.specs.declared.Refusal.{Refusal}
use Rattle.paper.specs.TurnedAway.{refusal}

abbrev pub passed : Result Counts Refusal → Refusal
passed (Err r) = r
passed (Ok c) = refusal 1 0
