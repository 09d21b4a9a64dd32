-- A name's stretch as the struct of the C face: the same numbers. Assumes nothing: these are definitions.
use Rattle.paper.specs.Questions as questions
use Rattle.noravilump.specs.declared.Stretch.{Stretch}

abbrev pub stretch : questions.Stretch → Stretch
stretch s = record { at = s.at; len = s.len }
