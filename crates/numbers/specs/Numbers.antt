-- Document 01's numbers for an answer as a struct. Assumes nothing: these are definitions.
use Rattle.paper.specs.Questions as questions
use Rattle.numbers.specs.declared.Asked.{Asked}

abbrev pub asked : questions.Numbers → Asked
asked n = record { number = n.number; place = n.place; name = n.name }
