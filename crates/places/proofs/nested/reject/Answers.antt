use Rattle.paper.specs.Places.{findings}
use Rattle.places.proofs.nested.reject.Goals as goal

pub put-requires : goal.put-requires
unfolding findings
put-requires c = c.requires

pub returns : goal.returns
unfolding findings
returns c = c.put.ensures
