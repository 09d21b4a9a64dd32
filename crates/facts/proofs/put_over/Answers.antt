-- `put_over` puts a node's facts, which are those of its tree. Assumes nothing.
use mathlib.Core.Path.{refl}
use Rattle.known.proofs.RowLaws.{put_long}
use Rattle.known.proofs.NodeLaws.{sound, own_put}
use Rattle.facts.proofs.put_over.Goals as goal

pub over_facts-f-requires : goal.over_facts-f-requires
over_facts-f-requires c = (c.requires.has.0, c.requires.has.2, sound c.requires.has.0 refl c.requires.has.1 c.requires.all)

pub put_facts-requires : goal.put_facts-requires
put_facts-requires c = c.requires.has.1

pub shape_of-rows : goal.shape_of-rows
shape_of-rows c = put_long c.put_facts.ensures

pub returns : goal.returns
returns c = own_put c.requires.has.0 refl c.over_facts-f.ensures c.requires.has.1 c.put_facts.ensures
