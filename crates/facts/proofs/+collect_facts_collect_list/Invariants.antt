-- The measure is the node's number. Along a list, the rows of the cells passed are there, and what was gathered is what they come to.
use Rattle.std.proofs.Common.{◌≤◌}
use Rattle.known.specs.Rows.{meant}
use Rattle.known.proofs.ListLaws.{Along}
use Rattle.facts.proofs.+collect_facts_collect_list.Given as goal

abbrev pub decreases-collect_facts : goal.decreases-collect_facts
decreases-collect_facts l = l.i.0

abbrev pub decreases-collect_list : goal.decreases-collect_list
decreases-collect_list l = l.list.0

abbrev pub invariant-collect_list-loop-term : goal.invariant-collect_list-loop-term
invariant-collect_list-loop-term l = (l.at.0 ≤ l.list.0) × Along l.columns l.initial.rows l.rows (meant l.all) l.list.0 l.at.0

abbrev pub decreases-collect_list-loop-term : goal.decreases-collect_list-loop-term
decreases-collect_list-loop-term l = l.at.0
