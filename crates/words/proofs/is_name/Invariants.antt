-- `is_name` tests a name's form. The loop's invariant: the bytes passed are well, as `ok` says, and what is left may follow the last of them.
use mathlib.Core.Path.{◌≡◌}
use mathlib.Core.Bool.{◌&&◌}
use lib.ListN.{drop}
use Rattle.paper.specs.Record.{is_name}
use Rattle.words.proofs.Form.{after}
use Rattle.words.proofs.is_name.Given as goal

abbrev pub invariant-loop-y : goal.invariant-loop-y
invariant-loop-y l = is_name l.fn.n ≡ (l.ok && after l.last (drop l.y-index l.fn.n))
