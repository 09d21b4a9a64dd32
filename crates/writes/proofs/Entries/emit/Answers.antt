-- `emit` writes the entries for the names of a set, ascending: the entries written so far and those of the names that are left are all.
use mathlib.Core.Path.{sym, ap, ◌∙◌}
use mathlib.Core.List.{List, [], ◌∷◌, ◌++◌, append_assoc}
use Rattle.paper.specs.declared.NameNo.{NameNo}
use Rattle.names.specs.declared.Names.{Names}
use Rattle.names.specs.Words.{mem}
use Rattle.names.specs.Ascending.{ascending}
use Rattle.writes.proofs.WriteLaws.{added_none, added_then}
use Rattle.writes.proofs.NameLaws.{for_each, for_ascending}
use Rattle.writes.proofs.Entries.emit.Goals as goal

pub loop-x-init : goal.loop-x-init
loop-x-init c = (
  [],
  for_ascending _ _ _ ∙ ap (λ (s : Names). for_each c.args.rule c.args.node (ascending (mem s))) (sym c.into_iter-x-iterator.ensures.into_iter_gives),
  added_none,
)

pub loop-x-preserved : goal.loop-x-preserved
loop-x-preserved c =
    let i = c.loop-x.invariant in (
      i.0 ++ _ ∷ [],
      i.1 ∙ ap (λ (l : List NameNo). i.0 ++ for_each c.args.rule c.args.node l) c.in-Some.ensures.steps ∙ sym (append_assoc i.0 (_ ∷ []) _),
      added_then i.2 c.put.ensures,
    )
