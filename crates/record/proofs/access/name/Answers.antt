-- `name` meets its contract: nothing where the record is turned away or the number is unknown, and else the name where it stands. Assumes nothing.
use mathlib.Core.Path.{sym, ap, ◌∙◌}
use lib.ListN.{take}
use lib.Seq.{drop-length}
use Rattle.paper.specs.TheList.{trimmed}
use Rattle.record.proofs.StoredLaws.{name_refused, name_unknown, name_known}
use Rattle.record.proofs.access.name.Goals as goal

pub returns-in_default : goal.returns-in_default
returns-in_default c =
    c.stretch.ensures ∙ ap (take 24) (drop-length c.args.bytes.now)
    ∙ sym (name_refused _ _ _ (sym c.read-reading.ensures.said ∙ c.in_default.is))

pub returns-then-counts-k : goal.returns-then-counts-k
returns-then-counts-k c = sym (name_unknown _ _ _ _ (sym c.read-reading.ensures.said ∙ c.in-Ok.is) c.if-counts-k.true)

pub returns : goal.returns
returns c =
    c.unpadded.ensures ∙ ap trimmed c.stretch-2.ensures
    ∙ name_known _ _ _ _ (sym c.read-reading.ensures.said ∙ c.in-Ok.is) c.if-counts-k.false
