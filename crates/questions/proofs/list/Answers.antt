-- `list` answers as the definitions do, and leaves in the buffer what they say, for all bytes and every buffer.
use mathlib.Core.Path.{sym, ap, ◌∙◌}
use Rattle.std.specs.Prelude.{Err}
use Rattle.paper.specs.declared.Refusal.{Refusal}
use Rattle.paper.specs.declared.Unlisted.{Unlisted}
use Rattle.paper.specs.declared.Unlisted.TheVariants.{Refused}
use Rattle.refusals.specs.Passed.{passed}
use Rattle.questions.proofs.ByVerdict.{list_refused, ready, reserves, counted}
use Rattle.questions.proofs.list.Goals as goal

pub returns-in_default : goal.returns-in_default
returns-in_default c =
    let refusal = c.in_default.is in
    let l = list_refused _ _ c.read-reading.ensures refusal _ in
    let same = c.passed.ensures ∙ ap passed refusal in
    (ap (λ (u : Unlisted). Err u) (c.from.ensures ∙ ap Refused same) ∙ sym l.0, sym l.1)

pub list-requires : goal.list-requires
list-requires c =
    let accepted = c.in-Ok.is in
    (ready _ _ c.read-reading.ensures accepted, reserves _ _ c.read-reading.ensures accepted, counted _ _ c.read-reading.ensures accepted)

pub returns : goal.returns
returns c = c.list.ensures
