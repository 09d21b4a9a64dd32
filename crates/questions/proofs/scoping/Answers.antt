-- `scoping` answers as the definitions do, for all bytes and every seed.
use mathlib.Core.Path.{sym, ap, ◌∙◌}
use Rattle.std.specs.Prelude.{Err}
use Rattle.paper.specs.declared.Refusal.{Refusal}
use Rattle.paper.specs.Questions.{scoping}
use Rattle.accepted.specs.Ready.{ReservedFor, part_asked}
use Rattle.refusals.specs.Passed.{passed}
use Rattle.questions.proofs.ByVerdict.{answered_refused, ready, reserves}
use Rattle.questions.proofs.scoping.Goals as goal

pub returns-in_default : goal.returns-in_default
unfolding scoping
returns-in_default c =
    let refusal = c.in_default.is in
    ap (λ (r : Refusal). Err r) (c.passed.ensures ∙ ap passed refusal) ∙ sym (answered_refused _ _ c.read-reading.ensures refusal _)

pub answer_check-requires : goal.answer_check-requires
unfolding ReservedFor
answer_check-requires c = (ready _ _ c.read-reading.ensures c.in-Ok.is, reserves _ _ c.read-reading.ensures c.in-Ok.is)

pub returns : goal.returns
unfolding scoping part_asked
returns c = c.answer_check.ensures
