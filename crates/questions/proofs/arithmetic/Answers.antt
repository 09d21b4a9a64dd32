-- `arithmetic` answers as the definitions do, for all bytes.
use mathlib.Core.Path.{sym, ap, ◌∙◌}
use Rattle.std.specs.Prelude.{Err}
use Rattle.paper.specs.declared.Refusal.{Refusal}
use Rattle.refusals.specs.Passed.{passed}
use Rattle.questions.proofs.ByVerdict.{arithmetic_refused, ready}
use Rattle.questions.proofs.arithmetic.Goals as goal

pub returns-in_default : goal.returns-in_default
returns-in_default c =
    let refusal = c.in_default.is in
    ap (λ (r : Refusal). Err r) (c.passed.ensures ∙ ap passed refusal) ∙ sym (arithmetic_refused _ _ c.read-reading.ensures refusal)

pub arithmetic-requires : goal.arithmetic-requires
arithmetic-requires c = ready _ _ c.read-reading.ensures c.in-Ok.is

pub returns : goal.returns
returns c = c.arithmetic.ensures
