-- `is_name` tests a name's form. The loop's invariant: the bytes passed are well, as `ok` says, and what is left may follow the last of them.
use mathlib.Core.Path.{sym, ◌∙◌}
use native.Mathlib.Omega.{arith}
use Rattle.words.proofs.Form.{joined, none_left, after_step, after_end, is_name_start}
use Rattle.words.proofs.is_name.Goals as goal

pub loop-y-init : goal.loop-y-init
loop-y-init c = rw c.letter-ok.ensures (is_name_start _ (omega arith))

pub loop-y-preserved : goal.loop-y-preserved
loop-y-preserved c =
    let v = c.loop-y in
    rw c.word_byte.ensures (v.invariant ∙ joined v.ok _ _ (after_step _ v.y-index (omega arith) v.last))

pub returns : goal.returns
returns c =
    let v = c.loop-y in
    sym (v.invariant ∙ none_left v.ok (after_end _ v.y-index (omega arith) v.last))
