-- What is left of a list is shorter: 28 bytes at least were taken, or all that there were.
use Rattle.std.proofs.Common.{rules, ◌<◌, length, ap, ◌∙◌}
use native.Mathlib.Omega.{arith}
use Rattle.std.proofs.lemmas.List.{length-drop}
use Rattle.oracle_cases.proofs.stored.first_case.Goals as goal

pub returns : goal.returns
returns c =
    let behind = ap length c.tail-behind.ensures ∙ length-drop 28 c.args.list.now in
    let back = c.split_at.ensures.back_len in
    let some : 0 < length c.args.list.now = search rules in
    omega arith
