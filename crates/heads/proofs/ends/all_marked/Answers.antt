-- `ends::all_marked` meets its contract. The loop's invariant: `all` says whether each node passed is marked. Assumes nothing.
use mathlib.Core.Path.{◌≡◌, refl, ◌∙◌}
use mathlib.Core.Bool.{and_comm}
use Prim.Native.Nat.{◌<◌}
use native.Mathlib.Omega.{arith}
use lib.Seq.{get_or-take, length-take-le}
use Rattle.paper.specs.Sets.{all_below}
use Rattle.memory.proofs.EndLaws.{all_next}
use Rattle.heads.proofs.ends.all_marked.Goals as goal

pub loop-mark-init : goal.loop-mark-init
unfolding all_below
loop-mark-init c = refl

pub loop-mark-preserved : goal.loop-mark-preserved
loop-mark-preserved c =
    let v = c.loop-mark in
    let used = c.args.used.now in
    let l = length-take-le c.args.n used (omega arith) in
    let h : v.mark-index < c.args.n = omega arith in
    rw (get_or-take c.args.n used v.mark-index 0 h) (and_comm v.all _ ∙ all_next _ _ v.invariant)

pub returns : goal.returns
returns c =
    let v = c.loop-mark in
    let l = length-take-le c.args.n c.args.used.now (omega arith) in
    let e : v.mark-index ≡ c.args.n = omega arith in rw e at v.invariant
