-- `precedes` compares eight bytes at a time. The loop's invariant: those before are the same, so that what is left decides. Assumes nothing.
use mathlib.Core.Path.{◌≡◌, sym, ap, refl, ◌∙◌}
use Prim.Native.Nat.{ℕ, ◌+◌, ◌*◌}
use native.Mathlib.Omega.{arith}
use lib.ListN.{drop}
use Rattle.paper.specs.Record.{precedes}
use Rattle.words.proofs.Eights.{typed}
use Rattle.words.proofs.Pairs.{precedes_differ, precedes_next, precedes_end}
use Rattle.words.proofs.precedes.Goals as goal

pub loop-k-init : goal.loop-k-init
loop-k-init c = refl

pub returns-then-x-y : goal.returns-then-x-y
returns-then-x-y c =
    let g = c.well_formed in
    let v = c.loop-k in
    let d = rw (c.eight-x.ensures, c.eight-y.ensures) at c.if-x-y.true in
    rw (c.eight-x.ensures, c.eight-y.ensures) (sym (v.invariant ∙ precedes_differ (typed _ _ g.0) (typed _ _ g.1.0) (8 * v.k) (omega arith) d))

pub loop-k-preserved : goal.loop-k-preserved
loop-k-preserved c =
    let g = c.well_formed in
    let v = c.loop-k in
    let d = rw (c.eight-x.ensures, c.eight-y.ensures) at c.if-x-y.false in
    let e : 8 * v.k + 8 ≡ 8 * (v.k + 1) = omega arith in
    v.invariant ∙ precedes_next (typed _ _ g.0) (typed _ _ g.1.0) (8 * v.k) (omega arith) d ∙ ap (λ (i : ℕ). precedes (drop i c.args.a) (drop i c.args.b)) e

pub returns : goal.returns
returns c =
    let g = c.well_formed in
    let v = c.loop-k in
    let e : 8 * v.k ≡ 24 = omega arith in
    sym (v.invariant ∙ ap (λ (i : ℕ). precedes (drop i c.args.a) (drop i c.args.b)) e ∙ precedes_end (typed _ _ g.0) (typed _ _ g.1.0))
