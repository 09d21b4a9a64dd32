-- `Nodes::check` meets its contract: each return has what was found on the way to it. Assumes nothing.
use mathlib.Core.Path.{◌≡◌, sym, ap, ◌∙◌}
use Prim.Native.Nat.{ℕ}
use borrow.Author.Tests.{le-leb, lt-leb}
use Rattle.std.specs.Prelude.{Ok, Err}
use Rattle.std.specs.Result.{IsErrAnd}
use Rattle.std.specs.declared.result.Result.{Result}
use Rattle.memory.specs.declared.Fault.{Fault}
use Rattle.memory.specs.Fields.{checked_in}
use Rattle.fields.proofs.Nodes.check.Goals as goal

-- the error that `?` hands on
handed_on : (r : Result ℕ Fault) (f : Fault) → IsErrAnd r (λ e. e ≡ f) → r ≡ Err f
handed_on (Ok x) f h = absurd h
handed_on (Err e) f h = ap (λ (z : Fault). Err z) h

pub returns-then-first_bad-clause-found : goal.returns-then-first_bad-clause-found
unfolding checked_in
returns-then-first_bad-clause-found c = let h = sym c.first_bad.ensures ∙ c.if-first_bad.true in rw h

pub returns-in_err-one-clause-found : goal.returns-in_err-one-clause-found
unfolding checked_in
returns-in_err-one-clause-found c =
    let h = sym c.first_bad.ensures ∙ c.if-first_bad.false in
    rw (h, ← c.in_err-one.ensures.found, handed_on _ _ c.from_residual.ensures.1)

pub returns-in_err-deep-clause-found : goal.returns-in_err-deep-clause-found
unfolding checked_in
returns-in_err-deep-clause-found c =
    let h = sym c.first_bad.ensures ∙ c.if-first_bad.false in
    let k = c.refer_at.ensures.kept in
    let d = rw (k.0, k.1) at c.in_err-deep.ensures.found in
    rw (h, ← c.in_ok-one.ensures.found, ← d, handed_on _ _ c.from_residual-in_err-deep.ensures.1)

pub returns-then-deep-ge64-clause-found : goal.returns-then-deep-ge64-clause-found
unfolding checked_in
returns-then-deep-ge64-clause-found c =
    let h = sym c.first_bad.ensures ∙ c.if-first_bad.false in
    let k = c.refer_at.ensures.kept in
    let d = rw (k.0, k.1) at c.in_ok-deep.ensures.found in
    rw (h, ← c.in_ok-one.ensures.found, ← d, le-leb _ _ c.if-deep-ge64.true)

pub returns-clause-found : goal.returns-clause-found
unfolding checked_in
returns-clause-found c =
    let h = sym c.first_bad.ensures ∙ c.if-first_bad.false in
    let k = c.refer_at.ensures.kept in
    let d = rw (k.0, k.1) at c.in_ok-deep.ensures.found in
    rw (h, ← c.in_ok-one.ensures.found, ← d, lt-leb _ _ c.if-deep-ge64.false)
