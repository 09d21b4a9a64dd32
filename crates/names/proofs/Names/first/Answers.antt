use mathlib.Core.Path.{sym, ap, ◌∙◌}
use Prim.Native.Nat.{ℕ, ◌+◌}
use borrow.Author.Rules.{rules}
use Rattle.names.specs.Words.{bit}
use Rattle.names.specs.Least.{least}
use Rattle.names.proofs.LeastLaws.{least_most, some_bit, no_least, mem_least_low, mem_least_high}
use Rattle.names.proofs.Names.first.Goals as goal

pub overflow_cast-result : goal.overflow_cast-result
overflow_cast-result c = let m = least_most (bit c.args.self.lo) 64 in search rules

pub returns-then-self-ne0-clause-some : goal.returns-then-self-ne0-clause-some
returns-then-self-ne0-clause-some c =
    let m = least_most (bit c.args.self.lo) 64 in
    (search rules, c.lowest.ensures ∙ mem_least_low c.args.self (search rules) c.if-self-ne0.true)

pub overflow_add-result : goal.overflow_add-result
overflow_add-result c = let m = least_most (bit c.args.self.hi) 64 in search rules

pub overflow_cast-result-then-self-ne0-2 : goal.overflow_cast-result-then-self-ne0-2
overflow_cast-result-then-self-ne0-2 c = let m = least_most (bit c.args.self.hi) 64 in search rules

pub returns-then-self-ne0-2-clause-some : goal.returns-then-self-ne0-2-clause-some
returns-then-self-ne0-2-clause-some c =
    let m = some_bit 64 c.args.self.hi (search rules) c.if-self-ne0-2.true in
    (search rules, ap (λ (x : ℕ). 64 + x) c.lowest-then-self-ne0-2.ensures ∙ mem_least_high c.args.self c.if-self-ne0.false)

pub returns-clause-none : goal.returns-clause-none
returns-clause-none c =
    sym (mem_least_high c.args.self c.if-self-ne0.false) ∙ ap (λ (w : ℕ). 64 + least (bit w) 64) c.if-self-ne0-2.false ∙ ap (λ (x : ℕ). 64 + x) (no_least 64)
