-- `fits` reads the bit of a kind, and none from 64 on fits. Assumes nothing.
use mathlib.Core.Path.{sym, ap, ◌∙◌}
use Prim.Native.Nat.{ℕ}
use borrow.Author.Rules.{rules}
use Rattle.names.specs.Words.{bit}
use Rattle.names.proofs.Bits.{bit_read}
use Rattle.memory.proofs.RowLaws.{fit_low, fit_high}
use Rattle.kinds.proofs.fits.Goals as goal

pub returns-then-kind-ge64 : goal.returns-then-kind-ge64
returns-then-kind-ge64 c = sym (fit_high _ _ c.if-kind-ge64.true)

pub returns : goal.returns
returns c =
    bit_read _ _ ∙ ap (λ (m : ℕ). bit m c.args.kind) c.fitting.ensures ∙ fit_low _ _ (search rules)
